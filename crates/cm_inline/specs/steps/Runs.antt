-- What the program's delimiter runs, entries and pairs stand for in the definitions.
use Rattle.std.specs.Prelude.{ℕ, List, map}
use Rattle.cm_scan.specs.inlines.Delimiters.{Run}
use Rattle.cm_scan.specs.inlines.Delimiters as delimiters
use Rattle.cm_inline.specs.declared.flanking.Neighbour.{Neighbour}
use Rattle.cm_inline.specs.declared.delimiter_runs.DelimiterRun.{DelimiterRun}
use Rattle.cm_inline.specs.declared.delimiter_runs.Marker.{Marker}
use Rattle.cm_inline.specs.declared.runs.Run.{Run as HeldRun}
use Rattle.cm_inline.specs.declared.pairing.Pair.{Pair as HeldPair}
use Rattle.cm_inline.specs.declared.pairing.Emphasis.{Emphasis}
use Rattle.cm_inline.specs.steps.pairing.Events.{Tag}
use Rattle.cm_inline.specs.steps.pairing.Events as tags
use Rattle.cm_inline.specs.steps.pairing.Parts.{Pair, PairedRun}
use Rattle.cm_inline.specs.steps.Entries.{Entry}

abbrev pub byte_of : Marker → ℕ
byte_of Marker.Star = 42
byte_of Marker.Underscore = 95
byte_of Marker.Tilde = 126

abbrev pub neighbour_of : Neighbour → delimiters.Neighbour
neighbour_of Neighbour.Whitespace = delimiters.whitespace
neighbour_of Neighbour.Punctuation = delimiters.punctuation
neighbour_of Neighbour.Other = delimiters.other

abbrev pub run_of : DelimiterRun → Run
run_of r = record { character = byte_of r.marker; whole = r.whole; left = r.left; opens = r.opens; closes = r.closes }

-- the entry that a run with a number is
abbrev pub entry_of : ℕ → HeldRun → Entry
entry_of number r = record { place = number; run = run_of r.run }

-- the runs, the entries of the list, the last first, and how often one was read
pub record Listing : Type 0 where
  pub runs : List HeldRun
  pub entries : List Entry
  pub looks : ℕ

-- a run with its pairs, and the runs of a leaf
abbrev pub paired_run : HeldRun → PairedRun
paired_run r = record { run = run_of r.run; opened = r.opened; from = r.from; to = r.to }

abbrev pub runs_in : List HeldRun → List PairedRun
runs_in runs = map paired_run runs

abbrev pub tag_in : Emphasis → Tag
tag_in Emphasis.Emph = tags.Emphasis
tag_in Emphasis.Strong = tags.StrongEmphasis
tag_in Emphasis.Strike = tags.Strikethrough

abbrev pub pair_in : HeldPair → Pair
pair_in p = record { tag = tag_in p.emphasis; before = p.before }

abbrev pub pairs_in : List HeldPair → List Pair
pairs_in pairs = map pair_in pairs
