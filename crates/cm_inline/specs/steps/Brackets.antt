-- A source as far as it is read: its items so far with the marks that stand for them, and the brackets among them that are open.
use Rattle.std.specs.Prelude.{◌≡◌, ℕ, ◌+◌, ◌<◌, ◌≤◌, ◌^◌, Bool, true, false, nat_lt, not, ◌&&◌, ◌||◌, IsUtf8, List, [], ◌∷◌, ◌++◌, length, drop, reverse, slice_index, if◌then◌else◌, Option, Some, None}
use Rattle.std.specs.List.{slice_range}
use Rattle.std.specs.Str.{IsCharBoundary}
use Rattle.cm_text.specs.Rules.{Rules}
use Rattle.cm_tree.specs.Definitions.{Targets}
use Rattle.cm_scan.specs.inlines.Pairing.{Item, Opener, bracket_text}
use Rattle.cm_scan.specs.inlines.Brackets.{Defined, LinkEnd, Bracketed, defined_in, holds_link, close_bracket, end_at}
use Rattle.cm_scan.specs.inlines.Inlines as inlines
use Rattle.cm_scan.specs.inlines.Pieces.{in_pieces}
use Rattle.cm_inline.specs.declared.brackets.Bracket.{Bracket}
use Rattle.cm_inline.specs.declared.brackets.Link.{Link}
use Rattle.cm_inline.specs.declared.brackets.Reader.{Reader}
use Rattle.cm_inline.specs.declared.atoms.Atom.{Atom}
use Rattle.cm_inline.specs.declared.atoms.Atom.TheVariants as atoms
use Rattle.cm_inline.specs.declared.marks.Mark.{Mark}
use Rattle.cm_inline.specs.declared.marks.Kind.TheVariants as kinds
use Rattle.cm_inline.specs.declared.marks.Kind.TheVariants.{Plain}
use Rattle.cm_inline.specs.declared.missing_ends.MissingEnds.{MissingEnds}
use Rattle.cm_inline.specs.declared.pairing.Pair.{Pair as HeldPair}
use Rattle.cm_inline.specs.declared.runs.Run.{Run as HeldRun}
use Rattle.cm_inline.specs.steps.pairing.Events.{Event, Text}
use Rattle.cm_inline.specs.steps.pairing.Paired.{AreRuns}
use Rattle.cm_inline.specs.steps.pairing.Parts.{Known, events_of}
use Rattle.cm_inline.specs.steps.pairing.States.{AreChained}
use Rattle.cm_inline.specs.steps.pairing.Passes.{number_after}
use Rattle.cm_inline.specs.steps.pairing.Readings.{starts_in}
use Rattle.cm_inline.specs.steps.pairing.Segments.{Segment, Made, items_in, all_parts, numbers_in, AreSegments}
use Rattle.cm_inline.specs.steps.Marks.{mark_at, parts_between, is_escaped, AreLaid}
use Rattle.cm_inline.specs.steps.Missing.{Knows}
use Rattle.cm_inline.specs.steps.Reads.{Begins, Pays, ahead}
use Rattle.cm_inline.specs.steps.Runs.{runs_in, pairs_in}

-- what marks are read with: the source, its definitions, and the runs and links of the leaf; and where its links end
pub record MarkedLeaf : Type 0 where
  pub lines : Bool
  pub source : List ℕ
  pub targets : Targets
  pub runs : List HeldRun
  pub links : List Link
  pub links_end : ℕ

-- no bracket is open among items
abbrev pub is_opener : Item → Bool
is_opener (Opener image source) = true
is_opener _ = false

unfoldable pub has_opener : List Item → Bool
has_opener [] = false
has_opener (item ∷ items) = is_opener item || has_opener items

-- Segments without an open bracket are those of the marks between two places.
pub record AreClosed (leaf : MarkedLeaf) (from to : ℕ) (segments : List Segment) (marks : List Mark) : Type 0 where
  pub parts : all_parts segments ≡ parts_between leaf.source leaf.targets leaf.links from to marks
  pub laid : AreLaid leaf.lines leaf.source leaf.targets leaf.runs leaf.links from to marks
  pub none : has_opener (items_in segments) ≡ false

-- `[` or `![` is between these places.
pub record IsOpener (source : List ℕ) (image : Bool) (at after : ℕ) : Type 0 where
  pub place : at + length (bracket_text image) ≡ after
  pub front : drop at source ≡ bracket_text image ++ drop after source
  pub start : IsCharBoundary source at
  pub end : IsCharBoundary source after

-- the segment of an open bracket
abbrev pub opened : List ℕ → Bracket → (high : ℕ) → Segment
opened source b high = Made (Known (Text (bracket_text b.image) ∷ []) ∷ []) (Opener b.image (drop b.end source)) high

-- The last open bracket, with what is before and after it, and whether a link follows: after it, or after all these segments.
pub record Level (Below : List Segment → List Mark → ℕ → Bool → Type 0) (leaf : MarkedLeaf) (b : Bracket) (segments : List Segment) (marks : List Mark) (to : ℕ) (linked : Bool) : Type 0 where
  pub front : List Segment
  pub high : ℕ
  pub inside : List Segment
  pub early : List Mark
  pub at : ℕ
  pub late : List Mark
  pub whole : segments ≡ front ++ opened leaf.source b high ∷ inside
  pub marks_are : marks ≡ early ++ record { at = at; end = b.end; kind = Plain } ∷ late
  pub closed : AreClosed leaf b.end to inside late
  pub bracket : IsOpener leaf.source b.image at b.end
  pub number : b.mark ≡ length early
  pub waiting : b.waiting ≡ length (numbers_in front)
  pub link : nat_lt b.mark leaf.links_end ≡ holds_link (items_in inside) || linked
  pub below : Below front early at (holds_link (items_in inside) || linked)

-- segments up to a place with these open brackets, the last first
abbrev pub AreOpen : MarkedLeaf → List Bracket → List Segment → List Mark → ℕ → Bool → Type 0
AreOpen leaf [] segments marks to linked = AreClosed leaf 0 to segments marks
AreOpen leaf (b ∷ bs) segments marks to linked = Level (AreOpen leaf bs) leaf b segments marks to linked

-- A reader without its brackets.
pub record View : Type 0 where
  pub lines : Bool
  pub marks : List Mark
  pub runs : List HeldRun
  pub waiting : List ℕ
  pub pairs : List HeldPair
  pub links : List Link
  pub links_end : ℕ
  pub ends : MissingEnds

abbrev pub view_of : Reader → View
view_of reader = record {
  lines = reader.lines;
  marks = reader.marks.items;
  runs = reader.runs.list.runs;
  waiting = reader.runs.waiting.items;
  pairs = reader.runs.pairs.items;
  links = reader.links.items;
  links_end = reader.links_end;
  ends = reader.ends;
}

abbrev pub leaf_of : List ℕ → Targets → View → MarkedLeaf
leaf_of source targets v = record { lines = v.lines; source = source; targets = targets; runs = v.runs; links = v.links; links_end = v.links_end }

-- the events that the parts of segments are
abbrev pub events_for : View → List Segment → List Event
events_for v segments = events_of (runs_in v.runs) (pairs_in v.pairs) (all_parts segments)

-- A source whose places have 32 bits is read up to one of them, with these brackets open, the last first.
pub record IsRead (source : List ℕ) (targets : Targets) (at : ℕ) (v : View) (brackets : List Bracket) (segments : List Segment) : Type 0 where
  pub short : length source < 2 ^ 32
  pub utf8 : IsUtf8 source
  pub boundary : IsCharBoundary source at
  pub knows : Knows source v.ends
  pub open_are : AreOpen (leaf_of source targets v) brackets segments v.marks at false
  pub segments_are : AreSegments (runs_in v.runs) (pairs_in v.pairs) 0 segments
  pub runs_are : AreRuns segments
  pub waiting : v.waiting ≡ numbers_in segments
  pub chained : AreChained (runs_in v.runs) (pairs_in v.pairs)
  pub links_low : v.links_end ≤ length v.marks
  pub few_runs : length v.runs ≤ at
  pub few_links : length v.links ≤ at
  pub high : number_after 0 segments ≤ length v.runs
  pub starts : starts_in (events_for v segments) ≤ length v.pairs + length v.links

abbrev pub IsReadTo : List ℕ → Targets → ℕ → Reader → List Segment → Type 0
IsReadTo source targets at reader segments = IsRead source targets at (view_of reader) (reverse reader.brackets.items) segments

-- Reading on from there gives the items of the whole source, and the looks so far are paid for.
pub record Reading (rules : Rules) (source : List ℕ) (targets : Targets) (at : ℕ) (reader : Reader) : Type 0 where
  pub segments : List Segment
  pub read : IsReadTo source targets at reader segments
  pub goes : ahead rules (defined_in targets) source (items_in segments) at ≡ in_pieces (inlines.items_of rules (defined_in targets) source)
  pub pays : Pays rules (defined_in targets) source (items_in segments) at reader.runs.list.looks

-- what a `]` at a place makes of items, and what it leaves of the source
abbrev pub closed_at : Rules → Defined → List ℕ → List Item → ℕ → Bracketed
closed_at rules defined source items at = close_bracket rules defined (reverse items) (drop (at + 1) source)

-- what follows the `]` at a place that makes a link or an image of the bracket
abbrev pub end_for : Rules → Defined → List ℕ → Bracket → (links_end at : ℕ) → Option LinkEnd
end_for rules defined source bracket links_end at = elim (not bracket.image && nat_lt bracket.mark links_end) [
  | true ↦ None
  | false ↦ end_at rules defined (slice_range source bracket.end at) (drop (at + 1) source)
]

-- the marks of an atom that was read, where its run would get the number
abbrev pub marks_for : (lines : Bool) → List ℕ → (at end number : ℕ) → Atom → List Mark
marks_for lines source at end number atoms.Text = []
marks_for lines source at end number atoms.Escaped = mark_at at end kinds.Escaped ∷ []
marks_for lines source at end number atoms.Escape = mark_at at (at + 1) kinds.Nothing ∷ (if is_escaped (slice_index source (at + 1)) then mark_at (at + 1) end kinds.Escaped ∷ [] else [])
marks_for lines source at end number (atoms.Reference chars) = mark_at at end (kinds.Character chars.first) ∷ elim chars.second [ None ↦ [] | Some second ↦ mark_at end end (kinds.Character second) ∷ [] ]
marks_for lines source at end number (atoms.Whole kind) = mark_at at end kind ∷ []
marks_for lines source at end number atoms.LineFeed = if lines then mark_at at end kinds.Soft ∷ [] else []
marks_for lines source at end number (atoms.Opener image) = mark_at at end kinds.Plain ∷ []
marks_for lines source at end number (atoms.Run run) = mark_at at end (kinds.Run number) ∷ []

-- its run, and the bracket that it opens
abbrev pub runs_for : Atom → List HeldRun
runs_for (atoms.Run run) = record { run = run; opened = 0; from = 0; to = 0 } ∷ []
runs_for _ = []

abbrev pub numbers_for : (number : ℕ) → Atom → List ℕ
numbers_for number (atoms.Run run) = number ∷ []
numbers_for number _ = []

abbrev pub brackets_for : (mark waiting end : ℕ) → Atom → List Bracket
brackets_for mark waiting end (atoms.Opener image) = record { mark = mark; image = image; end = end; waiting = waiting } ∷ []
brackets_for mark waiting end _ = []

-- An atom at a place, which ends at the other, was put. What is known of the source may be more, and all else is as it was.
pub record Puts (rules : Rules) (source : List ℕ) (at end : ℕ) (old new : Reader) : Type 0 where
  pub atom : Atom
  pub begins : Begins rules source at atom end
  pub marks : new.marks.items ≡ old.marks.items ++ marks_for old.lines source at end (length old.runs.list.runs) atom
  pub runs : new.runs.list.runs ≡ old.runs.list.runs ++ runs_for atom
  pub waiting : new.runs.waiting.items ≡ old.runs.waiting.items ++ numbers_for (length old.runs.list.runs) atom
  pub pairs : new.runs.pairs ≡ old.runs.pairs
  pub looks : new.runs.list.looks ≡ old.runs.list.looks
  pub links : new.links ≡ old.links
  pub brackets : new.brackets.items ≡ old.brackets.items ++ brackets_for (length old.marks.items) (length old.runs.waiting.items) end atom
  pub links_end : new.links_end ≡ old.links_end
  pub lines : new.lines ≡ old.lines
  pub knows : Knows source new.ends
