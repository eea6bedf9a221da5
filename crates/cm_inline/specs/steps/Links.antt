-- Where a link or an image leads, and the place where it ends.
use Rattle.std.specs.Prelude.{◌≡◌, ℕ, ◌+◌, ◌-◌, ◌<◌, ◌≤◌, List, drop, slice_index, Option, Some, None, option_map, codes}
use Rattle.std.specs.Borrow.{Bor}
use Rattle.std.specs.Str.{IsCharBoundary, byte}
use Rattle.cm_tree.specs.Definitions.{Target}
use Rattle.cm_scan.specs.Words.{after_word}
use Rattle.cm_scan.specs.inlines.Brackets as brackets
use Rattle.cm_scan.specs.inlines.Brackets.{Defined, target_of}
use Rattle.cm_inline.specs.declared.leaf.Leaf.{Leaf}
use Rattle.cm_inline.specs.declared.links.LinkEnd.{LinkEnd}
use Rattle.cm_inline.specs.steps.Marks.{target_in, IsTargetIn}
use Rattle.cm_inline.specs.steps.Reads.{Stands}

-- `[` ends at the one place, and `]` is at the other, which isn't before that, each with a character or the end after it.
pub record AreBrackets (source : List ℕ) (after at : ℕ) : Type 0 where
  pub bracket : (0 < after) × (slice_index source (after - 1) ≡ byte "[")
  pub start : IsCharBoundary source after
  pub order : after ≤ at
  pub stands : Stands source at (byte "]")
  pub next : IsCharBoundary source (at + 1)

-- what was found in a leaf, if it was, with what is left after the place where it ends
abbrev pub ends_of : Leaf → Option LinkEnd → Option brackets.LinkEnd
ends_of leaf None = None
ends_of leaf (Some e) = (let target = target_in leaf.source.now leaf.definitions.now e.target in Some (record { dest = target.0; title = target.1; rest = drop e.end leaf.source.now }))

-- the place where an end parts characters, and a target of the source or the table
abbrev pub IsPlaced : Leaf → LinkEnd → Type 0
IsPlaced leaf e = IsCharBoundary leaf.source.now e.end × IsTargetIn leaf.source.now leaf.definitions.now e.target

-- the end of a reference, with what is left after it, where its label has a target
abbrev pub leads_to : Option Target → List ℕ → Option brackets.LinkEnd
leads_to target rest = option_map (λ t. brackets.link_end t rest) target

-- the target of the label that was read, if one was
abbrev pub target_by : Defined → Option (Bor (List ℕ)) → Option Target
target_by defined None = None
target_by defined (Some label) = target_of defined label.now

-- what is left after `[]`, or all
abbrev pub after_brackets : List ℕ → List ℕ
after_brackets text = elim (after_word (codes "[]") text) [ Some rest ↦ rest | None ↦ text ]
