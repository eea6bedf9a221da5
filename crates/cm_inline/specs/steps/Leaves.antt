-- The leaf that is read, as the code lends it.
use Rattle.std.specs.Prelude.{◌≡◌, ℕ, true}
use Rattle.cm_text.specs.Rules.{Rules}
use Rattle.cm_scan.specs.inlines.Brackets.{Defined, defined_in}
use Rattle.cm_scan.specs.inlines.Inlines.{nests_past}
use Rattle.cm_inline.specs.declared.brackets.Reader.{Reader}
use Rattle.cm_inline.specs.declared.leaf.Leaf.{Leaf}
use Rattle.cm_inline.specs.steps.Brackets.{Reading}

-- what the definitions define
abbrev pub defined_by : Leaf → Defined
defined_by leaf = defined_in leaf.definitions.now

-- it is read up to a place
abbrev pub ReadingOf : Rules → Leaf → (at : ℕ) → Reader → Type 0
ReadingOf rules leaf at reader = Reading rules leaf.source.now leaf.definitions.now at reader

-- its inlines nest past the limit
abbrev pub IsTooDeep : Rules → Leaf → Type 0
IsTooDeep rules leaf = nests_past rules (defined_by leaf) leaf.limit leaf.source.now ≡ true
