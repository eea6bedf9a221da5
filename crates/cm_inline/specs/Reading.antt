-- What reading the inlines of a leaf returns (CommonMark 0.31.2, chapter 6).
use Rattle.std.specs.Prelude.{◌≡◌, ℕ, ◌+◌, ◌*◌, ◌^◌, ◌≤◌, true, false, List, length, Result, Ok, Err, ⊤}
use Rattle.cm_text.specs.Rules.{Rules}
use Rattle.cm_tree.specs.Definitions.{Targets}
use Rattle.cm_tree.specs.declared.tree.Inline.{Inline}
use Rattle.cm_scan.specs.inlines.Brackets.{Defined, defined_in}
use Rattle.cm_scan.specs.inlines.Inlines.{inlines_of, nests_past}
use Rattle.cm_scan.specs.inlines.DelimiterRuns.{runs_of, characters_of}
use Rattle.cm_inline.specs.Closers.{kinds_by}
use Rattle.cm_inline.specs.Emphases.{emphases}
use Rattle.cm_inline.specs.declared.fault.InlineFault.{InlineFault}
use Rattle.cm_inline.specs.declared.fault.InlineFault.TheVariants.{InlinesTooDeep, NoMemory, SourceTooLong}
use Rattle.cm_inline.specs.declared.reading.Steps.{Steps}

-- The most openers that are looked at for each character of a delimiter run: one in vain for each kind of closer, one if it is taken out
-- between a pair, and one for a pair.
abbrev pub looks_at_most : Rules → ℕ
looks_at_most rules = kinds_by rules + 2

-- The inlines of a source, which don't nest past the limit. For each character of its delimiter runs at most this number of openers were
-- looked at, and at least one for each emphasis, strong emphasis or strikethrough that was made.
pub record Read (rules : Rules) (defined : Defined) (limit : ℕ) (source : List ℕ) (answer : List Inline × Steps) : Type 0 where
  pub content : answer.0 ≡ inlines_of rules defined source
  pub within : nests_past rules defined limit source ≡ false
  pub most : answer.1.0 ≤ looks_at_most rules * characters_of (runs_of rules defined source)
  pub least : emphases answer.0 ≤ answer.1.0

-- The inlines of a source nest past the limit, or the source has 2^32 bytes or more; memory may be refused.
abbrev pub Refused : InlineFault → Rules → Targets → (limit : ℕ) → List ℕ → Type 0
Refused InlinesTooDeep rules targets limit source = nests_past rules (defined_in targets) limit source ≡ true
Refused NoMemory rules targets limit source = ⊤
Refused SourceTooLong rules targets limit source = 2 ^ 32 ≤ length source

-- the inlines of a source, or why they aren't read
abbrev pub Reads : Result (List Inline × Steps) InlineFault → Rules → Targets → (limit : ℕ) → List ℕ → Type 0
Reads (Ok answer) rules targets limit source = Read rules (defined_in targets) limit source answer
Reads (Err fault) rules targets limit source = Refused fault rules targets limit source
