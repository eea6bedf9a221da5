-- Contents that aren't refused fit: each of their inlines has next to it what it needs to read back.
use Rattle.std.specs.Prelude.{◌≡◌, true, List, [], None, IsUtf8}
use Rattle.cm_text.specs.Rules.{Rules}
use Rattle.cm_tree.specs.declared.tree.Inline.{Inline}
use Rattle.cm_tree.specs.declared.tree.Block.{Block}
use Rattle.cm_source.specs.InlineRefusals.{paragraph_refusal, heading_refusal}
use Rattle.cm_source.specs.Refusals.{IsSpellable}
use Rattle.cm_source.specs.Spelling.{spelling_of}
use Rattle.cm_source.specs.steps.ContentBack.{FitsAll}
use Rattle.cm_source.specs.steps.Utf8Inlines.{AreTexts}
use Rattle.cm_source.specs.steps.Utf8Blocks.{HaveTexts}

-- of paragraphs, and of headings
abbrev pub ParagraphsFit : Type 0
ParagraphsFit = (rules : Rules) (content : List Inline) → AreTexts content → paragraph_refusal rules content ≡ None → FitsAll rules true true true [] content []

abbrev pub HeadingsFit : Type 0
HeadingsFit = (rules : Rules) (content : List Inline) → AreTexts content → heading_refusal rules content ≡ None → FitsAll rules true true true [] content []

-- The contents of a tree that can be spelled are texts in UTF-8 where its spelling is, as a string that a program has.
abbrev pub SpellingsHaveTexts : Type 0
SpellingsHaveTexts = (rules : Rules) (blocks : List Block) → IsSpellable rules blocks → IsUtf8 (spelling_of blocks) → HaveTexts blocks
