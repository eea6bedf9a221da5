-- What is spelled reads back as what was spelled.
use Rattle.std.specs.Prelude.{◌≡◌, List, map, None, IsUtf8}
use Rattle.cm_text.specs.Rules.{Rules}
use Rattle.cm_text.specs.Lines.{text_of, plain_lines_of}
use Rattle.cm_tree.specs.declared.tree.Inline.{Inline}
use Rattle.cm_tree.specs.declared.tree.Block.{Block, Block-F}
use Rattle.cm_tree.specs.declared.tree.Block.TheFolds.{fold-Block}
use Rattle.cm_tree.specs.RawBlocks.{raw_inlines}
use Rattle.cm_scan.specs.blocks.Blocks.{blocks_of}
use Rattle.cm_scan.specs.inlines.Brackets.{Defined}
use Rattle.cm_scan.specs.Documents.{change_step, tree_of}
use Rattle.cm_scan.specs.inlines.Inlines.{inlines_of}
use Rattle.cm_source.specs.InlineRefusals.{paragraph_refusal, heading_refusal}
use Rattle.cm_source.specs.Inlines.{spelled_content}
use Rattle.cm_source.specs.Refusals.{IsSpellable}
use Rattle.cm_source.specs.Spelling.{spelling_of}

-- The content of a paragraph that isn't refused is read from its spelling, with any rules and definitions, if the spelling is UTF-8.
-- It is if the strings of the content are, as they are in every tree of a program.
abbrev pub ParagraphsReadBack : Type 0
ParagraphsReadBack = (rules : Rules) (defined : Defined) (content : List Inline) → paragraph_refusal rules content ≡ None → IsUtf8 (spelled_content content)
    → inlines_of rules defined (spelled_content content) ≡ content

-- The same of the content of a heading.
abbrev pub HeadingsReadBack : Type 0
HeadingsReadBack = (rules : Rules) (defined : Defined) (content : List Inline) → heading_refusal rules content ≡ None → IsUtf8 (spelled_content content)
    → inlines_of rules defined (spelled_content content) ≡ content

-- one block with the spelling of its content as its source, in place of that content
abbrev pub source_step : Block-F Block → Block
source_step = change_step (λ content. raw_inlines (spelled_content content))

abbrev pub sourced : Block → Block
sourced = fold-Block Block source_step

-- the blocks with the spelling of each content as its source, at every depth
abbrev pub all_sourced : List Block → List Block
all_sourced blocks = map sourced blocks

-- The blocks of the lines of a spelling are the blocks that were spelled, with the spelling of each content as its source.
abbrev pub BlocksReadBack : Type 0
BlocksReadBack = (rules : Rules) (blocks : List Block) → IsSpellable rules blocks → blocks_of rules (plain_lines_of (spelling_of blocks)) ≡ all_sourced blocks

-- No byte of a spelling is U+0000, so the text that is read is the spelling itself.
abbrev pub SpellingIsText : Type 0
SpellingIsText = (rules : Rules) (blocks : List Block) → IsSpellable rules blocks → text_of (spelling_of blocks) ≡ spelling_of blocks

-- The tree of a spelling is the tree that was spelled, with the same rules, if the spelling is UTF-8.
abbrev pub TreesReadBack : Type 0
TreesReadBack = (rules : Rules) (blocks : List Block) → IsSpellable rules blocks → IsUtf8 (spelling_of blocks) → tree_of rules (spelling_of blocks) ≡ blocks
