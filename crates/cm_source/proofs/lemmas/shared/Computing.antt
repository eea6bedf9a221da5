-- Computing the definitions at literal trees.
use Rattle.std.proofs.Common.{◌≡◌, ℕ, List}
use Rattle.std.specs.Fmt.{digits}
use Rattle.cm_text.specs.Rules.{Rules}
use Rattle.cm_tree.specs.declared.tree.Inline.{Inline, map-Inline, out-Inline}
use Rattle.cm_tree.specs.declared.tree.Inline.TheViews.{outs-Text, outs-Code, outs-Html, outs-Soft, outs-Hard, outs-Emph, outs-Strong, outs-Strike, outs-Link, outs-Image}
use Rattle.cm_tree.specs.declared.tree.Inline.TheFolds.{fold_out-Inline}
use Rattle.cm_tree.specs.declared.tree.Block.{Block, map-Block, out-Block}
use Rattle.cm_tree.specs.declared.tree.Block.TheVariants.{outs-Paragraph, outs-Heading, outs-Code as outs-CodeBlock, outs-Html as outs-HtmlBlock, outs-Break, outs-Definition, outs-Quote, outs-List}
use Rattle.cm_tree.specs.declared.tree.Block.TheFolds.{fold_out-Block}
use Rattle.cm_scan.specs.spans.Autolinks.{ends_with}
use Rattle.cm_scan.specs.inlines.Brackets.{Defined}
use Rattle.cm_scan.specs.Documents.{read_step, block_read}
use Rattle.cm_source.specs.Texts.{spelled_byte, spelled_text, longest_run, spelled_code, spelled_target}
use Rattle.cm_source.specs.Inlines.{Spelled, inline_step, spelled}
use Rattle.cm_source.specs.InlineRefusals as inlines
use Rattle.cm_source.specs.ReadingBack.{source_step, sourced}
use Rattle.cm_source.specs.Refusals as blocks
use Rattle.cm_source.specs.Spelling.{parted_lines, ended_lines, block_step, lines_of_block}

-- `unfolding string_spellings` lets `refl` compute how strings are spelled
unfoldable pub string_spellings : Unit {0}
unfolding digits ends_with spelled_byte spelled_text longest_run spelled_code spelled_target parted_lines ended_lines
string_spellings = tt

-- one layer of a tree, as it is spelled, judged and read

pub spelled_inline : (i : Inline) → spelled i ≡ inline_step (map-Inline Inline Spelled spelled (out-Inline i))
spelled_inline i = fold_out-Inline Spelled inline_step i

pub spelled_block : (b : Block) → lines_of_block b ≡ block_step (map-Block Block (List (List ℕ)) lines_of_block (out-Block b))
spelled_block b = fold_out-Block (List (List ℕ)) block_step b

pub judged_inline : (rules : Rules) (i : Inline) → inlines.judged rules i ≡ inlines.inline_step rules (map-Inline Inline inlines.Judged (inlines.judged rules) (out-Inline i))
judged_inline rules i = fold_out-Inline inlines.Judged (inlines.inline_step rules) i

pub judged_block : (rules : Rules) (b : Block) → blocks.judged_block rules b ≡ blocks.block_step rules (map-Block Block blocks.JudgedBlock (blocks.judged_block rules) (out-Block b))
judged_block rules b = fold_out-Block blocks.JudgedBlock (blocks.block_step rules) b

pub read_block : (rules : Rules) (defined : Defined) (b : Block) → block_read rules defined b ≡ read_step rules defined (map-Block Block Block (block_read rules defined) (out-Block b))
read_block rules defined b = fold_out-Block Block (read_step rules defined) b

pub sourced_block : (b : Block) → sourced b ≡ source_step (map-Block Block Block sourced (out-Block b))
sourced_block b = fold_out-Block Block source_step b

pub ruleset kinds_of_inlines = (outs-Text, outs-Code, outs-Html, outs-Soft, outs-Hard, outs-Emph, outs-Strong, outs-Strike, outs-Link, outs-Image)

pub ruleset kinds_of_blocks = (outs-Paragraph, outs-Heading, outs-CodeBlock, outs-HtmlBlock, outs-Break, outs-Definition, outs-Quote, outs-List)

-- `simp spelling` computes how a tree is spelled, `simp judging` why it is refused, `simp reading` the tree of a source, and
-- `simp sourcing` the blocks with sources
pub ruleset spelling = (spelled_block, spelled_inline, kinds_of_blocks, kinds_of_inlines)

pub ruleset judging = (judged_block, judged_inline, kinds_of_blocks, kinds_of_inlines)

pub ruleset reading = (read_block, kinds_of_blocks)

pub ruleset sourcing = (sourced_block, spelled_inline, kinds_of_blocks, kinds_of_inlines)
