use Rattle.std.proofs.Common.{◌≡◌, ℕ, List, ◌++◌, not, map, drop}
use Rattle.cm_source.specs.Spelling.{lines_of_block, lines_of_blocks}
use Rattle.cm_source.specs.steps.WrittenLines.{Writes}
use Rattle.cm_source.proofs.lemmas.spelling.SpelledBlocks.{gapped, item_lines_of, lines_of_items}
use Rattle.cm_source.proofs.blocks.+blocks.Given as goal

-- What was taken is written, and what is left continues as all would.
abbrev pub invariant-spell_blocks-loop-block : goal.invariant-spell_blocks-loop-block
invariant-spell_blocks-loop-block l = (done : List (List ℕ)) × Writes l.fn.source l.source done × (lines_of_blocks l.apart l.blocks ≡ done ++ gapped l.gap l.apart (map lines_of_block (drop l.block-index l.blocks)))

abbrev pub invariant-spell_block-loop-item : goal.invariant-spell_block-loop-item
invariant-spell_block-loop-item l = (done : List (List ℕ)) × Writes l.fn.source l.source done × (lines_of_items l.kind l.tight l.item-items ≡ done ++ gapped l.gap (not l.tight) (item_lines_of l.kind l.tight (drop l.item-index l.item-items)))
