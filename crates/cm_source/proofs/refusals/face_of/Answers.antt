use Rattle.std.proofs.Common.{map, ap, sym, ◌∙◌}
use Rattle.cm_source.specs.Refusals.{ListFace, JudgedBlock, judged_block, is_filled}
use Rattle.cm_tree.proofs.lemmas.BlockFolds as block_fold
use Rattle.cm_source.specs.Refusals as refusals
use Rattle.cm_source.proofs.refusals.face_of.Goals as goal

pub returns-in-List : goal.returns-in-List
returns-in-List c = λ rules.
    ap (ListFace c.in-List.kind) (c.is_filled.ensures rules ∙ ap (λ l. is_filled (map (map (judged_block rules)) l)) c.as_slice.ensures)
    ∙ sym (ap (λ (j : JudgedBlock). j.face) (ap (judged_block rules) c.in-List.is ∙ block_fold.list (refusals.block_step rules) c.in-List.kind c.in-List.tight c.in-List.items))
