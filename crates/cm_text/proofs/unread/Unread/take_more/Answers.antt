use Rattle.std.proofs.Common.{◌++◌, arith}
use Rattle.std.proofs.lemmas.Grind.{common_steps}
use Rattle.cm_text.specs.Cut.{cut_of}
use Rattle.cm_text.proofs.lemmas.CutLemmas.{on_err}
use Rattle.cm_text.proofs.lemmas.FeedLemmas.{valid_stays}
use Rattle.cm_text.proofs.unread.Unread.take_more.Goals as goal

pub returns-in_err-extend_from_slice-2-clause-err : goal.returns-in_err-extend_from_slice-2-clause-err
returns-in_err-extend_from_slice-2-clause-err c =
    on_err c.from_residual-in_err-extend_from_slice-2.result (valid_stays (cut_of c.args.self.now) (c.args.pending.now.items ++ c.args.piece.now))

pub returns-in_err-valid-clause-err : goal.returns-in_err-valid-clause-err
returns-in_err-valid-clause-err c = grind (arith, common_steps)

pub returns-in_err-extend_from_slice-clause-err : goal.returns-in_err-extend_from_slice-clause-err
returns-in_err-extend_from_slice-clause-err c = grind (arith, common_steps)

pub returns-then-is_empty-clause-len : goal.returns-then-is_empty-clause-len
returns-then-is_empty-clause-len c = grind (arith, common_steps)

pub returns-then-is_empty-clause-broken : goal.returns-then-is_empty-clause-broken
returns-then-is_empty-clause-broken c = grind (arith, common_steps)

pub returns-then-is_empty-clause-left : goal.returns-then-is_empty-clause-left
returns-then-is_empty-clause-left c = grind (arith, common_steps)

pub returns-then-is_empty-clause-ok : goal.returns-then-is_empty-clause-ok
returns-then-is_empty-clause-ok c = grind (arith, common_steps)

pub returns-clause-left : goal.returns-clause-left
returns-clause-left c = grind (arith, common_steps)
