use Rattle.std.proofs.Common.{◌∙◌}
use Rattle.std.proofs.lemmas.Result.{err_from_is_err_and}
use Rattle.cm_source.proofs.lemmas.spelling.SpellerLemmas.{fits-beyond, refused-beyond, goes-on-beyond}
use Rattle.cm_source.proofs.speller.Speller.push.Goals as goal

pub returns-in_err-check_block-clause-told : goal.returns-in_err-check_block-clause-told
returns-in_err-check_block-clause-told c =
    let p = err_from_is_err_and c.from_residual.result c.from_residual.ensures.1 in
    rw (p.1, p.2) (λ rules blocks stands. refused-beyond rules c.args.self.now blocks c.args.block.now c.in_err-check_block.field-0.0 stands c.in_err-check_block.ensures)

pub returns-in-Err-clause-told : goal.returns-in-Err-clause-told
returns-in-Err-clause-told c = λ rules blocks stands.
    fits-beyond rules c.args.self.now blocks c.args.block.now stands c.in_ok-check_block.ensures

pub returns-clause-stands : goal.returns-clause-stands
returns-clause-stands c = λ rules blocks stands.
    goes-on-beyond rules c.args.self.now c.add.new.self blocks c.args.block.now stands c.add.ensures.rules c.in_ok-check_block.ensures c.in_default.ensures.writes (c.in_default.ensures.before rules)
    (c.add.ensures.failed ∙ stands.fine)
