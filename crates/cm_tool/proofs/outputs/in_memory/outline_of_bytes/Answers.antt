use Rattle.std.proofs.Common.{[]}
use Rattle.std.proofs.lemmas.Result.{err_from_is_err_and, IfErr-weaker, IfOk-weaker}
use Rattle.cm_tool.proofs.lemmas.SettledLemmas.{tells_whole}
use Rattle.cm_tool.proofs.outputs.in_memory.outline_of_bytes.Goals as goal

pub returns-in_err-feed-clause-told : goal.returns-in_err-feed-clause-told
returns-in_err-feed-clause-told c =
    let p = err_from_is_err_and c.from_residual.result c.from_residual.ensures.1 in
    rw (p.1, p.2) (tells_whole c.args.limits c.args.bytes.now c.in_err-feed.field-0.0 (c.in_err-feed.ensures.settled c.args.limits [] c.new-parser.ensures))

pub returns-clause-outline : goal.returns-clause-outline
returns-clause-outline c =
    IfOk-weaker c.outline.result _ _ (λ outline made. made c.args.limits c.args.bytes.now (c.in_ok-feed.ensures.stands c.args.limits [] c.new-parser.ensures)) c.outline.ensures.outline

pub returns-clause-told : goal.returns-clause-told
returns-clause-told c =
    IfErr-weaker c.outline.result _ _ (λ fault told. told c.args.limits c.args.bytes.now (c.in_ok-feed.ensures.stands c.args.limits [] c.new-parser.ensures)) c.outline.ensures.told
