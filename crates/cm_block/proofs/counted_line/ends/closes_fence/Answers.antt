use Rattle.std.proofs.Common.{◌∙◌, sym}
use Rattle.cm_block.proofs.lemmas.FenceLemmas.{closes_none}
use Rattle.cm_block.proofs.counted_line.ends.closes_fence.Goals as goal

pub returns-then-not-may_close_fence : goal.returns-then-not-may_close_fence
returns-then-not-may_close_fence c info =
    let k = c.args.kind in
    sym (closes_none (record { marker = k.marker; count = k.count; info = info }) c.args.line.now (sym c.may_close_fence.ensures ∙ c.if-not-may_close_fence.true))
