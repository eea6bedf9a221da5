use Rattle.std.proofs.Common.{ap, arith, get_or}
use Rattle.std.proofs.lemmas.Str.{IsCharBoundary-after_ascii}
use Rattle.cm_text.proofs.endings.past_line_feed.Goals as goal

pub returns-then-as_bytes-at-eq10-clause-boundary : goal.returns-then-as_bytes-at-eq10-clause-boundary
returns-then-as_bytes-at-eq10-clause-boundary c =
    IsCharBoundary-after_ascii c.args.text.now c.args.at c.utf8.text (omega arith)
    (omega (arith, c.if-as_bytes-at-eq10.true, ap (λ t. get_or t c.args.at 0) c.as_bytes.ensures.value))
