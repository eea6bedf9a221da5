use Rattle.std.proofs.Common.{◌≡◌, get_or, arith}
use Rattle.std.proofs.lemmas.Str.{IsCharBoundary-after_ascii}
use Rattle.cm_scan.proofs.line_forms.quote_marker.Goals as goal

pub returns-then-bytes-at-eq62-clause-boundary : goal.returns-then-bytes-at-eq62-clause-boundary
returns-then-bytes-at-eq62-clause-boundary c =
    let mark : get_or c.args.text.now c.args.at 0 ≡ 62 = grind arith in
    IsCharBoundary-after_ascii c.args.text.now c.args.at c.utf8.text (omega arith) (omega (arith, mark))
