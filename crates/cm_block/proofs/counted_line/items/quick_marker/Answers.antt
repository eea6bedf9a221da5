use Rattle.std.proofs.Common.{◌≡◌, ◌≤◌, get_or, length, refl, sym, rules}
use Rattle.cm_block.proofs.lemmas.PlainItems.{bullet_marks}
use Rattle.cm_block.proofs.counted_line.items.quick_marker.Goals as goal

pub returns-clause-marker : goal.returns-clause-marker
returns-clause-marker c =
    let bytes = c.as_bytes.result.now in
    let space : get_or bytes 1 0 ≡ 32 = search rules in
    let many : 2 ≤ length bytes = search rules in
    bullet_marks c.args.text.now bytes _ c.in_ok-kind-in-32.kind (sym c.in_ok-kind-in-32.ensures) c.as_bytes.ensures.value many refl space
