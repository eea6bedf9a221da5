use Rattle.std.proofs.Common.{arith}
use Rattle.std.proofs.lemmas.Grind.{common_steps}
use Rattle.cm_scan.proofs.lemmas.blocks.MarkerLemmas.{marker-end, marker-at}
use Rattle.cm_scan.proofs.markers.item_marker.Goals as goal

pub returns-then-end-bytes-clause-marker : goal.returns-then-end-bytes-clause-marker
returns-then-end-bytes-clause-marker c =
    let found = c.number_at-number.ensures in
    marker-end c.args.text.now c.args.at c.number_at-number.result.1 c.number_at-number.result.0 found.begin found.count found.value found.left found.few found.whole (omega arith)

pub returns-in_err-kind-clause-marker : goal.returns-in_err-kind-clause-marker
returns-in_err-kind-clause-marker c =
    let found = c.number_at-number.ensures in
    let is = marker-at c.args.text.now c.args.at c.number_at-number.result.1 c.number_at-number.result.0 found.begin found.count found.value found.left found.few found.whole (omega arith) in
    grind (arith, common_steps, is, c.in_err-kind.ensures)

pub returns-then-not-is_at_gap-clause-marker : goal.returns-then-not-is_at_gap-clause-marker
returns-then-not-is_at_gap-clause-marker c =
    let found = c.number_at-number.ensures in
    let is = marker-at c.args.text.now c.args.at c.number_at-number.result.1 c.number_at-number.result.0 found.begin found.count found.value found.left found.few found.whole (omega arith) in
    grind (arith, common_steps, is, c.in_ok-kind.ensures)

pub returns-clause-marker : goal.returns-clause-marker
returns-clause-marker c =
    let found = c.number_at-number.ensures in
    let is = marker-at c.args.text.now c.args.at c.number_at-number.result.1 c.number_at-number.result.0 found.begin found.count found.value found.left found.few found.whole (omega arith) in
    grind (arith, common_steps, is, c.in_ok-kind.ensures)
