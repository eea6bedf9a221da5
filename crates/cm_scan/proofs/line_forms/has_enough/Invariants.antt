use Rattle.std.proofs.Common.{◌≡◌, ◌+◌, ◌≤◌, ◌==◌, drop}
use Rattle.std.specs.Prelude.{count_by}
use Rattle.cm_scan.proofs.line_forms.has_enough.Given as goal

abbrev pub invariant-loop-b : goal.invariant-loop-b
invariant-loop-b l = record {
  counted : l.count + count_by (λ b. b == l.marker) (drop l.b-index l.bytes) ≡ count_by (λ b. b == l.marker) l.bytes;
  fits : l.count ≤ l.b-index;
}
