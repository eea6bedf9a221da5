use Rattle.std.proofs.Common.{◌≡◌, ◌+◌, ◌<◌, ◌*◌, ◌^◌, length, drop}
use Rattle.std.specs.Str.{IsCharBoundary}
use Rattle.cm_text.specs.LineText.{tabs}
use Rattle.cm_text.specs.Indentation.{strip_from}
use Rattle.cm_text.proofs.columns.take_columns.Given as goal

abbrev pub invariant-loop-b : goal.invariant-loop-b
invariant-loop-b l = record {
  stripped : strip_from l.left l.column (drop l.b-index l.b-items) ≡ strip_from l.n l.initial.column l.b-items;
  counted : l.taken ≡ l.b-index;
  boundary : IsCharBoundary l.b-items l.taken;
  fits : l.column + length (drop l.b-index l.b-items) + 3 * tabs (drop l.b-index l.b-items) < 2 ^ 64;
}
