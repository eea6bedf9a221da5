use Rattle.std.proofs.Common.{◌≡◌, ◌+◌, ◌<◌, ◌*◌, ◌^◌, length, drop}
use Rattle.cm_text.specs.LineText.{tabs}
use Rattle.cm_text.specs.Indentation.{indent_from}
use Rattle.cm_text.proofs.columns.indent_from.Given as goal

abbrev pub invariant-loop-b : goal.invariant-loop-b
invariant-loop-b l = record {
  counted : l.indent + indent_from (l.column + l.indent) (drop l.b-index l.b-items) ≡ indent_from l.column l.b-items;
  fits : l.column + l.indent + length (drop l.b-index l.b-items) + 3 * tabs (drop l.b-index l.b-items) < 2 ^ 64;
}
