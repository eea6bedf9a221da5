use Rattle.std.proofs.Common.{◌≡◌, drop, true}
use Rattle.std.specs.List.{list_all}
use Rattle.std.specs.Str.{IsCharBoundary}
use Rattle.cm_scan.proofs.lemmas.blocks.LineFormLemmas.{is_hash}
use Rattle.cm_scan.proofs.line_forms.without_closing.Given as goal

abbrev pub invariant-loop-end : goal.invariant-loop-end
invariant-loop-end l = record {
  hashes : list_all is_hash (drop l.end l.bytes) ≡ true;
  boundary : IsCharBoundary l.bytes l.end;
}

abbrev pub decreases-loop-end : goal.decreases-loop-end
decreases-loop-end l = l.end
