use Rattle.std.proofs.Common.{◌≡◌, ◌++◌, false, drop}
use Rattle.cm_json.specs.Mdast.{marker_lines}
use Rattle.cm_json.specs.Printing.{items_text}
use Rattle.cm_json.proofs.blocks.push_marker_lines.Given as goal

-- what was written and what is left are all
abbrev pub invariant-loop-owner : goal.invariant-loop-owner
invariant-loop-owner l = record {
  place : l.count ≡ l.owner-index;
  written : l.out ++ items_text l.follows (marker_lines l.owner-index (drop l.owner-index l.owners)) ≡ l.fn.out ++ items_text false (marker_lines 0 l.owners);
}
