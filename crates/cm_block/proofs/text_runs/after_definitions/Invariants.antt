use Rattle.std.proofs.Common.{◌≡◌}
use denote.Text.{Utf8}
use denote.Shadow.{shadow}
use Rattle.cm_scan.specs.inlines.Links.{definitions_of}
use Rattle.cm_scan.specs.blocks.Blocks.{line_count}
use Rattle.cm_block.proofs.text_runs.after_definitions.Given as goal

abbrev pub invariant-loop-end : goal.invariant-loop-end
invariant-loop-end l = shadow (Utf8 l.rest) × ((definitions_of l.rest).left ≡ (definitions_of l.text).left)

abbrev pub decreases-loop-end : goal.decreases-loop-end
decreases-loop-end l = line_count l.rest
