use Rattle.std.proofs.Common.{◌≡◌, length}
use denote.Text.{Utf8}
use denote.Shadow.{shadow}
use Rattle.cm_scan.specs.blocks.HtmlKinds.{kind_of}
use Rattle.cm_source.specs.Spelling.{ended_lines}
use Rattle.cm_source.specs.steps.HtmlLines.{all_fit}
use Rattle.cm_source.proofs.html_alone.all_fit.Given as goal

-- What is left decides.
abbrev pub invariant-loop-at : goal.invariant-loop-at
invariant-loop-at l = shadow (Utf8 l.rest) × (all_fit (kind_of l.kind) (ended_lines l.rest) ≡ all_fit (kind_of l.kind) (ended_lines l.text))

abbrev pub decreases-loop-at : goal.decreases-loop-at
decreases-loop-at l = length l.rest
