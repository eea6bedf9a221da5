use Rattle.std.proofs.Common.{◌≡◌, ◌++◌, drop}
use Rattle.cm_html.specs.Html.{html_of}
use Rattle.cm_html.proofs.rendering.push_parted.Given as goal

-- what was written and what is left are all
abbrev pub invariant-loop-block : goal.invariant-loop-block
invariant-loop-block l = l.out ++ html_of (drop l.block-index l.blocks) ≡ l.fn.out ++ html_of l.blocks
