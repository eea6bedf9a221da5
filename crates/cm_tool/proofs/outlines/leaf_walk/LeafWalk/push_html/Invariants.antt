use Rattle.std.proofs.Common.{◌≡◌, ◌++◌, length}
use Rattle.cm_html.specs.Html.{html_of}
use Rattle.cm_tool.specs.steps.LeafWalks.{all_left, HasReadSome}
use Rattle.cm_tool.proofs.outlines.leaf_walk.LeafWalk.push_html.Given as goal

-- what was written and what is left come to the whole
abbrev pub invariant-loop-block : goal.invariant-loop-block
invariant-loop-block l = record {
  html : l.html ++ html_of (all_left l.self.unread) ≡ l.initial.html ++ html_of (all_left l.initial.self.unread);
  passes : HasReadSome l.initial.self l.self;
}

abbrev pub decreases-loop-block : goal.decreases-loop-block
decreases-loop-block l = length (all_left l.self.unread)
