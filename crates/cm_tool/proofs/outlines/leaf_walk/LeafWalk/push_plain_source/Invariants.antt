use Rattle.std.proofs.Common.{◌++◌, List, length}
use Rattle.cm_text.specs.Rules.{Rules}
use Rattle.cm_tree.specs.declared.tree.Block.{Block}
use Rattle.cm_source.specs.Definitions.{without_definitions}
use Rattle.cm_tool.specs.steps.LeafWalks.{all_left, HasReadSome}
use Rattle.cm_tool.specs.steps.PlainSources.{HasTaken}
use Rattle.cm_tool.proofs.lemmas.PlainSourceLemmas.{Takes}
use Rattle.cm_tool.proofs.outlines.leaf_walk.LeafWalk.push_plain_source.Given as goal

-- What was taken and what is left come to the whole.
abbrev pub invariant-loop-block : goal.invariant-loop-block
invariant-loop-block l = record {
  takes : (rules : Rules) (taken : List Block) → HasTaken rules l.initial.source taken
      → Takes rules (all_left l.self.unread) l.source (taken ++ without_definitions (all_left l.initial.self.unread));
  passes : HasReadSome l.initial.self l.self;
}

abbrev pub decreases-loop-block : goal.decreases-loop-block
decreases-loop-block l = length (all_left l.self.unread)
