use Rattle.std.proofs.Common.{◌≡◌, true, length}
use Rattle.cm_json.specs.SameDocuments.{are_in_range}
use Rattle.cm_json.specs.Writer.{whole_with, IsWithin}
use Rattle.cm_tool.specs.steps.LeafWalks.{all_left, HasReadSome}
use Rattle.cm_tool.proofs.outlines.leaf_walk.LeafWalk.push_json.Given as goal

-- what was written and what is left come to the whole
abbrev pub invariant-loop-block : goal.invariant-loop-block
invariant-loop-block l = record {
  whole : whole_with l.json l.owners (all_left l.self.unread) ≡ whole_with l.initial.json l.owners (all_left l.initial.self.unread);
  within : IsWithin l.json l.owners;
  in_range : are_in_range (all_left l.self.unread) ≡ true → are_in_range (all_left l.initial.self.unread) ≡ true;
  passes : HasReadSome l.initial.self l.self;
}

abbrev pub decreases-loop-block : goal.decreases-loop-block
decreases-loop-block l = length (all_left l.self.unread)
