use Rattle.std.proofs.Common.{◌≡◌, ◌≤◌, ◌-◌, length, drop, take}
use Rattle.cm_block.specs.steps.FrameSteps.{close_frames}
use Rattle.cm_block.proofs.stack.Stack.close_after.Given as goal

-- the first containers are still open, and closing the rest comes to the same level
abbrev pub invariant-loop-self : goal.invariant-loop-self
invariant-loop-self l = record {
  many : l.depth ≤ length l.self.frames;
  first : take l.depth l.self.frames ≡ take l.depth l.fn.self.frames;
  level : close_frames (drop l.depth l.self.frames) l.self.level ≡ close_frames (drop l.depth l.fn.self.frames) l.fn.self.level;
  bare : l.self.bare ≡ l.fn.self.bare;
}

abbrev pub decreases-loop-self : goal.decreases-loop-self
decreases-loop-self l = length l.self.frames - l.depth
