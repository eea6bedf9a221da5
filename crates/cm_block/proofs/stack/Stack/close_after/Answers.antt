use Rattle.std.proofs.Common.{◌<◌, length, ◌∙◌, ap, arith}
use Rattle.cm_block.specs.Frames.{Row}
use Rattle.cm_block.specs.steps.FrameViews.{frames_in}
use Rattle.cm_block.proofs.lemmas.FrontLemmas.{length-beyond}
use Rattle.cm_block.proofs.lemmas.Matching.{length_frames, nothing_left, one_closed}
use Rattle.cm_block.proofs.stack.Stack.close_after.Goals as goal

pub loop-self-smaller : goal.loop-self-smaller
loop-self-smaller c =
    let many : c.args.depth < length c.loop-self.self.frames =
    omega (arith, c.len.ensures, c.loop-self-test.true, length_frames c.self.inside.raw c.self.inside.frames.items, length-beyond c.self.inside.chunks (frames_in c.self.inside.raw c.self.inside.frames.items), ap (λ (r : Row). length r.frames) c.self.view_is) in
    omega (arith, many, (one_closed c.args.depth c.loop-self.self c.close_last.new.self many c.in_ok-close_last.ensures.closes).0)

pub loop-self-preserved : goal.loop-self-preserved
loop-self-preserved c =
    let h = c.loop-self.invariant in
    let many : c.args.depth < length c.loop-self.self.frames =
    omega (arith, c.len.ensures, c.loop-self-test.true, length_frames c.self.inside.raw c.self.inside.frames.items, length-beyond c.self.inside.chunks (frames_in c.self.inside.raw c.self.inside.frames.items), ap (λ (r : Row). length r.frames) c.self.view_is) in
    let closed = one_closed c.args.depth c.loop-self.self c.close_last.new.self many c.in_ok-close_last.ensures.closes in
    record {
      many = omega (arith, many, closed.0);
      first = closed.1.0 ∙ h.first;
      level = closed.1.1 ∙ h.level;
      bare = c.in_ok-close_last.ensures.bare ∙ h.bare;
    }

pub returns-clause-level : goal.returns-clause-level
returns-clause-level c =
    nothing_left c.loop-self.self.frames c.args.depth c.loop-self.self.level
    (omega (arith, c.len.ensures, c.loop-self-test.false, length_frames c.self.inside.raw c.self.inside.frames.items, length-beyond c.self.inside.chunks (frames_in c.self.inside.raw c.self.inside.frames.items), ap (λ (r : Row). length r.frames) c.self.view_is))
    ∙ c.loop-self.invariant.level
