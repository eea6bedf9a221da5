use Rattle.std.proofs.Common.{ap}
use Rattle.cm_block.specs.Frames.{Row}
use Rattle.cm_block.proofs.lemmas.RowLemmas.{still-placed, same-frames, block-put}
use Rattle.cm_block.proofs.stack.Stack.put.Goals as goal

pub invariant_of-self : goal.invariant_of-self
invariant_of-self c = still-placed c.self.inside.chunks c.self.inside.raw c.place.new.raw c.self.inside.frames.items c.self.inside.level c.in_err-block.ensures.grows c.self.invariant

pub returns-in_err-block-clause-frames : goal.returns-in_err-block-clause-frames
returns-in_err-block-clause-frames c =
    same-frames c.self.inside.chunks c.self.inside.raw c.place.new.raw c.self.inside.frames.items c.self.inside.level c.in_err-block.ensures.grows c.self.invariant c.args.self.now.frames (ap (λ (r : Row). r.frames) c.self.view_is)

pub invariant_of-self-in_err-close_block : goal.invariant_of-self-in_err-close_block
invariant_of-self-in_err-close_block c =
    let still = still-placed c.self.inside.chunks c.self.inside.raw c.place.new.raw c.self.inside.frames.items c.self.inside.level c.in_ok-block.ensures.grows c.self.invariant in
    (still.0, c.close_block.ensures.placed c.place.new.raw still.1 c.in_ok-block.ensures.placed)

pub invariant_of-self-2 : goal.invariant_of-self-2
invariant_of-self-2 c =
    let still = still-placed c.self.inside.chunks c.self.inside.raw c.place.new.raw c.self.inside.frames.items c.self.inside.level c.in_ok-block.ensures.grows c.self.invariant in
    (still.0, c.close_block.ensures.placed c.place.new.raw still.1 c.in_ok-block.ensures.placed)

pub returns-in_err-close_block-clause-frames : goal.returns-in_err-close_block-clause-frames
returns-in_err-close_block-clause-frames c =
    same-frames c.self.inside.chunks c.self.inside.raw c.place.new.raw c.self.inside.frames.items c.self.inside.level c.in_ok-block.ensures.grows c.self.invariant c.args.self.now.frames (ap (λ (r : Row). r.frames) c.self.view_is)

pub returns-clause-frames : goal.returns-clause-frames
returns-clause-frames c =
    same-frames c.self.inside.chunks c.self.inside.raw c.place.new.raw c.self.inside.frames.items c.self.inside.level c.in_ok-block.ensures.grows c.self.invariant c.args.self.now.frames (ap (λ (r : Row). r.frames) c.self.view_is)

pub returns-clause-level : goal.returns-clause-level
returns-clause-level c =
    block-put c.self.inside.chunks c.self.inside.raw c.place.new.raw c.self.inside.frames.items c.self.inside.level c.in_ok-block.ensures.grows c.self.invariant c.close_block.new.self c.in_ok-block.block c.args.self.now.level _
    (ap (λ (r : Row). r.level) c.self.view_is) c.in_ok-block.ensures.block (c.in_ok-close_block.ensures.level c.place.new.raw)
