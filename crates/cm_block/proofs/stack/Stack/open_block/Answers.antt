use Rattle.std.proofs.Common.{ap, ◌∙◌}
use Rattle.cm_block.specs.Frames.{Row}
use Rattle.cm_block.specs.Level.{block_opens}
use Rattle.cm_block.proofs.lemmas.LevelViewLemmas.{frames-placed-grow}
use Rattle.cm_block.proofs.lemmas.RowLemmas.{same-frames, inner-done}
use Rattle.cm_block.proofs.lemmas.FrontLemmas.{opens-beyond}
use Rattle.cm_block.proofs.stack.Stack.open_block.Goals as goal

pub invariant_of-self : goal.invariant_of-self
invariant_of-self c =
    (frames-placed-grow c.self.inside.raw c.open_block.new.raw c.self.inside.frames.items c.in_err-open_block.ensures.grows c.self.invariant.0, c.in_err-open_block.ensures.placed)

pub returns-in_err-open_block-clause-frames : goal.returns-in_err-open_block-clause-frames
returns-in_err-open_block-clause-frames c =
    same-frames c.self.inside.chunks c.self.inside.raw c.open_block.new.raw c.self.inside.frames.items c.self.inside.level c.in_err-open_block.ensures.grows c.self.invariant c.args.self.now.frames
    (ap (λ (r : Row). r.frames) c.self.view_is)

pub invariant_of-self-2 : goal.invariant_of-self-2
invariant_of-self-2 c =
    (frames-placed-grow c.self.inside.raw c.open_block.new.raw c.self.inside.frames.items c.in_ok-open_block.ensures.grows c.self.invariant.0, c.in_ok-open_block.ensures.placed)

pub returns-in_err-finish_chunk-clause-frames : goal.returns-in_err-finish_chunk-clause-frames
returns-in_err-finish_chunk-clause-frames c =
    c.in_err-finish_chunk.ensures.frames
    ∙ same-frames c.self.inside.chunks c.self.inside.raw c.open_block.new.raw c.self.inside.frames.items c.self.inside.level c.in_ok-open_block.ensures.grows c.self.invariant c.args.self.now.frames
    (ap (λ (r : Row). r.frames) c.self.view_is)

pub returns-clause-level : goal.returns-clause-level
returns-clause-level c =
    ap (λ (r : Row). r.level) c.in_ok-finish_chunk.ensures.same
    ∙ inner-done c.self.inside.chunks c.self.inside.raw c.open_block.new.raw c.self.inside.frames.items c.self.inside.level c.in_ok-open_block.ensures.grows c.self.invariant c.open_block.new.self c.args.self.now.level block_opens
    (opens-beyond c.self.inside.chunks) (ap (λ (r : Row). r.level) c.self.view_is) c.in_ok-open_block.ensures.level

pub returns-clause-frames : goal.returns-clause-frames
returns-clause-frames c =
    c.in_ok-finish_chunk.ensures.frames
    ∙ same-frames c.self.inside.chunks c.self.inside.raw c.open_block.new.raw c.self.inside.frames.items c.self.inside.level c.in_ok-open_block.ensures.grows c.self.invariant c.args.self.now.frames
    (ap (λ (r : Row). r.frames) c.self.view_is)
