use Rattle.std.proofs.Common.{ap, ◌∙◌, ◌∷◌, ◌++◌, []}
use Rattle.std.proofs.lemmas.Result.{on_ok_weaker}
use Rattle.cm_block.specs.Level.{block_opens}
use Rattle.cm_block.specs.Frames.{a_quote, Row}
use Rattle.cm_block.proofs.lemmas.LevelViewLemmas.{frames-placed-grow}
use Rattle.cm_block.proofs.lemmas.RowLemmas.{frames-open, inner-done}
use Rattle.cm_block.proofs.lemmas.FrontLemmas.{opens-beyond}
use Rattle.cm_block.proofs.lemmas.FrameStartLemmas.{frame}
use Rattle.cm_block.proofs.stack.Stack.open_quote.Goals as goal

pub invariant_of-self : goal.invariant_of-self
invariant_of-self c =
    (frames-placed-grow c.self.inside.raw c.open_block.new.raw c.self.inside.frames.items c.in_err-open_block.ensures.grows c.self.invariant.0, c.in_err-open_block.ensures.placed)

pub invariant_of-self-2 : goal.invariant_of-self-2
invariant_of-self-2 c =
    (frames-placed-grow c.self.inside.raw c.open_block.new.raw c.self.inside.frames.items c.in_ok-open_block.ensures.grows c.self.invariant.0, c.in_ok-open_block.ensures.placed)

pub returns-clause-frames : goal.returns-clause-frames
returns-clause-frames c = on_ok_weaker c.open.result (λ h.
    frames-open c.self.inside.chunks c.self.inside.raw c.open_block.new.raw c.self.inside.frames.items c.self.inside.level c.in_ok-open_block.ensures.grows c.self.invariant c.args.self.now.frames c.open.new.self.frames _ _ a_quote
    (ap (λ (r : Row). r.frames) c.self.view_is) (inner-done c.self.inside.chunks c.self.inside.raw c.open_block.new.raw c.self.inside.frames.items c.self.inside.level c.in_ok-open_block.ensures.grows c.self.invariant c.open_block.new.self c.args.self.now.level block_opens
    (opens-beyond c.self.inside.chunks) (ap (λ (r : Row). r.level) c.self.view_is) c.in_ok-open_block.ensures.level)
    (h ∙ ap (λ (r : Row). r.frames ++ frame r.level a_quote ∷ []) c.in_ok-finish_chunk.ensures.same)) c.open.ensures.frames
