use Rattle.std.proofs.Common.{◌∙◌, sym, ap, suc, drop, ◌&&◌}
use Rattle.cm_block.specs.Frames.{is_last}
use Rattle.cm_block.specs.steps.FrameViews.{frames_in}
use Rattle.cm_block.proofs.lemmas.Matching.{last_at}
use Rattle.cm_block.proofs.stack.is_bare_at.Goals as goal

pub returns-then-bare : goal.returns-then-bare
returns-then-bare c = λ raw.
    last_at raw c.args.frames.now c.args.depth c.requires
    ∙ ap (λ b. b && is_last (drop (suc c.args.depth) (frames_in raw c.args.frames.now))) (sym c.if-bare.true)
