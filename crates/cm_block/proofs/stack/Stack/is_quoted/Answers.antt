use Rattle.std.proofs.Common.{◌∙◌, false, sym, ap}
use Rattle.std.specs.Prelude.{nat_lt}
use Rattle.cm_block.specs.Frames.{Row}
use Rattle.cm_block.specs.steps.FrameSteps.{quoted_by}
use Rattle.cm_block.specs.steps.FrameViews.{frames_in}
use Rattle.cm_block.proofs.lemmas.FrontLemmas.{quoted-beyond}
use Rattle.cm_block.proofs.lemmas.QuoteLemmas.{quoted-counted}
use Rattle.cm_block.proofs.stack.Stack.is_quoted.Goals as goal

pub returns : goal.returns
returns c =
    ap (nat_lt 0) c.self.inside.counted
    ∙ sym (quoted-counted c.self.inside.raw c.self.inside.frames.items)
    ∙ sym (quoted-beyond c.self.inside.chunks false (frames_in c.self.inside.raw c.self.inside.frames.items))
    ∙ ap (λ (r : Row). quoted_by false r.frames) c.self.view_is
