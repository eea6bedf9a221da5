use Rattle.std.proofs.Common.{◌∙◌, sym, ap}
use Rattle.cm_text.specs.Views.{seen_view}
use Rattle.cm_block.specs.Frames.{Row}
use Rattle.cm_block.specs.steps.FrameSteps.{matching}
use Rattle.cm_block.specs.steps.FrameViews.{frames_in}
use Rattle.cm_block.proofs.lemmas.EmptyLines.{matches_all}
use Rattle.cm_block.proofs.lemmas.FrontLemmas.{matching-beyond}
use Rattle.cm_block.proofs.stack.Stack.matching.Goals as goal

pub returns-then-not-is_bare-clause-line : goal.returns-then-not-is_bare-clause-line
returns-then-not-is_bare-clause-line c =
    let row = c.args.self.now in
    let line = seen_view c.args.line.now.rest in
    ap (λ n. (n, line)) c.depth.ensures
    ∙ matches_all c.args.rules line (c.is_empty.ensures.text c.if-is_empty.true) (c.is_empty.ensures.plain c.if-is_empty.true) c.args.open_text row.frames
    (sym c.is_quoted.ensures ∙ c.if-not-is_quoted.true)
    ∙ ap (λ b. matching c.args.rules b c.args.open_text row.frames line) (sym (sym c.is_bare.ensures ∙ c.if-not-is_bare.true))

pub returns-clause-line : goal.returns-clause-line
returns-clause-line c =
    c.matching.ensures.line c.self.inside.raw
    ∙ ap (λ fs. matching c.args.rules c.self.inside.bare c.args.open_text (frames_in c.self.inside.raw fs) (seen_view c.args.line.now.rest)) c.as_slice.ensures.value
    ∙ sym (matching-beyond c.self.inside.chunks c.args.rules c.self.inside.bare c.args.open_text (frames_in c.self.inside.raw c.self.inside.frames.items) (seen_view c.args.line.now.rest))
    ∙ ap (λ (r : Row). matching c.args.rules r.bare c.args.open_text r.frames (seen_view c.args.line.now.rest)) c.self.view_is
