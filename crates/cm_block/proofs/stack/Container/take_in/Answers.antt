use Rattle.std.proofs.Common.{◌≡◌, ◌∙◌, sym, ap, subst}
use Rattle.cm_text.specs.Views.{seen_view}
use Rattle.cm_text.specs.declared.view.View.{View}
use Rattle.cm_scan.specs.Words.{given}
use Rattle.cm_scan.specs.blocks.Starts.{continuation_if_lazy}
use Rattle.cm_scan.specs.laws.PartLaws.{goes_inward}
use Rattle.cm_block.specs.steps.FrameSteps.{continuation_in, inward}
use Rattle.cm_block.specs.steps.FrameViews.{container_of}
use Rattle.cm_block.specs.steps.ContinuationViews.{IsInside}
use Rattle.cm_block.proofs.stack.Container.take_in.Goals.{Else-has_inside}
use Rattle.cm_block.proofs.stack.Container.take_in.Goals as goal

pub returns-then-has_inside-clause-line : goal.returns-then-has_inside-clause-line
unfolding inward
returns-then-has_inside-clause-line c =
    let before = seen_view c.args.line.now.rest in
    let continuation = continuation_in c.args.rules (container_of c.args.self.now) c.args.bare before in
    let inside = subst (λ b. IsInside b continuation (continuation_if_lazy c.args.rules before) (seen_view c.has_inside.new.line.rest)) c.if-has_inside.true (c.has_inside.ensures.continuation c.args.rules) in
    sym (ap (λ p. goes_inward p c.args.open_text) inside)

-- the line doesn't stay by itself
lazily : (c : Else-has_inside) → goes_inward (continuation_if_lazy c.args.rules (seen_view c.has_inside.new.line.rest)) c.args.open_text
    ≡ inward c.args.rules (container_of c.args.self.now) c.args.bare c.args.open_text (seen_view c.args.line.now.rest)
unfolding inward
lazily c =
    let before = seen_view c.args.line.now.rest in
    let continuation = continuation_in c.args.rules (container_of c.args.self.now) c.args.bare before in
    let outside = subst (λ b. IsInside b continuation (continuation_if_lazy c.args.rules before) (seen_view c.has_inside.new.line.rest)) c.if-has_inside.false (c.has_inside.ensures.continuation c.args.rules) in
    ap (λ (v : View). goes_inward (continuation_if_lazy c.args.rules (seen_view v)) c.args.open_text) (c.has_inside.ensures.same c.if-has_inside.false)
    ∙ ap (λ p. goes_inward p c.args.open_text) (sym outside)

pub returns-then-goes_on_lazily-clause-line : goal.returns-then-goes_on_lazily-clause-line
returns-then-goes_on_lazily-clause-line c =
    subst (λ b. given b (seen_view c.goes_on_lazily.new.self.rest) ≡ goes_inward (continuation_if_lazy c.args.rules (seen_view c.has_inside.new.line.rest)) c.args.open_text)
    c.if-goes_on_lazily.true c.goes_on_lazily.ensures.line
    ∙ lazily (goal.at.returns-then-goes_on_lazily-clause-line c).Else-has_inside

pub returns-clause-line : goal.returns-clause-line
returns-clause-line c =
    subst (λ b. given b (seen_view c.goes_on_lazily.new.self.rest) ≡ goes_inward (continuation_if_lazy c.args.rules (seen_view c.has_inside.new.line.rest)) c.args.open_text)
    c.if-goes_on_lazily.false c.goes_on_lazily.ensures.line
    ∙ lazily (goal.at.returns-clause-line c).Else-has_inside
