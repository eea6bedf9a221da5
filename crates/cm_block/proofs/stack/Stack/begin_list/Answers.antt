use Rattle.std.proofs.Common.{◌≡◌, ◌∙◌, false, sym, ap}
use Rattle.std.proofs.lemmas.Result.{on_ok_weaker}
use Rattle.cm_block.specs.Frames.{Row}
use Rattle.cm_block.specs.Level.{item_opens}
use Rattle.cm_block.specs.steps.LevelSteps.{has_list_of, is_list_of}
use Rattle.cm_block.specs.steps.LevelViews.{level_in}
use Rattle.cm_block.specs.steps.FrameViews.{frames_in}
use Rattle.cm_block.proofs.lemmas.FrontLemmas.{items-open-again, inner-list}
use Rattle.cm_block.proofs.stack.Stack.begin_list.Goals as goal

pub returns-clause-level : goal.returns-clause-level
returns-clause-level c =
    let inside = c.self.inside in
    let other : has_list_of c.args.self.now.level c.args.kind ≡ false =
    ap (λ (r : Row). has_list_of r.level c.args.kind) (sym c.self.view_is)
    ∙ ap (λ list. is_list_of list c.args.kind) (inner-list inside.chunks (frames_in inside.raw inside.frames.items) (level_in inside.raw inside.level))
    ∙ sym (c.has_list_of.ensures inside.raw)
    ∙ c.if-has_list_of.false in
    on_ok_weaker c.open_block.result (λ h. ap (λ level. item_opens level c.args.kind) h ∙ items-open-again c.args.kind c.args.self.now.level other) c.open_block.ensures.level
