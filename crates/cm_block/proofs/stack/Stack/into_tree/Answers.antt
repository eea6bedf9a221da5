use Rattle.std.proofs.Common.{◌∙◌, ◌++◌, sym, ap}
use Rattle.cm_block.specs.Level.{closed_blocks}
use Rattle.cm_block.specs.Frames.{Row}
use Rattle.cm_block.specs.steps.LevelViews.{level_in}
use Rattle.cm_block.specs.steps.FrameViews.{frames_in}
use Rattle.cm_block.proofs.lemmas.FrontLemmas.{closed-beyond, none-inside}
use Rattle.cm_block.proofs.stack.Stack.into_tree.Goals as goal

pub returns : goal.returns
returns c =
    let inside = c.self.inside in
    let level = level_in inside.raw inside.level in
    c.in_ok-push.ensures.ok
    ∙ ap (λ bs. inside.chunks ++ bs) (c.new.ensures ∙ c.in_ok-blocks.ensures.blocks)
    ∙ sym (closed-beyond inside.chunks level.blocks level.open_list)
    ∙ ap closed_blocks (sym (none-inside inside.chunks (frames_in inside.raw inside.frames.items) level (ap (λ (r : Row). r.frames) c.self.view_is ∙ c.requires)))
    ∙ ap (λ (r : Row). closed_blocks r.level) c.self.view_is
