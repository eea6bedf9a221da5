use Rattle.std.proofs.Common.{ap, ap₂, ◌∙◌, ◌∷◌, ◌++◌, []}
use Rattle.std.proofs.lemmas.Result.{on_ok_weaker}
use Rattle.cm_block.specs.Level.{item_opens}
use Rattle.cm_block.specs.Frames.{an_item, Row}
use Rattle.cm_block.proofs.lemmas.LevelViewLemmas.{frames-placed-grow}
use Rattle.cm_block.proofs.lemmas.RowLemmas.{frames-open, inner-done}
use Rattle.cm_block.proofs.lemmas.FrameStartLemmas.{frame}
use Rattle.cm_block.proofs.lemmas.FrontLemmas.{item-opens-beyond}
use Rattle.cm_block.proofs.stack.Stack.open_item.Goals as goal

pub invariant_of-self : goal.invariant_of-self
invariant_of-self c =
    (frames-placed-grow c.self.inside.raw c.open_item.new.raw c.self.inside.frames.items c.in_err-open_item.ensures.grows c.self.invariant.0, c.in_err-open_item.ensures.placed)

pub invariant_of-self-2 : goal.invariant_of-self-2
invariant_of-self-2 c =
    (frames-placed-grow c.self.inside.raw c.open_item.new.raw c.self.inside.frames.items c.in_ok-open_item.ensures.grows c.self.invariant.0, c.in_ok-open_item.ensures.placed)

pub returns-clause-frames : goal.returns-clause-frames
returns-clause-frames c = on_ok_weaker c.open.result (λ h.
    let inside = c.self.inside in
    let before = c.begin_list.new.self in
    let container = an_item c.args.kind c.args.column in
    frames-open inside.chunks inside.raw c.open_item.new.raw inside.frames.items inside.level c.in_ok-open_item.ensures.grows c.self.invariant before.frames c.open.new.self.frames _ _ container
    (ap (λ (r : Row). r.frames) c.self.view_is)
    (inner-done inside.chunks inside.raw c.open_item.new.raw inside.frames.items inside.level c.in_ok-open_item.ensures.grows c.self.invariant c.open_item.new.self before.level (λ l. item_opens l c.args.kind)
    (item-opens-beyond inside.chunks c.args.kind) (ap (λ (r : Row). r.level) c.self.view_is) c.in_ok-open_item.ensures.level) h
    ∙ ap₂ (λ fs level. fs ++ frame level container ∷ []) c.begin_list.ensures.frames c.in_ok-begin_list.ensures.level) c.open.ensures.frames
