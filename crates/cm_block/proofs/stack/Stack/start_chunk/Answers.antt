use Rattle.std.proofs.Common.{◌≡◌, ◌∙◌, ◌++◌, [], None, ap, ap₂, sym, refl}
use Rattle.std.proofs.lemmas.Result.{on_ok_weaker}
use Rattle.std.specs.declared.vec.Vec.{Vec}
use Rattle.std.specs.declared.alloc.Global.{Global}
use Rattle.cm_tree.specs.declared.raw_blocks.RawBlock.{RawBlock}
use Rattle.cm_tree.specs.RawBlocks.{blocks_in}
use Rattle.cm_block.specs.Frames.{Row}
use Rattle.cm_block.specs.steps.FrameViews.{frames_in}
use Rattle.cm_block.specs.steps.FrontViews.{frames_after}
use Rattle.cm_block.proofs.lemmas.RowLemmas.{no-frames, no-list, none-placed, shrunk-placed, finished}
use Rattle.cm_block.proofs.stack.Stack.start_chunk.Goals as goal

no-frame : (c : goal.After-self-2-1) → c.self.inside.frames.items ≡ []
no-frame c = no-frames c.self.inside.raw c.self.inside.chunks c.self.inside.frames.items (ap (λ (r : Row). r.frames) c.self.view_is ∙ c.requires.frames)

none-open : (c : goal.After-self-2-1) → c.self.inside.level.open_list ≡ None
none-open c =
    no-list c.self.inside.raw c.self.inside.chunks c.self.inside.frames.items c.self.inside.level (ap (λ (r : Row). r.level.open_list) c.self.view_is ∙ c.requires.list)

pub invariant_of-self : goal.invariant_of-self
invariant_of-self c =
    shrunk-placed c.self.inside.raw c.shrink_to_fit.new.self c.self.inside.frames.items c.self.inside.level (record c.self.inside.level { blocks = c.shrink_to_fit-2.new.self })
    c.shrink_to_fit.ensures c.shrink_to_fit-2.ensures.items refl c.self.invariant

pub invariant_of-self-2 : goal.invariant_of-self-2
invariant_of-self-2 c =
    none-placed c.replace-raw.new.dest c.self.inside.frames.items (record c.self.inside.level { blocks = c.replace-blocks.new.dest }) (no-frame c) (none-open c) (rw c.replace-blocks.ensures.after c.new.ensures.items)

pub returns-clause-same : goal.returns-clause-same
returns-clause-same c = on_ok_weaker c.push.result (λ h.
    let inside = c.self.inside in
    finished inside.raw c.replace-raw.new.dest inside.chunks c.push.new.self inside.frames.items inside.bare inside.level (record c.self.inside.level { blocks = c.replace-blocks.new.dest }) (no-frame c) (none-open c)
    refl refl refl refl
    (rw c.replace-blocks.ensures.after c.new.ensures.items)
    (h ∙ ap (λ bs. inside.chunks ++ bs) (c.new-2.ensures ∙ ap₂ (λ raw (level : Vec RawBlock Global). blocks_in raw level.items) c.replace-raw.ensures.value c.replace-blocks.ensures.value
    ∙ ap₂ blocks_in c.shrink_to_fit.ensures c.shrink_to_fit-2.ensures.items)) ∙ c.self.view_is) c.push.ensures.ok

pub returns-clause-frames : goal.returns-clause-frames
returns-clause-frames c =
    ap (λ fs. frames_after c.push.new.self (frames_in c.replace-raw.new.dest fs)) (no-frame c)
    ∙ sym (ap (λ fs. frames_after c.self.inside.chunks (frames_in c.self.inside.raw fs)) (no-frame c))
    ∙ ap (λ (r : Row). r.frames) c.self.view_is
