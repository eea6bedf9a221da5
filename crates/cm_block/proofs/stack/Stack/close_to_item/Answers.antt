use Rattle.std.proofs.Common.{◌<◌, ◌++◌, ◌∷◌, [], take, length, sym, ap, ap₂, ◌∙◌, arith}
use Rattle.cm_block.specs.Level.{item_opens}
use Rattle.cm_block.specs.Frames.{an_item}
use Rattle.cm_block.specs.steps.FrameSteps.{close_container, closed_to}
use Rattle.cm_block.proofs.lemmas.FrameStartLemmas.{frame}
use Rattle.cm_block.proofs.lemmas.Matching.{all_stay, cut_last, closed_row, closed_twice}
use Rattle.cm_block.proofs.stack.Stack.close_to_item.Goals as goal

pub returns-then-depth-clause-closed : goal.returns-then-depth-clause-closed
returns-then-depth-clause-closed c = λ _.
    let s = c.args.self.now in
    let stay = all_stay c.args.depth s.frames s.level (sym c.if-depth.true ∙ c.depth.ensures) in
    ap₂ (λ fs level. record { frames = fs; bare = s.bare; level = level }) stay.0 stay.1

pub returns-then-branch-clause-frames : goal.returns-then-branch-clause-frames
returns-then-branch-clause-frames c = λ _.
    let s = c.args.self.now in
    let many : c.args.depth < length s.frames = omega (arith, c.requires, c.depth.ensures, c.if-depth.false) in
    let last = cut_last c.args.depth s.frames many in
    c.in_ok-replace_item.ensures.frames c.if-branch.true (take c.args.depth s.frames) last.0 (c.in_ok-close_to.ensures.frames ∙ last.1.0)
    ∙ ap (λ v. take c.args.depth s.frames ++ frame (item_opens v c.args.kind) (an_item c.args.kind c.args.column) ∷ [])
    (ap (close_container last.0.container last.0.level) c.in_ok-close_to.ensures.level ∙ last.1.1 s.level)

pub returns-clause-closed : goal.returns-clause-closed
returns-clause-closed c = λ _.
    let s = c.args.self.now in
    let many : c.args.depth < length s.frames = omega (arith, c.requires, c.depth.ensures, c.if-depth.false) in
    let one_left = c.in_ok-close_to.ensures in
    let closed = c.in_ok-close_to-2.ensures in
    closed_row c.args.depth c.replace_item.new.self c.close_to-2.new.self closed.frames closed.level closed.bare
    ∙ ap (closed_to c.args.depth) (c.in_ok-replace_item.ensures.same c.if-branch.false ∙ closed_row _ s c.close_to.new.self one_left.frames one_left.level one_left.bare)
    ∙ closed_twice c.args.depth s many
