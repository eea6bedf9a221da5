use Rattle.std.proofs.Common.{◌≡◌, ◌-◌, ◌≤◌, ℕ, ◌∙◌, length, take, sym, ap, ap₂, refl, subst, arith}
use Rattle.std.proofs.lemmas.List.{length-take-le}
use Rattle.std.proofs.lemmas.Result.{on_ok_weaker, IfErr-weaker}
use Rattle.cm_text.specs.Lines.{LineView}
use Rattle.cm_text.specs.Views.{seen_view}
use Rattle.cm_text.specs.declared.view.View.{View}
use Rattle.cm_text.specs.Limits.{LimitsView}
use Rattle.cm_block.specs.steps.FrameSteps.{matching, closed_to}
use Rattle.cm_block.specs.Frames.{stack_with}
use Rattle.cm_block.specs.LeafViews.{leaf_of}
use Rattle.cm_block.specs.steps.FrameStarts.{begun_by, blank_in, DeepIn}
use Rattle.cm_block.specs.declared.fault.BlockFault.{BlockFault}
use Rattle.cm_block.specs.Stack.{Stack, push_line}
use Rattle.cm_block.specs.Parser.{stack_of}
use Rattle.cm_block.specs.Tests.{count_of}
use Rattle.cm_block.specs.steps.ParserSteps.{Deep}
use Rattle.cm_block.proofs.lemmas.TestLemmas.{tested_leaf, tested_line, both_ok}
use Rattle.cm_block.proofs.lemmas.OpenedInTurn.{blank_next}
use Rattle.cm_block.proofs.lemmas.EmptyLines.{blank, empty_pushes}
use Rattle.cm_block.proofs.lemmas.Matching.{all_stay}
use Rattle.cm_block.proofs.lemmas.ParserLemmas.{accept_taken, accept_left, begun_after, owners_after, deep_after, matched_few, taken_count, begun_count}
use Rattle.cm_block.proofs.parser.BlockParser.accept.Goals as goal

pub returns-then-branch-clause-pushed : goal.returns-then-branch-clause-pushed
returns-then-branch-clause-pushed c =
    let s = c.args.self.now in
    let found = c.matching-depth.ensures.line ∙ ap₂ (λ r b. matching r s.stack.bare b s.stack.frames (seen_view c.args.line.now.rest)) c.rules.ensures c.is_run.ensures in
    accept_taken s _ c.take_to_leaf.new.self (seen_view c.args.line.now.rest) (c.matching-depth.result, seen_view c.matching-depth.new.line.rest) c.set_bare.ensures.frames c.set_bare.ensures.level refl refl refl found
    c.in_ok-take_to_leaf.field-0 c.if-branch.true c.in_ok-take_to_leaf.ensures.taken

pub begin-requires-clause-within : goal.begin-requires-clause-within
begin-requires-clause-within c =
    let s = c.args.self.now in
    let few : c.matching-depth.result ≤ length s.stack.frames =
    subst (λ (k : ℕ × LineView). k.0 ≤ length s.stack.frames) (sym c.matching-depth.ensures.line) (matched_few c.rules.result s.stack.bare c.is_run.result s.stack.frames (seen_view c.args.line.now.rest)) in
    omega (arith, few, ap length c.in_ok-close_leaf-2.ensures.frames, ap length c.in_ok-take_to_leaf.ensures.frames, ap length c.set_bare.ensures.frames)

pub returns-clause-pushed : goal.returns-clause-pushed
returns-clause-pushed c =
    let s = c.args.self.now in
    let m : ℕ × LineView = (c.matching-depth.result, seen_view c.matching-depth.new.line.rest) in
    let found = c.matching-depth.ensures.line ∙ ap₂ (λ r b. matching r s.stack.bare b s.stack.frames (seen_view c.args.line.now.rest)) c.rules.ensures c.is_run.ensures in
    let left = accept_left s _ c.take_to_leaf.new.self (seen_view c.args.line.now.rest) m c.set_bare.ensures.frames c.set_bare.ensures.level refl refl refl found c.in_ok-take_to_leaf.field-0 c.if-branch.false c.in_ok-take_to_leaf.ensures.taken in
    let closed = c.in_ok-close_leaf-2.ensures in
    let rules : c.close_leaf-2.new.self.limits.rules ≡ s.limits.rules = ap (λ (k : LimitsView). k.rules) (closed.limits ∙ c.in_ok-take_to_leaf.ensures.limits) in
    on_ok_weaker c.begin.result (λ e.
    e
    ∙ ap₂ (λ r (v : View). begun_by r (closed_to c.matching-depth.result c.close_leaf-2.new.self.stack) (seen_view v) c.close_leaf-2.new.self.owners) rules c.in_ok-take_to_leaf.ensures.same
    ∙ begun_after s c.take_to_leaf.new.self c.close_leaf-2.new.self (closed_to c.matching-depth.result c.close_leaf-2.new.self.stack) m left.1 closed.level closed.owners closed.frames refl refl
    ∙ sym left.0) c.begin.ensures.pushed

pub returns-clause-deep : goal.returns-clause-deep
returns-clause-deep c =
    let s = c.args.self.now in
    let m : ℕ × LineView = (c.matching-depth.result, seen_view c.matching-depth.new.line.rest) in
    let found = c.matching-depth.ensures.line ∙ ap₂ (λ r b. matching r s.stack.bare b s.stack.frames (seen_view c.args.line.now.rest)) c.rules.ensures c.is_run.ensures in
    let left = accept_left s _ c.take_to_leaf.new.self (seen_view c.args.line.now.rest) m c.set_bare.ensures.frames c.set_bare.ensures.level refl refl refl found c.in_ok-take_to_leaf.field-0 c.if-branch.false c.in_ok-take_to_leaf.ensures.taken in
    let closed = c.in_ok-close_leaf-2.ensures in
    let same = begun_after s c.take_to_leaf.new.self c.close_leaf-2.new.self (closed_to c.matching-depth.result c.close_leaf-2.new.self.stack) m left.1 closed.level closed.owners closed.frames refl refl in
    let limits : c.close_leaf-2.new.self.limits ≡ s.limits = closed.limits ∙ c.in_ok-take_to_leaf.ensures.limits in
    let now : LimitsView → LineView → Stack = λ k l. begun_by k.rules (closed_to c.matching-depth.result c.close_leaf-2.new.self.stack) l c.close_leaf-2.new.self.owners in
    let after : BlockFault → LimitsView → LineView → Type 0 = λ f k l. DeepIn f k.blocks (now k l) c.close_leaf-2.new.self.owners in
    IfErr-weaker c.begin.result (λ f. after f c.close_leaf-2.new.self.limits (seen_view c.take_to_leaf.new.line.rest)) (λ f. Deep f s.limits (stack_of s) (seen_view c.args.line.now.rest))
    (λ f h. deep_after f s.limits (stack_of s) (now s.limits m.1) (seen_view c.args.line.now.rest) c.close_leaf-2.new.self.owners (left.0 ∙ sym same)
    (owners_after s c.take_to_leaf.new.self c.close_leaf-2.new.self left.1 closed.owners)
    (subst (λ k. after f k m.1) limits (subst (λ (v : View). after f c.close_leaf-2.new.self.limits (seen_view v)) c.in_ok-take_to_leaf.ensures.same h))) c.begin.ensures.deep

pub returns-then-branch-clause-tests : goal.returns-then-branch-clause-tests
returns-then-branch-clause-tests c = λ few.
    let s = c.args.self.now in
    tested_leaf (count_of (stack_of c.take_to_leaf.new.self) - count_of (stack_of s)) (length s.stack.frames) s.limits.blocks c.args.line.now.tests c.matching-depth.new.line.tests c.take_to_leaf.new.line.tests
    (taken_count s _ c.take_to_leaf.new.self c.matching-depth.result (seen_view c.matching-depth.new.line.rest) c.in_ok-take_to_leaf.field-0 c.set_bare.ensures.frames c.set_bare.ensures.level c.if-branch.true c.in_ok-take_to_leaf.ensures.taken)
    few c.matching-depth.ensures.tests c.in_ok-take_to_leaf.ensures.tests

pub returns-clause-tests : goal.returns-clause-tests
returns-clause-tests c =
    let s = c.args.self.now in
    let m : ℕ × LineView = (c.matching-depth.result, seen_view c.matching-depth.new.line.rest) in
    let found = c.matching-depth.ensures.line ∙ ap₂ (λ r b. matching r s.stack.bare b s.stack.frames (seen_view c.args.line.now.rest)) c.rules.ensures c.is_run.ensures in
    let left = accept_left s _ c.take_to_leaf.new.self (seen_view c.args.line.now.rest) m c.set_bare.ensures.frames c.set_bare.ensures.level refl refl refl found c.in_ok-take_to_leaf.field-0 c.if-branch.false c.in_ok-take_to_leaf.ensures.taken in
    let closed = c.in_ok-close_leaf-2.ensures in
    let next = length c.begin.new.self.stack.frames in
    let blocks : c.close_leaf-2.new.self.limits.blocks ≡ s.limits.blocks = ap (λ (k : LimitsView). k.blocks) (closed.limits ∙ c.in_ok-take_to_leaf.ensures.limits) in
    let stays : m.0 ≤ length s.stack.frames =
    subst (λ (k : ℕ × LineView). k.0 ≤ length s.stack.frames) (sym c.matching-depth.ensures.line) (matched_few c.rules.result s.stack.bare c.is_run.result s.stack.frames (seen_view c.args.line.now.rest)) in
    let still : m.0 ≤ length c.close_leaf-2.new.self.stack.frames =
    omega (arith, stays, ap length closed.frames, ap length c.in_ok-take_to_leaf.ensures.frames, ap length c.set_bare.ensures.frames) in
    let depth : length (take m.0 c.close_leaf-2.new.self.stack.frames) ≡ m.0 = length-take-le m.0 c.close_leaf-2.new.self.stack.frames still in
    on_ok_weaker c.begin.result (λ h within.
    tested_line c.matching-depth.new.line.rest.lazy (count_of (stack_of c.begin.new.self) - count_of (stack_of s)) m.0 (length s.stack.frames) next s.limits.blocks c.args.line.now.tests c.matching-depth.new.line.tests c.take_to_leaf.new.line.tests c.begin.new.line.tests
    (subst (λ n. count_of (stack_of c.begin.new.self) - count_of (stack_of s) ≤ next - n) depth
    (begun_count s c.take_to_leaf.new.self c.close_leaf-2.new.self c.begin.new.self (closed_to c.matching-depth.result c.close_leaf-2.new.self.stack) c.close_leaf-2.new.self.limits.rules (seen_view c.take_to_leaf.new.line.rest) m.0 left.1 closed.level closed.frames
    refl refl h.0))
    stays h.1.1.0 (omega (arith, h.1.0, blocks)) c.matching-depth.ensures.tests c.matching-depth.ensures.stays c.matching-depth.ensures.plain
    c.in_ok-take_to_leaf.ensures.tests (c.in_ok-take_to_leaf.ensures.leaves c.if-branch.false) (c.in_ok-take_to_leaf.ensures.lazy c.if-branch.false) (λ fewer. c.in_ok-take_to_leaf.ensures.unread (omega (arith, fewer, ap length c.set_bare.ensures.frames)))
    h.1.1.1)
    (both_ok _ _ c.begin.result c.begin.ensures.pushed (both_ok _ _ c.begin.result c.begin.ensures.few (both_ok _ _ c.begin.result c.begin.ensures.deeper c.begin.ensures.tests)))

pub returns-then-stays_at_empty_line-clause-pushed : goal.returns-then-stays_at_empty_line-clause-pushed
returns-then-stays_at_empty_line-clause-pushed c =
    let s = c.args.self.now in
    let closed = c.in_ok-close_leaf.ensures in
    let after = c.close_leaf.new.self in
    let bare = c.stays_at_empty_line.ensures.bare c.if-stays_at_empty_line.true in
    c.in_ok-push_blank.ensures.pushed
    ∙ ap (λ b. blank_in b after.stack.frames after.stack.level after.owners) (closed.bare ∙ bare)
    ∙ empty_pushes s.limits.rules (seen_view c.args.line.now.rest) (c.is_empty.ensures.text c.if-is_empty.true) (c.is_empty.ensures.plain c.if-is_empty.true)
    s.stack.frames after.stack.frames s.stack.level after.stack.level (leaf_of s.leaf) s.owners after.owners (c.stays_at_empty_line.ensures.quote c.if-stays_at_empty_line.true) (c.stays_at_empty_line.ensures.leaf c.if-stays_at_empty_line.true)
    closed.frames closed.level closed.owners
    ∙ ap (λ b. push_line s.limits.rules (stack_with b s.stack.frames s.stack.level (leaf_of s.leaf) s.owners) (seen_view c.args.line.now.rest)) (sym bare)

pub returns-then-stays_at_empty_line-clause-tests : goal.returns-then-stays_at_empty_line-clause-tests
returns-then-stays_at_empty_line-clause-tests c =
    let s = c.args.self.now in
    let closed = c.in_ok-close_leaf.ensures in
    let after = c.close_leaf.new.self in
    let line = seen_view c.args.line.now.rest in
    let stay = all_stay (length after.stack.frames) after.stack.frames after.stack.level refl in
    let none = begun_count s s after c.push_blank.new.self after.stack s.limits.rules line (length after.stack.frames) (refl, (refl, (refl, refl))) closed.level closed.frames stay.0 stay.1
    (c.in_ok-push_blank.ensures.pushed ∙ ap (λ b. blank_in b after.stack.frames after.stack.level after.owners) (closed.bare ∙ c.stays_at_empty_line.ensures.bare c.if-stays_at_empty_line.true)
    ∙ sym (blank_next s.limits.rules after.stack.frames after.stack.level line after.owners (blank s.limits.rules line (c.is_empty.ensures.text c.if-is_empty.true) (c.is_empty.ensures.plain c.if-is_empty.true)))) in
    λ few. (λ below. omega (arith, none, ap length c.in_ok-push_blank.ensures.frames), omega arith)
