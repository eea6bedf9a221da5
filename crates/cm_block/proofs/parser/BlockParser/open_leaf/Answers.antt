use Rattle.std.proofs.Common.{◌≡◌, ◌∙◌, Some, inl, inr, sym, ap, ap₂}
use Rattle.std.proofs.lemmas.Result.{on_ok_weaker}
use Rattle.cm_text.specs.Views.{seen_view}
use Rattle.cm_text.specs.declared.view.View.{View}
use Rattle.cm_block.specs.OpenLeaf.{stays_open, is_last, begin_of_start}
use Rattle.cm_block.specs.Level.{block_opens}
use Rattle.cm_block.specs.Stack.{close_leaves, own_leaves}
use Rattle.cm_block.specs.Frames.{Row, stack_with}
use Rattle.cm_block.specs.LeafViews.{leaf_of}
use Rattle.cm_block.specs.steps.LeafSteps.{leaves_with, taken_of}
use Rattle.cm_block.specs.steps.StartViews.{seen}
use Rattle.cm_block.specs.steps.FirstLines.{first_of, whole_leaves}
use Rattle.cm_block.proofs.lemmas.LeafLemmas.{first_opens, first_begins, whole_begins}
use Rattle.cm_block.proofs.lemmas.ParserLemmas.{stack_stays, stack_ends}
use Rattle.cm_block.proofs.lemmas.TestLemmas.{both_ok}
use Rattle.cm_block.proofs.parser.BlockParser.open_leaf.Goals.{In_ok-begin_leaf}
use Rattle.cm_block.proofs.parser.BlockParser.open_leaf.Goals as goal

-- what the line starts, by the leaf that is open then
begins : (c : In_ok-begin_leaf) → first_of c.in_ok-begin_leaf.field-0 c.begin_leaf.new.leaf
    ≡ Some (begin_of_start c.args.self.now.limits.rules (seen c.args.start.now.found) (seen_view c.args.line.now.rest))
begins c =
    let start = seen c.args.start.now.found in
    let whole = c.in_ok-put_whole.ensures in
    first_opens c.in_ok-begin_leaf.field-0 c.begin_leaf.new.leaf start _ (sym whole.put ∙ c.if-branch.false) c.requires.start c.in_ok-begin_leaf.ensures.leaf
    ∙ ap₂ (λ by (v : View). Some (begin_of_start by start (seen_view v))) c.rules-rules.ensures whole.same

pub returns-in-Stays-clause-pushed : goal.returns-in-Stays-clause-pushed
returns-in-Stays-clause-pushed c =
    let s = c.args.self.now in
    let now = c.begin_leaf.new.leaf in
    let opened = c.in_ok-open_block.ensures in
    let whole = c.in_ok-put_whole.ensures in
    let stack = c.put_whole.new.stack in
    let first = begins (goal.at.returns-in-Stays-clause-pushed c).In_ok-begin_leaf in
    elim c.in-Stays.is [
      | inl stays ↦ (
        stays_open (leaf_of now),
        (
          first_begins c.in_ok-begin_leaf.field-0 now (stays_open (leaf_of now)) _ (ap (λ f. taken_of f now) stays) first,
          ap (stack_with stack.bare stack.frames stack.level (leaf_of now)) (whole.unowned c.if-branch.false)
              ∙ stack_stays stack.bare s.stack.frames stack.frames (block_opens s.stack.level) stack.level (leaf_of now) s.owners
              (whole.bare ∙ opened.bare ∙ c.requires.plain) (whole.frames ∙ opened.frames) (ap (λ (r : Row). r.level) (whole.kept c.if-branch.false) ∙ opened.level),
        ),
      )
      | inr leaves ↦ absurd (cc (ap (λ f. first_of f now) (sym leaves) ∙ first))
    ]

pub returns-in-Last-clause-pushed : goal.returns-in-Last-clause-pushed
returns-in-Last-clause-pushed c =
    let s = c.args.self.now in
    let now = c.begin_leaf.new.leaf in
    let stack = c.close.new.stack in
    let owners = c.close.new.owners in
    let leaves = leaves_with c.in-Last.ending now in
    let opened = c.in_ok-open_block.ensures in
    let whole = c.in_ok-put_whole.ensures in
    let closed = c.close.ensures in
    let first = begins (goal.at.returns-in-Last-clause-pushed c).In_ok-begin_leaf in
    on_ok_weaker c.close.result (λ h. (
      is_last leaves,
      (
        first_begins c.in_ok-begin_leaf.field-0 now (is_last leaves) _ (ap (λ f. taken_of f now) c.in-Last.is) first,
        stack_ends stack.bare s.stack.frames stack.frames (block_opens s.stack.level) stack.level (leaf_of c.close.new.self) s.owners owners leaves
            (closed.bare ∙ whole.bare ∙ opened.bare ∙ c.requires.plain) (closed.frames ∙ whole.frames ∙ opened.frames) h.0
            (h.1.0 ∙ ap (λ v. close_leaves v leaves) (ap (λ (r : Row). r.level) (whole.kept c.if-branch.false) ∙ opened.level))
            (h.1.1 ∙ ap (λ o. own_leaves o leaves) (whole.unowned c.if-branch.false)),
      ),
    )) (both_ok _ _ c.close.result closed.leaf (both_ok _ _ c.close.result closed.level closed.owners))

pub returns-then-branch-clause-pushed : goal.returns-then-branch-clause-pushed
returns-then-branch-clause-pushed c =
    let s = c.args.self.now in
    let start = seen c.args.start.now.found in
    let opened = c.in_ok-open_block.ensures in
    let put = c.in_ok-put_whole.ensures in (
      is_last (whole_leaves start),
      (
        whole_begins s.limits.rules start (seen_view c.args.line.now.rest) (sym put.put ∙ c.if-branch.true),
        stack_ends c.put_whole.new.stack.bare s.stack.frames c.put_whole.new.stack.frames (block_opens s.stack.level) c.put_whole.new.stack.level (leaf_of s.leaf) s.owners c.put_whole.new.owners (whole_leaves start)
            (put.bare ∙ opened.bare ∙ c.requires.plain) (put.frames ∙ opened.frames) c.requires.leaf
            (put.level ∙ ap (λ v. close_leaves v (whole_leaves start)) opened.level) put.owners,
      ),
    )
