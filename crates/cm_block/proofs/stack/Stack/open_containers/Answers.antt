use Rattle.std.proofs.Common.{◌≡◌, ◌++◌, ◌∷◌, [], false, suc, length, ◌∙◌, sym, ap, ap₂, arith}
use Rattle.std.proofs.lemmas.List.{length-take-le}
use Rattle.cm_text.specs.Views.{seen_view}
use Rattle.cm_scan.specs.blocks.Lines.{is_blank}
use Rattle.cm_block.specs.steps.StartViews.{seen}
use Rattle.cm_block.specs.OpenLeaf.{begin_of_start}
use Rattle.cm_block.specs.Level.{block_opens, empty_level}
use Rattle.cm_block.specs.Stack.{Stack, push_leaf_line}
use Rattle.cm_block.specs.Depths.{nesting}
use Rattle.cm_block.specs.Frames.{a_quote, Row}
use Rattle.cm_block.specs.steps.FrameSteps.{within, closed_to}
use Rattle.cm_block.specs.steps.FrameStarts.{with_blank}
use Rattle.cm_block.proofs.lemmas.FrameStartLemmas.{frame}
use Rattle.cm_block.proofs.lemmas.Matching.{all_stay, closed_row}
use Rattle.cm_block.proofs.lemmas.OpenedInTurn.{left_blank, left_some, leaf_next, quote_next, not_bare, stays_left, item_left, left_deep}
use Rattle.cm_block.proofs.lemmas.TestLemmas.{one_more_frame, tested_one_deeper}
use Rattle.cm_block.proofs.stack.Stack.open_containers.Goals.{in-Quote+in_ok-close_to-in-Quote+in_ok-open_quote-in-Quote, in-Item+in_ok-next_item-in-Item}
use Rattle.cm_block.proofs.stack.Stack.open_containers.Goals as goal

pub returns-in-Nothing-clause-inside : goal.returns-in-Nothing-clause-inside
returns-in-Nothing-clause-inside c =
    let s = c.loop-kept.self in
    let kept = c.loop-kept.kept in
    let closed = c.in_ok-close_to-in-Nothing.ensures in
    let row = closed_to kept s in (
      omega (arith, ap length closed.frames, length-take-le kept s.frames c.loop-kept.invariant.within, c.loop-kept-test.true),
      λ owned. c.loop-kept.invariant.left owned
          ∙ left_blank c.args.rules row.bare row.frames row.level (seen_view c.loop-kept.line.rest) owned c.in-Nothing.ensures.found.0
          ∙ ap (λ (r : Row). with_blank r owned) (sym (closed_row kept s c.close_to.new.self closed.frames closed.level closed.bare)),
    )

pub loop-kept-preserved : goal.loop-kept-preserved
loop-kept-preserved c =
    let s = c.loop-kept.self in
    let kept = c.loop-kept.kept in
    let row = closed_to kept s in
    let line = seen_view c.loop-kept.line.rest in
    let inner = seen_view c.begins.new.self.rest in
    let now = c.match-begins.self in
    let next = c.depth-kept.result in
    let stay = all_stay next now.frames now.level c.depth-kept.ensures in
    elim c.match-begins.branch [
      | in-Quote+in_ok-close_to-in-Quote+in_ok-open_quote-in-Quote w ↦
          let found = w.in-Quote.ensures.found in
          let closed = w.in_ok-close_to-in-Quote.ensures in
          let opened = w.in_ok-open_quote-in-Quote.ensures in
          let plainly : s.bare ≡ false = not_bare s.bare (is_blank line) c.loop-kept.invariant.none found.0 in
          let bare : now.bare ≡ false = ap (λ (r : Row). r.bare) w.self-is ∙ opened.bare ∙ closed.bare ∙ plainly in
          let frames : now.frames ≡ row.frames ++ frame (block_opens row.level) a_quote ∷ [] =
          ap (λ (r : Row). r.frames) w.self-is ∙ opened.frames ∙ ap₂ (λ fs v. fs ++ frame (block_opens v) a_quote ∷ []) closed.frames closed.level in
          let level : now.level ≡ empty_level = ap (λ (r : Row). r.level) w.self-is ∙ opened.level in
          let deeper : next ≡ suc kept = omega (arith, c.depth-kept.ensures, one_more_frame row.frames now.frames _ frames, length-take-le kept s.frames c.loop-kept.invariant.within) in
          record {
            within = omega (arith, c.depth-kept.ensures);
            none = λ e. absurd (cc (e, bare));
            left = λ owned.
                c.loop-kept.invariant.left owned
                ∙ left_some c.args.rules row.bare row.frames row.level line owned plainly
                ∙ quote_next c.args.rules row.frames row.level line owned inner found.1
                ∙ stays_left c.args.rules now.bare _ (closed_to next now).frames _ (closed_to next now).level inner owned bare (sym stay.0 ∙ frames) (sym stay.1 ∙ level);
            deeper = omega (arith, c.loop-kept.invariant.deeper, deeper);
            tests = tested_one_deeper c.args.depth kept next c.args.line.now.tests c.loop-kept.line.tests c.begins.new.self.tests c.loop-kept.invariant.deeper deeper c.loop-kept.invariant.tests w.in-Quote.ensures.tests;
          }
      | in-Item+in_ok-next_item-in-Item w ↦
          let found = w.in-Item.ensures.found in
          let opened = w.in_ok-next_item-in-Item.ensures in
          let set = w.set_bare.ensures in
          let plainly : s.bare ≡ false = not_bare s.bare (is_blank line) c.loop-kept.invariant.none found.0 in
          let bare : now.bare ≡ is_blank inner = ap (λ (r : Row). r.bare) w.self-is ∙ set.bare ∙ found.1.1 in
          let frames = ap (λ (r : Row). r.frames) w.self-is ∙ set.frames ∙ opened.frames in
          let level : now.level ≡ empty_level = ap (λ (r : Row). r.level) w.self-is ∙ set.level ∙ opened.level in
          let deeper : next ≡ suc kept = omega (arith, c.depth-kept.ensures, one_more_frame row.frames now.frames _ frames, length-take-le kept s.frames c.loop-kept.invariant.within) in
          record {
            within = omega (arith, c.depth-kept.ensures);
            none = λ e. sym bare ∙ e;
            left = λ owned.
                c.loop-kept.invariant.left owned
                ∙ left_some c.args.rules row.bare row.frames row.level line owned plainly
                ∙ item_left c.args.rules now.bare row.frames (closed_to next now).frames row.level (closed_to next now).level line owned w.in-Item.kind inner w.in-Item.column found.1.0 bare
                (sym stay.0 ∙ frames) (sym stay.1 ∙ level);
            deeper = omega (arith, c.loop-kept.invariant.deeper, deeper);
            tests = tested_one_deeper c.args.depth kept next c.args.line.now.tests c.loop-kept.line.tests c.begins.new.self.tests c.loop-kept.invariant.deeper deeper c.loop-kept.invariant.tests w.in-Item.ensures.tests;
          }
    ]

pub returns-in-Leaf-clause-inside : goal.returns-in-Leaf-clause-inside
returns-in-Leaf-clause-inside c =
    let s = c.loop-kept.self in
    let kept = c.loop-kept.kept in
    let row = closed_to kept s in
    let line = seen_view c.loop-kept.line.rest in
    let found = c.in-Leaf.ensures.found in
    let closed = c.in_ok-close_to-in-Leaf.ensures in
    let plainly : s.bare ≡ false = not_bare s.bare (is_blank line) c.loop-kept.invariant.none found.0 in (
      omega (arith, ap length closed.frames, length-take-le kept s.frames c.loop-kept.invariant.within, c.loop-kept-test.true),
      (
        closed.bare ∙ plainly,
        (
          found.1.1.0,
          λ owned l leaf. c.loop-kept.invariant.left owned
              ∙ left_some c.args.rules row.bare row.frames row.level line owned plainly
              ∙ leaf_next c.args.rules row.frames row.level line owned (seen c.in-Leaf.start.found) l found.1.0
              (leaf ∙ ap (begin_of_start c.args.rules (seen c.in-Leaf.start.found)) found.1.1.1)
              ∙ ap₂ (λ fs v. within fs (push_leaf_line owned (block_opens v) l)) (sym closed.frames) (sym closed.level),
        ),
      ),
    )

pub returns-clause-inside : goal.returns-clause-inside
returns-clause-inside c = λ owned.
    let s = c.loop-kept.self in
    let row = closed_to c.loop-kept.kept s in
    omega (
      arith,
      c.loop-kept-test.false,
      length-take-le c.loop-kept.kept s.frames c.loop-kept.invariant.within,
      left_deep c.args.rules row.bare row.frames row.level (seen_view c.loop-kept.line.rest) owned,
      ap (λ (t : Stack). nesting t.now) (c.loop-kept.invariant.left owned),
    )
