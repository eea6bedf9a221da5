use Rattle.std.proofs.Common.{get_or, ◌+◌, suc, ◌∙◌, refl, length, sym, ap, arith, drop, add-one}
use Rattle.cm_text.specs.Views.{seen_view}
use Rattle.cm_text.specs.declared.view.View.{View}
use Rattle.cm_block.specs.steps.FrameViews.{container_of, frame_in, frames_in}
use Rattle.cm_block.specs.steps.FrameSteps.{matching, beyond}
use Rattle.cm_block.proofs.lemmas.Matching.{none_open, frames_from, frames_end, match_next, match_stop, match_end, match_lazy, beyond_all, all_lazily, none_lazily}
use Rattle.cm_block.proofs.lemmas.TestLemmas.{tested_then, tested_within, next_and_lazily}
use Rattle.cm_block.proofs.stack.matching.Goals as goal

pub returns-then-is_empty-clause-line : goal.returns-then-is_empty-clause-line
returns-then-is_empty-clause-line c raw =
    none_open c.args.rules c.args.bare c.args.open_text raw c.args.frames.now (seen_view c.args.line.now.rest) (sym c.is_empty.ensures ∙ c.if-is_empty.true)

pub returns-in-Leaves-clause-line : goal.returns-in-Leaves-clause-line
returns-in-Leaves-clause-line c = λ raw.
    let frames = c.args.frames.now in
    let i = c.loop-depth.depth in
    ap (λ (v : View). (i, seen_view v)) (c.in-Leaves.ensures.same refl)
    ∙ sym (match_stop c.args.rules c.args.bare c.args.open_text i (frame_in raw (get_or frames i c.index-frames-depth.result)) (drop (suc i) (frames_in raw frames)) (seen_view c.loop-depth.line.rest)
    (drop i (frames_in raw frames)) c.is_bare_at-is_bare.result (frames_from raw frames i c.index-frames-depth.result c.loop-depth-test.true)
    (c.is_bare_at-is_bare.ensures raw) c.in-Leaves.ensures.line)
    ∙ c.loop-depth.invariant.rest raw

pub returns-in-Lazily-clause-line : goal.returns-in-Lazily-clause-line
returns-in-Lazily-clause-line c = λ raw.
    let frames = c.args.frames.now in
    let i = c.loop-depth.depth in
    beyond_all raw frames i _ (seen_view c.take_in.new.line.rest) c.loop-depth-test.true
    (match_lazy c.args.rules c.args.bare c.args.open_text (container_of (get_or frames i c.index-frames-depth.result).container) c.is_bare_at-is_bare.result (seen_view c.loop-depth.line.rest) (seen_view c.take_in.new.line.rest)
    (drop (suc i) (frames_in raw frames)) c.in-Lazily.ensures.line (c.in-Lazily.ensures.lazy refl))
    ∙ sym (match_next c.args.rules c.args.bare c.args.open_text i (frame_in raw (get_or frames i c.index-frames-depth.result)) (drop (suc i) (frames_in raw frames)) (seen_view c.loop-depth.line.rest)
    (drop i (frames_in raw frames)) c.is_bare_at-is_bare.result (seen_view c.take_in.new.line.rest) (frames_from raw frames i c.index-frames-depth.result c.loop-depth-test.true)
    (c.is_bare_at-is_bare.ensures raw) c.in-Lazily.ensures.line)
    ∙ c.loop-depth.invariant.rest raw

pub loop-depth-preserved : goal.loop-depth-preserved
loop-depth-preserved c =
    let frames = c.args.frames.now in
    let i = c.loop-depth.depth in
    record {
      rest = λ raw. rw add-one (sym (match_next c.args.rules c.args.bare c.args.open_text i (frame_in raw (get_or frames i c.index-frames-depth.result)) (drop (suc i) (frames_in raw frames)) (seen_view c.loop-depth.line.rest)
          (drop i (frames_in raw frames)) c.is_bare_at-is_bare.result (seen_view c.take_in.new.line.rest) (frames_from raw frames i c.index-frames-depth.result c.loop-depth-test.true)
          (c.is_bare_at-is_bare.ensures raw) c.in-Inside.ensures.line)
          ∙ c.loop-depth.invariant.rest raw);
      tests = tested_within 1 (i + 1) 0 (i + 1) _ _ (omega arith) (omega arith)
          (tested_then 0 i 1 1 _ _ _ c.loop-depth.invariant.tests (c.in-Inside.ensures.once refl));
    }

pub returns-clause-line : goal.returns-clause-line
returns-clause-line c = λ raw.
    sym (match_end c.args.rules c.args.bare c.args.open_text c.loop-depth.depth (length c.args.frames.now) (drop c.loop-depth.depth (frames_in raw c.args.frames.now)) (seen_view c.loop-depth.line.rest)
    (frames_end raw c.args.frames.now c.loop-depth.depth c.loop-depth-test.false) (omega (arith, c.loop-depth.auto.depth-end, c.loop-depth-test.false)))
    ∙ c.loop-depth.invariant.rest raw

pub returns-then-goes_on_lazily-clause-line : goal.returns-then-goes_on_lazily-clause-line
returns-then-goes_on_lazily-clause-line c = λ raw.
    let e = c.enter_items-first.ensures in
    let leaves = c.if-first.true in
    let count = c.enter_items-first.result.count in
    let line = seen_view c.enter_items-first.new.line.rest in
    all_lazily c.args.rules c.args.open_text raw c.args.frames.now count line (e.leaves leaves raw)
    (seen_view c.goes_on_lazily.new.self.rest) (e.more leaves) c.if-goes_on_lazily.ensures.line (c.goes_on_lazily.ensures.lazy c.if-goes_on_lazily.true)
    ∙ ap (λ b. beyond count (matching c.args.rules b c.args.open_text (drop count (frames_in raw c.args.frames.now)) line)) (sym (e.all leaves))
    ∙ e.through c.args.rules c.args.open_text raw

pub returns-then-goes_on_lazily-clause-tests : goal.returns-then-goes_on_lazily-clause-tests
returns-then-goes_on_lazily-clause-tests c =
    let e = c.enter_items-first.ensures in
    let leaves = c.if-first.true in
    next_and_lazily c.enter_items-first.result.count (length c.args.frames.now) _ _ _ (e.more leaves) (e.next leaves) c.goes_on_lazily.ensures.tests

pub returns-else-goes_on_lazily-clause-line : goal.returns-else-goes_on_lazily-clause-line
returns-else-goes_on_lazily-clause-line c = λ raw.
    let e = c.enter_items-first.ensures in
    let leaves = c.if-first.true in
    let count = c.enter_items-first.result.count in
    let line = seen_view c.enter_items-first.new.line.rest in
    ap (λ (v : View). (count, seen_view v)) (c.goes_on_lazily.ensures.same c.if-goes_on_lazily.false)
    ∙ none_lazily c.args.rules c.args.open_text raw c.args.frames.now count line (e.leaves leaves raw) c.if-goes_on_lazily.ensures.line
    ∙ ap (λ b. beyond count (matching c.args.rules b c.args.open_text (drop count (frames_in raw c.args.frames.now)) line)) (sym (e.all leaves))
    ∙ e.through c.args.rules c.args.open_text raw

pub returns-else-goes_on_lazily-clause-tests : goal.returns-else-goes_on_lazily-clause-tests
returns-else-goes_on_lazily-clause-tests c =
    let e = c.enter_items-first.ensures in
    let leaves = c.if-first.true in
    next_and_lazily c.enter_items-first.result.count (length c.args.frames.now) _ _ _ (e.more leaves) (e.next leaves) c.goes_on_lazily.ensures.tests

pub returns-else-goes_on_lazily-clause-plain : goal.returns-else-goes_on_lazily-clause-plain
returns-else-goes_on_lazily-clause-plain c lazy all =
    absurd (omega (arith, c.enter_items-first.ensures.more c.if-first.true, all))
