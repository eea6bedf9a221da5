use Rattle.std.proofs.Common.{◌≡◌, [], ◌∷◌, ◌++◌, sym, ap, ap₂, ◌∙◌, arith}
use Rattle.cm_text.specs.Lines.{LineView}
use Rattle.cm_text.specs.Views.{seen_view}
use Rattle.cm_scan.specs.blocks.Lines.{with_ending}
use Rattle.cm_scan.specs.blocks.Blocks.{line_feeds}
use Rattle.cm_block.proofs.lemmas.ContinuationLemmas.{taken_goes_on, blank_inside, near_inside, far_inside}
use Rattle.cm_block.proofs.lemmas.FeedLemmas.{feeds_after}
use Rattle.cm_block.proofs.lemmas.LeafLemmas.{waits, no_code, goes_on}
use Rattle.cm_block.proofs.counted_line.copies.take_code_line.Goals as goal

pub overflow_sub-inner : goal.overflow_sub-inner
overflow_sub-inner c = taken_goes_on 4 (seen_view c.args.line.now) (seen_view c.strip_four-inner.result) c.strip_four-inner.ensures

pub returns-then-is_blank-clause-taken : goal.returns-then-is_blank-clause-taken
returns-then-is_blank-clause-taken c by =
    let line = seen_view c.args.line.now in
    let blanks = c.args.blank_lines.now in
    let blank = sym (blank_inside 4 line (seen_view c.strip_four-inner.result) c.strip_four-inner.ensures) ∙ sym c.is_blank.ensures ∙ c.if-is_blank.true in
    waits by c.args.text.now blanks c.push_whole_line.new.text line blank
    (c.in_ok-push_whole_line.ensures.text ∙ ap (λ l. blanks ++ with_ending l) c.strip_four-inner.ensures) c.in_ok-push_whole_line.ensures.feeds

pub returns-then-inner-line-lt4-clause-taken : goal.returns-then-inner-line-lt4-clause-taken
returns-then-inner-line-lt4-clause-taken c by =
    let line = seen_view c.args.line.now in
    let inner = seen_view c.strip_four-inner.result in
    let some = sym (blank_inside 4 line inner c.strip_four-inner.ensures) ∙ sym c.is_blank.ensures ∙ c.if-is_blank.false in
    no_code by c.args.text.now c.args.blank_lines.now line some (near_inside 4 line inner c.strip_four-inner.ensures c.if-inner-line-lt4.true)

pub returns-clause-taken : goal.returns-clause-taken
returns-clause-taken c by =
    let line = seen_view c.args.line.now in
    let inner = c.strip_four-inner.result in
    let is = c.strip_four-inner.ensures in
    let some = sym (blank_inside 4 line (seen_view inner) is) ∙ sym c.is_blank.ensures ∙ c.if-is_blank.false in
    let text = c.args.text.now in
    let blanks = c.args.blank_lines.now in
    let front : c.push_text.new.self ≡ (text ++ 10 ∷ []) ++ blanks =
    c.in_ok-push_text.ensures ∙ ap (λ t. t ++ blanks) c.in_ok-end_line.ensures in
    rw c.clear.ensures (goes_on by text blanks c.push_line.new.text line some
    (far_inside 4 line (seen_view inner) is (omega (arith, c.if-inner-line-lt4.false)))
    (c.in_ok-push_line.ensures ∙ ap₂ (λ t (l : LineView). t ++ l.text) front is)
    (ap line_feeds (c.in_ok-push_line.ensures ∙ ap (λ t. t ++ (seen_view inner).text) front)
    ∙ feeds_after ((text ++ 10 ∷ []) ++ blanks) inner.spaces inner.rest.now inner.one_line))
