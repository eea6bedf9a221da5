use Rattle.std.specs.Prelude.{◌==◌}
use Rattle.std.proofs.lemmas.Bool.Decides.{nat_tests}
use Rattle.std.proofs.lemmas.List.{nil_from_length}
use Rattle.std.proofs.Common.{◌≡◌, true, false, [], length, ◌∙◌, refl, sym, ap, arith}
use Rattle.cm_text.specs.Views.{seen_view}
use Rattle.cm_scan.specs.blocks.Starts.{Stays}
use Rattle.cm_block.proofs.lemmas.ItemContinuations.{spaces_reach, nothing_after, all_taken, plain_after}
use Rattle.cm_block.proofs.lemmas.ContinuationLemmas.{in_item_stays, in_item_lazily}
use Rattle.cm_block.proofs.counted_line.items.inside_item.Goals as goal

pub returns-then-column-line-clause-continuation : goal.returns-then-column-line-clause-continuation
returns-then-column-line-clause-continuation c by =
    let line = c.args.line.now in
    in_item_stays by c.args.column false (seen_view line) c.requires refl
    (spaces_reach c.args.column line.spaces line.column line.rest.now line.lazy c.if-column-line.true)
    ∙ ap Stays (sym c.past_spaces.ensures.line)

pub returns-then-is_empty-clause-continuation : goal.returns-then-is_empty-clause-continuation
returns-then-is_empty-clause-continuation c by =
    let line = c.args.line.now in
    let empty : (length line.rest.now == 0) ≡ true = sym c.is_empty.ensures ∙ c.if-is_empty.true in
    let none : line.rest.now ≡ [] = nil_from_length line.rest.now (grind (arith, nat_tests, empty)) in
    in_item_stays by c.args.column false (seen_view line) c.requires refl
    (nothing_after c.args.column line.spaces line.column line.rest.now line.lazy none)
    ∙ ap Stays (sym (c.past_spaces-then-is_empty.ensures.line
    ∙ all_taken c.args.column line.spaces line.column line.rest.now line.lazy none (omega (arith, c.if-column-line.false))))

pub returns-then-begins_plain-clause-continuation : goal.returns-then-begins_plain-clause-continuation
returns-then-begins_plain-clause-continuation c by =
    let line = c.args.line.now in
    in_item_lazily by c.args.column false (seen_view line) c.requires
    (plain_after c.args.column line.spaces line.column line.rest.now line.lazy
    (sym c.begins_plain.ensures ∙ c.if-begins_plain.true) (omega (arith, c.if-column-line.false)))

pub returns-then-not-reaches_or_is_blank-clause-continuation : goal.returns-then-not-reaches_or_is_blank-clause-continuation
returns-then-not-reaches_or_is_blank-clause-continuation c by =
    in_item_lazily by c.args.column false (seen_view c.args.line.now) c.requires
    (sym c.reaches_or_is_blank.ensures ∙ c.if-not-reaches_or_is_blank.true)

pub returns-clause-continuation : goal.returns-clause-continuation
returns-clause-continuation c by =
    in_item_stays by c.args.column false (seen_view c.args.line.now) c.requires refl
    (sym c.reaches_or_is_blank.ensures ∙ c.if-not-reaches_or_is_blank.false)
    ∙ ap Stays (sym c.strip-inner.ensures.line)
