use Rattle.std.proofs.Common.{◌≡◌, ◌∙◌, ℕ, ◌+◌, ◌<◌, length, get_or, refl, sym, ap, subst, arith}
use Rattle.std.proofs.lemmas.Str.{IsCharBoundary-start}
use Rattle.cm_text.specs.TextLines.{begins_text}
use Rattle.cm_text.specs.steps.FirstLine.{IsFirstLine}
use Rattle.cm_text.specs.steps.TextAhead.{IsAhead}
use Rattle.cm_text.proofs.lemmas.SearchLemmas.{spaces_first}
use Rattle.cm_text.proofs.lemmas.TextLineLemmas.{next_spaces, no_spaces, boundary_next, text_next}
use Rattle.cm_text.proofs.text_lines.text_ahead.Goals as goal

pub loop-first-init : goal.loop-first-init
loop-first-init c = record {
  ahead = record {
    within = omega arith;
    boundary = IsCharBoundary-start c.args.text.now c.utf8.text;
    lines = refl;
    counted = refl;
    are_text = refl;
    first = c.requires.first;
  };
  first = omega arith;
  spaces = refl;
  few = omega arith;
}

pub overflow_add-ahead-in-loop-first : goal.overflow_add-ahead-in-loop-first
overflow_add-ahead-in-loop-first c = omega (arith, c.loop-first.invariant.few, c.loop-first.invariant.ahead.within, c.as_bytes-bytes.ensures.len)

pub range_from-requires : goal.range_from-requires
range_from-requires c = λ _.
    let a = c.loop-first.ahead in
    let found = c.is_text_line.ensures in
    let bytes = c.as_bytes-bytes.ensures.value in
    boundary_next c.args.text.now a c.loop-first.invariant.ahead (omega (arith, found.end c.loop-first-test.true, ap length bytes))
    (ap (λ t. get_or t (a.len + a.line) 0) (sym bytes) ∙ found.feed c.loop-first-test.true) c.utf8.text

pub loop-first-preserved : goal.loop-first-preserved
loop-first-preserved c =
    let text = c.args.text.now in
    let a = c.loop-first.ahead in
    let i = c.loop-first.invariant in
    let found = c.is_text_line.ensures in
    let len = a.len + (a.line + 1) in
    let bytes : (k : ℕ) → get_or text k 0 ≡ get_or c.as_bytes-bytes.result.now k 0 = λ k. ap (λ t. get_or t k 0) (sym c.as_bytes-bytes.ensures.value) in
    let within : a.len + a.line < length text = omega (arith, found.end c.loop-first-test.true, ap length c.as_bytes-bytes.ensures.value) in
    record {
      ahead = subst (λ n. IsAhead (record { spaces = n; count = a.count + 1; len = len; line = c.line_len.result }) text) i.spaces
          (text_next text a i.ahead within (bytes (a.len + a.line) ∙ found.feed c.loop-first-test.true) c.loop-first.first len c.line_len.result
          (i.first ∙ ap (λ n. a.len + next_spaces a.count n) (sym i.spaces)) (found.first c.loop-first-test.true)
          (ap begins_text (bytes c.loop-first.first) ∙ found.begins c.loop-first-test.true)
          (λ k below. spaces_first text k (omega (arith, below, i.spaces, c.leading_spaces-spaces.ensures.spaces)))
          refl c.utf8.text (subst (IsFirstLine c.line_len.result) c.range_from.ensures.value c.line_len.ensures.line));
      first = omega (arith, no_spaces a.count c.leading_spaces-spaces.result);
      spaces = refl;
      few = omega (arith, i.few);
    }
