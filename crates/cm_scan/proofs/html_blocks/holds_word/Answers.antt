use Rattle.std.specs.Str.{str_to_ascii_lowercase}
use Rattle.std.proofs.Common.{◌≡◌, ◌+◌, ◌∙◌, true, false, length, drop, length-drop, eq-eqb, sym, ap, arith}
use Rattle.cm_scan.specs.Words.{is_at_word, holds_word}
use Rattle.cm_scan.proofs.lemmas.blocks.WordsInAnyCase.{holds_none, holds_first, slice_from}
use Rattle.cm_scan.proofs.html_blocks.holds_word.Goals as goal

pub overflow_add-rest : goal.overflow_add-rest
overflow_add-rest c = omega (arith, c.in-Some.ensures.0.high, c.loop-at.invariant.within)

pub returns-then-is_at_word : goal.returns-then-is_at_word
returns-then-is_at_word c = record {
  held = let word = c.args.word.now in
      let rest = c.loop-at.rest.now in
      let at = c.in-Some.at in
      let first = holds_first word rest at c.requires.some c.requires.no_letter c.in-Some.ensures.0.high
      (λ k below e. c.in-Some.ensures.0.before k (omega arith) below (eq-eqb _ _ e)) in
      let is : is_at_word word (str_to_ascii_lowercase (drop at rest)) ≡ true =
      ap (λ r. is_at_word word (str_to_ascii_lowercase r)) (sym (slice_from at rest)) ∙ sym c.is_at_word.ensures.word ∙ c.if-is_at_word.true in
      grind (arith, first, is, c.loop-at.invariant.same);
}

pub loop-at-preserved : goal.loop-at-preserved
loop-at-preserved c =
    let word = c.args.word.now in
    let rest = c.loop-at.rest.now in
    let at = c.in-Some.at in
    let first = holds_first word rest at c.requires.some c.requires.no_letter c.in-Some.ensures.0.high
    (λ k below e. c.in-Some.ensures.0.before k (omega arith) below (eq-eqb _ _ e)) in
    let is : is_at_word word (str_to_ascii_lowercase (drop at rest)) ≡ false =
    ap (λ r. is_at_word word (str_to_ascii_lowercase r)) (sym (slice_from at rest)) ∙ sym c.is_at_word.ensures.word ∙ c.if-is_at_word.false in
    let left : holds_word word (str_to_ascii_lowercase (drop (at + 1) rest)) ≡ holds_word word (str_to_ascii_lowercase c.args.bytes.now) = grind (arith, first, is, c.loop-at.invariant.same) in
    record {
      within = omega (arith, c.loop-at.invariant.within, ap length (slice_from (at + 1) rest), length-drop (at + 1) rest);
      same = ap (λ r. holds_word word (str_to_ascii_lowercase r)) (slice_from (at + 1) rest) ∙ left;
    }

pub returns : goal.returns
returns c = record {
  held = sym (holds_none c.args.word.now c.loop-at.rest.now c.requires.some c.requires.no_letter
      (λ k within e. c.in_default.ensures k (omega arith) within (eq-eqb _ _ e))) ∙ c.loop-at.invariant.same;
}
