use Rattle.std.proofs.Common.{refl, sym, ap, ◌≡◌, ◌<◌, ◌+◌, ◌-◌, ◌∙◌, ◌≢◌, ℕ, drop, get_or, arith}
use Rattle.cm_text.specs.Indentation.{blank_width, strip_from}
use Rattle.std.proofs.lemmas.Str.{IsCharBoundary-start}
use Rattle.std.proofs.lemmas.Grind.{common_steps}
use Rattle.cm_text.proofs.lemmas.IndentationLemmas.{after_blank, strip-step, room-step}
use Rattle.cm_text.proofs.columns.take_columns.Goals as goal

positive : (width value : ℕ) → width ≡ value → width ≢ 0 → 0 < value
positive width value e h = omega (arith, e, h)

pub loop-b-init : goal.loop-b-init
loop-b-init c = record {
  stripped = refl;
  counted = refl;
  boundary = rw (c.as_bytes-b-items.ensures.value) (IsCharBoundary-start _ (c.utf8.text));
  fits = rw (c.as_bytes-b-items.ensures.value) (omega (arith, c.requires));
}

pub returns-then-left-width-clause-boundary : goal.returns-then-left-width-clause-boundary
returns-then-left-width-clause-boundary c =
    let some = positive _ _ c.blank_width-width.ensures c.if-width-eq0.false in
    let next = after_blank c.as_bytes-b-items.result.now c.loop-b.b-index c.loop-b.column (rw (c.as_bytes-b-items.ensures.value) (c.utf8.text)) c.loop-b-test.true some in
    rw (sym c.as_bytes-b-items.ensures.value, c.loop-b.invariant.counted) next

pub loop-b-preserved : goal.loop-b-preserved
loop-b-preserved c =
    let some = positive _ _ c.blank_width-width.ensures c.if-width-eq0.false in
    let bytes = c.as_bytes-b-items.result.now in
    let next = after_blank bytes c.loop-b.b-index c.loop-b.column (rw (c.as_bytes-b-items.ensures.value) (c.utf8.text)) c.loop-b-test.true some in
    record {
      stripped = rw (c.blank_width-width.ensures) (sym (strip-step c.loop-b.left c.loop-b.column c.loop-b.b-index bytes c.loop-b-test.true (omega (arith, c.if-left-eq0.false)) some (omega (arith, c.blank_width-width.ensures, c.if-left-width.false)))) ∙ c.loop-b.invariant.stripped;
      counted = ap (λ k. k + 1) c.loop-b.invariant.counted;
      boundary = rw (c.loop-b.invariant.counted) next;
      fits = omega (arith, c.blank_width-width.ensures, room-step c.loop-b.column c.loop-b.b-index bytes c.loop-b-test.true, c.loop-b.invariant.fits);
    }

pub loop-b-preserved-then-left-gt0 : goal.loop-b-preserved-then-left-gt0
loop-b-preserved-then-left-gt0 c =
    let bytes = c.as_bytes-b-items.result.now in
    let at = c.loop-b.b-index in
    let column = c.loop-b.column in
    let one : blank_width column (get_or bytes at 0) ≡ 1 = ap (blank_width column) c.if-b-eq32.true in
    let next = after_blank bytes at column (rw (c.as_bytes-b-items.ensures.value) (c.utf8.text)) c.loop-b-test.true (omega (arith, one)) in
    record {
      stripped = ap (λ w. strip_from (c.loop-b.left - w) (column + w) (drop (at + 1) bytes)) (sym one)
          ∙ sym (strip-step c.loop-b.left column at bytes c.loop-b-test.true c.if-left-gt0.true (omega (arith, one)) (omega (arith, one, c.if-left-gt0.true))) ∙ c.loop-b.invariant.stripped;
      counted = ap (λ k. k + 1) c.loop-b.invariant.counted;
      boundary = rw (c.loop-b.invariant.counted) next;
      fits = omega (arith, one, room-step column at bytes c.loop-b-test.true, c.loop-b.invariant.fits);
    }

pub overflow_add-column : goal.overflow_add-column
overflow_add-column c = grind (arith, common_steps)

pub returns-then-left-width-clause-taken : goal.returns-then-left-width-clause-taken
returns-then-left-width-clause-taken c = grind (arith, common_steps)

pub overflow_add-column-in-loop-b : goal.overflow_add-column-in-loop-b
overflow_add-column-in-loop-b c = grind (arith, common_steps)

pub returns-after-loop-b-clause-taken : goal.returns-after-loop-b-clause-taken
returns-after-loop-b-clause-taken c = grind (arith, common_steps)

pub returns-then-left-eq0-clause-taken : goal.returns-then-left-eq0-clause-taken
returns-then-left-eq0-clause-taken c = grind (arith, common_steps)
