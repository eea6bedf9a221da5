use Rattle.std.proofs.Common.{◌≡◌, ◌+◌, ◌≤◌, ◌∙◌, ℕ, Bool, true, false, None, IfSome, length, nat_lt, refl, sym, ap, subst, arith}
use Rattle.std.proofs.lemmas.Bool.{ltb-false}
use Rattle.std.specs.Bool.{then_some}
use Rattle.std.specs.Prelude.{Option}
use Rattle.memchr.specs.Find.{is_byte}
use Rattle.cm_text.proofs.lemmas.SearchLemmas.{first-byte}
use Rattle.cm_scan.proofs.code_spans.first_backtick.Goals as goal

some-is : (within : Bool) (at : ℕ) (P : ℕ → Type 0) → P at → IfSome (then_some within at) P
some-is true at P h = h
some-is false at P h = tt

none-is : (within : Bool) (at : ℕ) → then_some within at ≡ None → within ≡ false
none-is true at h = absurd (cc)
none-is false at h = refl

pub returns-clause-found : goal.returns-clause-found
returns-clause-found g c =
    let at = c.next_of-at.result in
    first-byte (is_byte 96) c.args.bytes.now at c.then_some.result c.next_of-at.ensures.next (c.then_some.ensures ∙ ap (λ n. then_some (nat_lt at n) at) c.len.ensures)

pub returns-clause-some : goal.returns-clause-some
returns-clause-some g c =
    let at = c.next_of-at.result in
    subst (λ (o : Option ℕ). IfSome o (λ n. c.next_of-at.new.looks ≡ c.args.looks.now + n + 16)) (sym c.then_some.ensures) (some-is (nat_lt at c.len.result) at (λ n. c.next_of-at.new.looks ≡ c.args.looks.now + n + 16) c.next_of-at.ensures.looks)

pub returns-clause-none : goal.returns-clause-none
returns-clause-none g c = λ none.
    let at = c.next_of-at.result in
    let past : length c.args.bytes.now ≤ at = ltb-false at (length c.args.bytes.now) (ap (nat_lt at) (sym c.len.ensures) ∙ none-is (nat_lt at c.len.result) at (sym c.then_some.ensures ∙ none)) in
    omega (arith, past, c.next_of-at.ensures.within, c.next_of-at.ensures.looks)
