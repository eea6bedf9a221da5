-- What is known not to follow in a source.
use Rattle.cm_inline.proofs.lemmas.Words.{◌≡◌, ℕ, ◌+◌, ◌-◌, ◌*◌, ◌<◌, false, List, length, drop, get_or, same_Some, inl, inr, Some, None, refl, sym}
use Rattle.cm_inline.proofs.lemmas.Words.{ap, ◌∙◌, arith, nat_tests, run_length, after_run, up_to_run, spanned_as_written}
use Rattle.cm_inline.proofs.lemmas.Words.{MissingEnds, rules}
use Rattle.std.specs.Ordering.{nat_cmp}
use Rattle.std.specs.Option.{option_map_or}
use Rattle.std.specs.BTreeMap.{BTreeMap, get, is_at, Updates}
use Rattle.std.proofs.lemmas.Bool.{cases_eq}
use Rattle.cm_scan.proofs.lemmas.spans.BacktickStrings.{Found, none-before, none-beyond}
use Rattle.cm_scan.proofs.lemmas.spans.BacktickRuns.{run-follows}
use Rattle.cm_inline.specs.steps.Missing.{after_last, NoneFrom, FollowsUpTo, code_spare}

-- the last backtick string of each length

not-key : (key count : ℕ) → (key ≡ count → ⊥) → is_at (nat_cmp key) count ≡ false
not-key key count other = grind (arith, nat_tests, other)

module _ (last next : BTreeMap ℕ ℕ) (key end : ℕ) (updates : Updates nat_cmp last next key (Some end)) where
  beyond-this : after_last next key ≡ end
  beyond-this = ap (λ o. option_map_or (λ e. e) o 0) updates.1

  beyond-other : (count : ℕ) → (key ≡ count → ⊥) → after_last next count ≡ after_last last count
  beyond-other count other = ap (λ o. option_map_or (λ e. e) o 0) (updates.2 count (not-key key count other))

  -- what isn't found after one more backtick string isn't found after the last one of its length
  pub none-beyond-last : (source : List ℕ) (at plain : ℕ) → Found source at plain → end ≡ at + plain + run_length 96 (drop (at + plain) source)
      → drop end source ≡ after_run 96 (drop (at + plain) source) → key ≡ end - (at + plain)
      → ((count : ℕ) → up_to_run count false (drop at source) ≡ None → up_to_run count false (drop (after_last last count) source) ≡ None)
      → (count : ℕ) → up_to_run count false (drop end source) ≡ None → up_to_run count false (drop (after_last next count) source) ≡ None
  none-beyond-last source at plain found run left size before count none = search (rules, cases_eq, beyond-this, beyond-other, none-before)

  -- a backtick string follows each place before the last one of its length
  pub some-beyond-last : (source : List ℕ) (at plain : ℕ) → Found source at plain → (0 < at → get_or source at 0 ≡ 96 → ⊥) → end ≡ at + plain + run_length 96 (drop (at + plain) source) → key ≡ end - (at + plain)
      → ((count e : ℕ) → get nat_cmp last count ≡ Some e → FollowsUpTo source count e) → (count e : ℕ) → get nat_cmp next count ≡ Some e → FollowsUpTo source count e
  some-beyond-last source at plain found over run size before count e known = elim (cases_eq key count) [
    | inl same ↦
        let place : end ≡ e = same_Some end e (sym updates.1 ∙ ap (get nat_cmp next) same ∙ known) in
        λ from below other none. run-follows count source at plain end found over run (sym size ∙ same) from (omega (arith, below, place)) other none
    | inr other ↦ before count e (sym (updates.2 count (not-key key count other)) ∙ known)
  ]

-- a backtick string whose like isn't found after it starts no code span
pub no-code-span : (source : List ℕ) (at count start : ℕ) → start ≡ at + count → run_length 96 (drop at source) ≡ count → NoneFrom source count start → spanned_as_written (drop at source) ≡ None
no-code-span source at count start place same none = none-beyond count source none.0 at start place same none.1 none.2

-- nothing is known of backtick strings
pub all-spare : (source : List ℕ) (ends : MissingEnds) → ends.backticks ≡ None → code_spare source ends ≡ 21 * length source + 16
all-spare source ends unknown = rw unknown refl
