-- A destination that no `<` starts.
use Rattle.std.proofs.Common.{◌≡◌, ℕ, zero, suc, ◌+◌, ◌<◌, ◌≤◌, ◌==◌, ◌&&◌, not, Bool, true, false, if◌then◌else◌, List, [], ◌∷◌, length, drop, get_or, Some, None, refl, sym, ap, ◌∙◌, arith, add-one, drop-cons}
use Rattle.std.specs.List.{slice_range}
use Rattle.std.proofs.lemmas.List.{append-nil, drop_all}
use Rattle.std.proofs.lemmas.Bool.Decides.{nat_tests}
use Rattle.cm_scan.specs.Words.{given}
use Rattle.cm_scan.specs.inlines.Links.{beyond, opened_by, bare_run}
use Rattle.cm_scan.specs.steps.LinkSteps.{ended_at, ends_bare, is_plain_in_run}
use Rattle.cm_scan.proofs.lemmas.links.BracketedParts.{mark, plain-mark, ahead, ahead_from, ahead-beyond, slice-more}

-- how many parentheses are open after a byte that may be escaped
abbrev pub opened_after : ℕ → Bool → ℕ → ℕ
opened_after opened escaped b = if escaped then opened else opened_by opened b

bare-more : (opened : ℕ) (escaped : Bool) (b : ℕ) (bs : List ℕ) → (not escaped && ends_bare opened b) ≡ false → (not escaped && (b == 40 && opened == 32)) ≡ false
    → bare_run opened escaped (b ∷ bs) ≡ beyond b (bare_run (opened_after opened escaped b) (mark escaped b bs) bs)
unfolding bare_run
bare-more opened true b bs h k = refl
bare-more opened false b bs h k = grind (arith, h, k)

bare-deep : (opened : ℕ) (escaped : Bool) (b : ℕ) (bs : List ℕ) → (not escaped && ends_bare opened b) ≡ false → (not escaped && (b == 40 && opened == 32)) ≡ true
    → bare_run opened escaped (b ∷ bs) ≡ None
unfolding bare_run
bare-deep opened true b bs h k = absurd (cc)
bare-deep opened false b bs h k = grind (arith, h, k)

-- a byte that the run holds
pub bare-step : (opened next : ℕ) (escaped marked : Bool) (text : List ℕ) (from at : ℕ) → from ≤ at → at < length text
    → (not escaped && ends_bare opened (get_or text at 0)) ≡ false → (not escaped && (get_or text at 0 == 40 && opened == 32)) ≡ false
    → next ≡ opened_after opened escaped (get_or text at 0) → marked ≡ mark escaped (get_or text at 0) (drop (suc at) text)
    → ahead_from text from (at + 1) (bare_run next marked (drop (at + 1) text)) ≡ ahead_from text from at (bare_run opened escaped (drop at text))
bare-step opened next escaped marked text from at low high h k n m =
    let b = get_or text at 0 in
    let bs = drop (suc at) text in
    let o = bare_run (opened_after opened escaped b) (mark escaped b bs) bs in
    rw (n, m, add-one)
    (ap (λ t. ahead t o) (slice-more text from at low high) ∙ sym (ahead-beyond (slice_range text from at) b o)
    ∙ ap (ahead_from text from at) (sym (bare-more opened escaped b bs h k))
    ∙ ap (λ t. ahead_from text from at (bare_run opened escaped t)) (sym (drop-cons text at 0 high)))

-- a parenthesis too many
pub bare-stop : (opened : ℕ) (escaped : Bool) (text : List ℕ) (from at : ℕ) → at < length text
    → (not escaped && ends_bare opened (get_or text at 0)) ≡ false → (not escaped && (get_or text at 0 == 40 && opened == 32)) ≡ true
    → ahead_from text from at (bare_run opened escaped (drop at text)) ≡ None
bare-stop opened escaped text from at within h k =
    ap (λ t. ahead_from text from at (bare_run opened escaped t)) (drop-cons text at 0 within)
    ∙ ap (ahead_from text from at) (bare-deep opened escaped (get_or text at 0) (drop (suc at) text) h k)

-- the run's end: the text's, or a byte that it can't hold
pub ends-past : (opened : ℕ) (escaped : Bool) (text : List ℕ) (at : ℕ) → length text ≤ at → bare_run opened escaped (drop at text) ≡ given (opened == 0) (record { text = []; rest = drop at text })
unfolding bare_run
ends-past opened escaped text at past = let none : drop at text ≡ [] = drop_all at text past in rw none (nothing escaped)
  where
    nothing : (escaped : Bool) → bare_run opened escaped [] ≡ given (opened == 0) (record { text = []; rest = [] })
    nothing true = refl
    nothing false = refl

stops-here : (opened : ℕ) (escaped : Bool) (b : ℕ) (bs : List ℕ) → (not escaped && ends_bare opened b) ≡ true → bare_run opened escaped (b ∷ bs) ≡ given (opened == 0) (record { text = []; rest = b ∷ bs })
unfolding bare_run
stops-here opened true b bs h = absurd (cc)
stops-here opened false b bs h = grind (arith, h)

pub ends-inside : (opened : ℕ) (escaped : Bool) (text : List ℕ) (at : ℕ) → at < length text → (not escaped && ends_bare opened (get_or text at 0)) ≡ true
    → bare_run opened escaped (drop at text) ≡ given (opened == 0) (record { text = []; rest = drop at text })
ends-inside opened escaped text at within h = rw (drop-cons text at 0 within) (stops-here opened escaped (get_or text at 0) (drop (suc at) text) h)

abbrev pub Ends : ℕ → Bool → List ℕ → ℕ → Type 0
Ends opened escaped text at = bare_run opened escaped (drop at text) ≡ given (opened == 0) (record { text = []; rest = drop at text })

pub bare-none : (opened : ℕ) (escaped : Bool) (text : List ℕ) (from at : ℕ) → Ends opened escaped text at → 0 < opened → ahead_from text from at (bare_run opened escaped (drop at text)) ≡ None
bare-none opened escaped text from at h some =
    let opens : (opened == 0) ≡ false = grind (arith, nat_tests, some) in
    ap (ahead_from text from at) (h ∙ ap (λ v. given v (record { text = []; rest = drop at text })) opens)

pub bare-some : (opened : ℕ) (escaped : Bool) (text : List ℕ) (from at : ℕ) → Ends opened escaped text at → opened ≤ 0 → ahead_from text from at (bare_run opened escaped (drop at text)) ≡ ended_at text from (Some at)
bare-some opened escaped text from at h none =
    let opens : (opened == 0) ≡ true = grind (arith, nat_tests, none) in
    ap (ahead_from text from at) (h ∙ ap (λ v. given v (record { text = []; rest = drop at text })) opens)
    ∙ ap (λ t. Some (record { text = t; rest = drop at text })) (append-nil (slice_range text from at))

-- no more than 32 are open
pub few-more : (opened next b : ℕ) (escaped : Bool) → opened ≤ 32 → (not escaped && (b == 40 && opened == 32)) ≡ false → next ≡ opened_after opened escaped b → next ≤ 32
few-more opened next b true h k n = omega (arith, h, n)
few-more opened next b false h k n = grind (arith, nat_tests, h, k, n)

-- a plain byte ends no run, and isn't one parenthesis too many; it opens and escapes nothing
plain-kept : (opened : ℕ) (escaped : Bool) (b : ℕ) → is_plain_in_run b ≡ true → (not escaped && ends_bare opened b) ≡ false
plain-kept opened true b h = refl
plain-kept opened false b h = grind (arith, nat_tests, h)

plain-fits : (opened : ℕ) (escaped : Bool) (b : ℕ) → is_plain_in_run b ≡ true → (not escaped && (b == 40 && opened == 32)) ≡ false
plain-fits opened true b h = refl
plain-fits opened false b h = grind (arith, nat_tests, h)

plain-opened : (opened : ℕ) (escaped : Bool) (b : ℕ) → is_plain_in_run b ≡ true → opened ≡ opened_after opened escaped b
plain-opened opened true b h = refl
plain-opened opened false b h = grind (arith, nat_tests, h)

plain-escapes : (b : ℕ) → is_plain_in_run b ≡ true → (b == 92) ≡ false
plain-escapes b h = grind (arith, nat_tests, h)

-- and is skipped
bare-plain : (opened : ℕ) (escaped : Bool) (text : List ℕ) (from at : ℕ) → from ≤ at → at < length text → is_plain_in_run (get_or text at 0) ≡ true
    → ahead_from text from (at + 1) (bare_run opened false (drop (at + 1) text)) ≡ ahead_from text from at (bare_run opened escaped (drop at text))
bare-plain opened escaped text from at low high h =
    let b = get_or text at 0 in
    bare-step opened opened escaped false text from at low high (plain-kept opened escaped b h) (plain-fits opened escaped b h)
    (plain-opened opened escaped b h) (plain-mark escaped b (drop (suc at) text) (plain-escapes b h))

-- and so are several
pub bare-plains : (n opened : ℕ) (escaped : Bool) (text : List ℕ) (from at end : ℕ) → end ≡ at + suc n → from ≤ at → end ≤ length text
    → ((k : ℕ) → at ≤ k → k < end → is_plain_in_run (get_or text k 0) ≡ true)
    → ahead_from text from end (bare_run opened false (drop end text)) ≡ ahead_from text from at (bare_run opened escaped (drop at text))
bare-plains zero opened escaped text from at end count low high plain =
    let next : end ≡ at + 1 = omega (arith, count) in
    ap (λ m. ahead_from text from m (bare_run opened false (drop m text))) next
    ∙ bare-plain opened escaped text from at low (omega (arith, count, high)) (plain at (omega arith) (omega (arith, count)))
bare-plains (suc n) opened escaped text from at end count low high plain =
    bare-plains n opened false text from (at + 1) end (omega (arith, count)) (omega (arith, low)) high (λ k above under. plain k (omega (arith, above)) under)
    ∙ bare-plain opened escaped text from at low (omega (arith, count, high)) (plain at (omega arith) (omega (arith, count)))
