-- How texts are spelled, byte by byte.
use Rattle.std.proofs.Common.{◌≡◌, ℕ, zero, suc, ◌+◌, ◌-◌, ◌<◌, ◌≤◌, max, ◌==◌, ◌&&◌, ◌||◌, Bool, true, false, List, [], ◌∷◌, ◌++◌, length, drop, get_or, refl, sym, ap, ◌∙◌, append_assoc, append-nil, arith}
use Rattle.std.proofs.lemmas.Bool.{ne_eqb, true≢false}
use Rattle.std.proofs.lemmas.List.{drop_more, drop_all}
use Rattle.std.specs.Prelude.{if◌then◌else◌}
use Rattle.std.specs.Char.{is_ascii_control}
use Rattle.std.specs.List.{list_any}
use Rattle.cm_text.specs.Characters.{is_ascii_punct}
use Rattle.cm_text.proofs.lemmas.ReplacedLemmas.{Keeps}
use Rattle.cm_scan.specs.Words.{is_empty, run_length}
use Rattle.cm_scan.specs.inlines.Links.{escapes_next}
use Rattle.cm_scan.specs.spans.Autolinks.{ends_with}
use Rattle.cm_source.specs.Texts.{numbered, spelled_byte, spelled_bytes, edge_byte, spelled_text, longest_run}
use Rattle.cm_source.specs.steps.Bytes.{is_spelled}

-- any other byte is written as it is
pub kept : Keeps is_spelled spelled_byte
unfolding spelled_byte
kept b plain = grind arith

pub spelled-ascii : (b : ℕ) → is_spelled b ≡ true → b < 128
spelled-ascii b spelled = grind arith

-- one byte, by its number or after a backslash
pub by-number : (b : ℕ) → (b == 96 || is_ascii_control b) ≡ true → spelled_byte b ≡ numbered b
unfolding spelled_byte
by-number b e = grind (arith, e)

pub beyond-backslash : (b : ℕ) → is_spelled b ≡ true → (b == 96) ≡ false → is_ascii_control b ≡ false → spelled_byte b ≡ 92 ∷ b ∷ []
unfolding spelled_byte
beyond-backslash b is other printed = grind (arith, is, other, printed)

-- only a backslash escapes what follows
pub escapes-none : (b : ℕ) (bs : List ℕ) → (b == 92) ≡ false → escapes_next b bs ≡ false
escapes-none b [] e = refl
escapes-none b (c ∷ cs) e = ap (λ t. t && is_ascii_punct c) e

-- texts at the edges of lines

pub inner-text : (text : List ℕ) → spelled_text false false text ≡ spelled_bytes text
unfolding spelled_text
inner-text [] = refl
inner-text (b ∷ bs) = ap (λ t. spelled_byte b ++ t) (inner-text bs)

some-beyond : (b : ℕ) (text rest : List ℕ) → is_empty (text ++ b ∷ rest) ≡ false
some-beyond b [] rest = refl
some-beyond b (c ∷ cs) rest = refl

pub space-last : (front : List ℕ) → spelled_text false true (front ++ 32 ∷ []) ≡ spelled_bytes front ++ numbered 32
unfolding spelled_text
space-last [] = append-nil (numbered 32)
space-last (b ∷ bs) =
    ap (λ v. edge_byte (false || true && v) b ++ spelled_text false true (bs ++ 32 ∷ [])) (some-beyond 32 bs [])
    ∙ ap (λ t. spelled_byte b ++ t) (space-last bs) ∙ sym (append_assoc (spelled_byte b) (spelled_bytes bs) (numbered 32))

pub no-space-last : (text : List ℕ) → ((front : List ℕ) → text ≡ front ++ 32 ∷ [] → ⊥) → spelled_text false true text ≡ spelled_bytes text
unfolding spelled_text
no-space-last [] none = refl
no-space-last (b ∷ []) none = ap (λ v. (if v then numbered 32 else spelled_byte b) ++ []) (ne_eqb b 32 (λ e. none [] (ap (λ c. c ∷ []) e)))
no-space-last (b ∷ c ∷ cs) none = ap (λ t. spelled_byte b ++ t) (no-space-last (c ∷ cs) (λ front e. none (b ∷ front) (ap (λ t. b ∷ t) e)))

pub space-first : (last : Bool) (rest : List ℕ) → spelled_text true last (32 ∷ rest) ≡ numbered 32 ++ spelled_text false last rest
unfolding spelled_text
space-first last rest = refl

pub no-space-first : (last : Bool) (text : List ℕ) → ((rest : List ℕ) → text ≡ 32 ∷ rest → ⊥) → spelled_text true last text ≡ spelled_text false last text
unfolding spelled_text
no-space-first last [] none = refl
no-space-first last (b ∷ bs) none =
    let other : (b == 32) ≡ false = ne_eqb b 32 (λ e. none bs (ap (λ c. c ∷ bs) e)) in
    ap (λ v. (if v then numbered 32 else spelled_byte b) ++ spelled_text false last bs) other
    ∙ ap (λ v. (if v then numbered 32 else spelled_byte b) ++ spelled_text false last bs) (sym (false-both (last && is_empty bs) (b == 32) other))
  where
    false-both : (v w : Bool) → w ≡ false → v && w ≡ false
    false-both true w e = e
    false-both false w e = refl

-- the last byte of a text
pub ends-at : (c n : ℕ) (bs : List ℕ) → length bs ≡ suc n → ends_with c bs ≡ (get_or bs n 0 == c)
unfolding ends_with
ends-at c n [] e = absurd (omega (arith, e))
ends-at c zero (b ∷ []) e = refl
ends-at c (suc n) (b ∷ []) e = absurd (omega (arith, e))
ends-at c zero (b ∷ d ∷ ds) e = absurd (omega (arith, e))
ends-at c (suc n) (b ∷ d ∷ ds) e = ends-at c n (d ∷ ds) (omega (arith, e))

-- the longest run, byte by byte
pub run-within : (before : ℕ) (text : List ℕ) → before + run_length 96 text ≤ longest_run before text
unfolding run_length longest_run
run-within before [] = omega arith
run-within before (b ∷ bs) = go (b == 96) (run-within (suc before) bs)
  where
    go : (tick : Bool) → suc before + run_length 96 bs ≤ longest_run (suc before) bs
        → before + elim tick as (λ _. ℕ) [ true ↦ suc (run_length 96 bs) | false ↦ 0 ] ≤ (if tick then longest_run (suc before) bs else max before (longest_run 0 bs))
    go true more = omega (arith, more)
    go false more = omega arith

pub longest-at-least : (before : ℕ) (text : List ℕ) → before ≤ longest_run before text
longest-at-least before text = omega (arith, run-within before text)

pub longest-step : (longest run b : ℕ) (bs : List ℕ) → run ≤ longest → let next = if b == 96 then run + 1 else 0 in max longest (longest_run run (b ∷ bs)) ≡ max (max longest next) (longest_run next bs)
unfolding longest_run
longest-step longest run b bs low = go (b == 96) (longest-at-least (suc run) bs)
  where
    go : (tick : Bool) → suc run ≤ longest_run (suc run) bs
        → max longest (if tick then longest_run (suc run) bs else max run (longest_run 0 bs)) ≡ max (max longest (if tick then run + 1 else 0)) (longest_run (if tick then run + 1 else 0) bs)
    go true more = let same : longest_run (run + 1) bs ≡ longest_run (suc run) bs = ap (λ n. longest_run n bs) (let one : run + 1 ≡ suc run = omega arith in one) in omega (arith, more, same)
    go false more = omega (arith, low)

pub run-step : (longest run next i : ℕ) (bs : List ℕ) (whole : ℕ) → i < length bs → run ≤ longest → (if get_or bs i 0 == 96 then run + 1 else 0) ≡ next → max longest (longest_run run (drop i bs)) ≡ whole
    → max (max longest next) (longest_run next (drop (i + 1) bs)) ≡ whole
run-step longest run next i bs whole within low is e =
    ap (λ n. max (max longest n) (longest_run n (drop (i + 1) bs))) (sym is) ∙ sym (longest-step longest run (get_or bs i 0) (drop (i + 1) bs) low)
    ∙ ap (λ t. max longest (longest_run run t)) (sym (drop_more bs i 0 within)) ∙ e

pub run-end : (longest run i : ℕ) (bs : List ℕ) (whole : ℕ) → length bs ≤ i → run ≤ longest → max longest (longest_run run (drop i bs)) ≡ whole → longest ≡ whole
unfolding longest_run
run-end longest run i bs whole past low e = let last = ap (λ t. max longest (longest_run run t)) (drop_all i bs past) in omega (arith, low, e, last)

pub ends-empty : (c : ℕ) (bs : List ℕ) → length bs ≡ 0 → ends_with c bs ≡ false
unfolding ends_with
ends-empty c [] e = refl
ends-empty c (b ∷ bs) e = absurd (omega (arith, e))

pub ends-last : (c : ℕ) (bs : List ℕ) → (length bs == 0) ≡ false → ends_with c bs ≡ (get_or bs (length bs - 1) 0 == c)
ends-last c [] e = absurd (cc e)
ends-last c (b ∷ bs) e =
    let place : length (b ∷ bs) - 1 ≡ length bs = omega arith in
    ends-at c (length bs) (b ∷ bs) (omega arith) ∙ ap (λ n. get_or (b ∷ bs) n 0 == c) (sym place)

-- where there is no backtick, no run is longer than none
pub no-runs : (text : List ℕ) → list_any (λ b. b == 96) text ≡ false → 0 ≡ longest_run 0 text
unfolding longest_run
no-runs [] h = refl
no-runs (b ∷ bs) h = go (b == 96) h (no-runs bs)
  where
    go : (tick : Bool) → (tick || list_any (λ b. b == 96) bs) ≡ false → (list_any (λ b. b == 96) bs ≡ false → 0 ≡ longest_run 0 bs) → 0 ≡ (if tick then longest_run 1 bs else max 0 (longest_run 0 bs))
    go true h rest = absurd (true≢false h)
    go false h rest = let none : 0 ≡ longest_run 0 bs = rest h in omega (arith, none)

pub longest-within : (before : ℕ) (text : List ℕ) → longest_run before text ≤ before + length text
unfolding longest_run
longest-within before [] = omega arith
longest-within before (b ∷ bs) = go (b == 96) (longest-within (suc before) bs) (longest-within 0 bs)
  where
    go : (tick : Bool) → longest_run (suc before) bs ≤ suc before + length bs → longest_run 0 bs ≤ 0 + length bs → (if tick then longest_run (suc before) bs else max before (longest_run 0 bs)) ≤ before + suc (length bs)
    go true more none = omega (arith, more)
    go false more none = omega (arith, none)
