-- Runs, gaps and ends of a text.
use Rattle.std.proofs.Common.{Bool, ◌≡◌, ℕ, suc, ◌+◌, ◌-◌, ◌<◌, ◌≤◌, true, false, List, [], ◌∷◌, ◌++◌, length, take, drop, get_or, refl, sym, ap, ◌∙◌, arith, add-one, drop-cons}
use Rattle.std.proofs.Math.Seq.{take-suc}
use Rattle.std.proofs.lemmas.List.{drop_all}
use Rattle.cm_scan.specs.steps.LineSteps.{is_trimmed}
use Rattle.cm_scan.specs.Words.{is_space_or_tab, skip, run_length, after_run, trim_start, keep_byte, trim_end_by}

-- a space or tab is ASCII
pub blank_ascii : (b : ℕ) → is_space_or_tab b ≡ true → b < 128
blank_ascii b blank = grind arith

module _ (m : ℕ) where
  run-same : (b : ℕ) (bs : List ℕ) → b ≡ m → run_length m (b ∷ bs) ≡ suc (run_length m bs)
  unfolding run_length
  run-same b bs same = grind arith

  run-other : (b : ℕ) (bs : List ℕ) → (b ≡ m → ⊥) → run_length m (b ∷ bs) ≡ 0
  unfolding run_length
  run-other b bs other = grind arith

  after-same : (b : ℕ) (bs : List ℕ) → b ≡ m → after_run m (b ∷ bs) ≡ after_run m bs
  unfolding after_run
  after-same b bs same = grind arith

  after-other : (b : ℕ) (bs : List ℕ) → (b ≡ m → ⊥) → after_run m (b ∷ bs) ≡ b ∷ bs
  unfolding after_run
  after-other b bs other = grind arith

  -- a run continues
  pub run_step : (bs : List ℕ) (i : ℕ) → i < length bs → get_or bs i 0 ≡ m → run_length m (drop i bs) ≡ suc (run_length m (drop (i + 1) bs))
  run_step bs i within same = rw (drop-cons bs i 0, add-one) (run-same (get_or bs i 0) (drop (suc i) bs) same)

  pub after_step : (bs : List ℕ) (i : ℕ) → i < length bs → get_or bs i 0 ≡ m → after_run m (drop i bs) ≡ after_run m (drop (i + 1) bs)
  after_step bs i within same = rw (drop-cons bs i 0, add-one) (after-same (get_or bs i 0) (drop (suc i) bs) same)

  -- a run ends at another byte
  pub run_stop : (bs : List ℕ) (i : ℕ) → i < length bs → (get_or bs i 0 ≡ m → ⊥) → run_length m (drop i bs) ≡ 0
  run_stop bs i within other = rw (drop-cons bs i 0) (run-other (get_or bs i 0) (drop (suc i) bs) other)

  pub after_stop : (bs : List ℕ) (i : ℕ) → i < length bs → (get_or bs i 0 ≡ m → ⊥) → after_run m (drop i bs) ≡ drop i bs
  after_stop bs i within other = rw (drop-cons bs i 0) (after-other (get_or bs i 0) (drop (suc i) bs) other)

  -- or with the text
  run-none : (bs : List ℕ) → bs ≡ [] → run_length m bs ≡ 0
  unfolding run_length
  run-none bs none = rw none refl

  after-none : (bs : List ℕ) → bs ≡ [] → after_run m bs ≡ bs
  unfolding after_run
  after-none bs none = rw none refl

  pub run_end : (bs : List ℕ) (i : ℕ) → length bs ≤ i → run_length m (drop i bs) ≡ 0
  run_end bs i past = run-none (drop i bs) (drop_all i bs past)

  pub after_end : (bs : List ℕ) (i : ℕ) → length bs ≤ i → after_run m (drop i bs) ≡ drop i bs
  after_end bs i past = after-none (drop i bs) (drop_all i bs past)

-- a text without its first byte, a space or tab
trim_start-cons : (b : ℕ) (bs : List ℕ) → is_space_or_tab b ≡ true → trim_start (b ∷ bs) ≡ trim_start bs
unfolding skip
trim_start-cons b bs blank = grind arith

-- a space or tab at the start goes
pub trim_start-step : (bs : List ℕ) (i : ℕ) → i < length bs → is_space_or_tab (get_or bs i 0) ≡ true → trim_start (drop i bs) ≡ trim_start (drop (i + 1) bs)
trim_start-step bs i within blank = rw (drop-cons bs i 0, add-one) (trim_start-cons (get_or bs i 0) (drop (suc i) bs) blank)

-- another byte at the start stays
trim_start-kept : (b : ℕ) (bs : List ℕ) → is_space_or_tab b ≡ false → trim_start (b ∷ bs) ≡ b ∷ bs
unfolding skip
trim_start-kept b bs other = grind arith

pub trim_start-stop : (bs : List ℕ) (i : ℕ) → i < length bs → is_space_or_tab (get_or bs i 0) ≡ false → trim_start (drop i bs) ≡ drop i bs
trim_start-stop bs i within other = rw (drop-cons bs i 0) (trim_start-kept (get_or bs i 0) (drop (suc i) bs) other)

trim_start-none : (bs : List ℕ) → bs ≡ [] → trim_start bs ≡ bs
unfolding skip
trim_start-none bs none = rw none refl

pub trim_start-end : (bs : List ℕ) (i : ℕ) → length bs ≤ i → trim_start (drop i bs) ≡ drop i bs
trim_start-end bs i past = trim_start-none (drop i bs) (drop_all i bs past)

-- a last byte that is trimmed goes
trim_end-last : (test : ℕ → Bool) (xs : List ℕ) (b : ℕ) → test b ≡ true → trim_end_by test (xs ++ b ∷ []) ≡ trim_end_by test xs
unfolding trim_end_by
trim_end-last test [] b passes = rw passes refl
trim_end-last test (x ∷ xs) b passes = ap (keep_byte test x) (trim_end-last test xs b passes)

-- before a last byte that stays, each byte stays
keep_byte-last : (test : ℕ → Bool) (x : ℕ) (xs : List ℕ) (b : ℕ) → keep_byte test x (xs ++ b ∷ []) ≡ x ∷ (xs ++ b ∷ [])
keep_byte-last test x [] b = refl
keep_byte-last test x (y ∷ ys) b = refl

-- another last byte stays
trim_end-kept : (test : ℕ → Bool) (xs : List ℕ) (b : ℕ) → test b ≡ false → trim_end_by test (xs ++ b ∷ []) ≡ xs ++ b ∷ []
unfolding trim_end_by
trim_end-kept test [] b fails = rw fails refl
trim_end-kept test (x ∷ xs) b fails = ap (keep_byte test x) (trim_end-kept test xs b fails) ∙ keep_byte-last test x xs b

-- a front of a text, with its last byte apart
front_last : (bs : List ℕ) (n : ℕ) → 0 < n → n ≤ length bs → take n bs ≡ take (n - 1) bs ++ get_or bs (n - 1) 0 ∷ []
front_last bs n some within =
    let last : n ≡ suc (n - 1) = omega arith in
    ap (λ k. take k bs) last ∙ take-suc bs (n - 1) 0 (omega arith)

-- a byte at the end that is trimmed goes
pub trim_end-step : (test : ℕ → Bool) (bs : List ℕ) (n : ℕ) → 0 < n → n ≤ length bs → test (get_or bs (n - 1) 0) ≡ true
    → trim_end_by test (take n bs) ≡ trim_end_by test (take (n - 1) bs)
trim_end-step test bs n some within passes =
    ap (trim_end_by test) (front_last bs n some within) ∙ trim_end-last test (take (n - 1) bs) (get_or bs (n - 1) 0) passes

-- another byte at the end stays
pub trim_end-stop : (test : ℕ → Bool) (bs : List ℕ) (n : ℕ) → 0 < n → n ≤ length bs → test (get_or bs (n - 1) 0) ≡ false
    → trim_end_by test (take n bs) ≡ take n bs
trim_end-stop test bs n some within fails =
    ap (trim_end_by test) (front_last bs n some within) ∙ trim_end-kept test (take (n - 1) bs) (get_or bs (n - 1) 0) fails ∙ sym (front_last bs n some within)

-- a byte that is trimmed is ASCII
pub trimmed_ascii : (tabs : Bool) (b : ℕ) → is_trimmed tabs b ≡ true → b < 128
trimmed_ascii true b h = blank_ascii b h
trimmed_ascii false b h = grind (arith, h)

-- of no bytes nothing is left
pub trim_end-none : (test : ℕ → Bool) (bs : List ℕ) (n : ℕ) → n ≤ 0 → trim_end_by test (take n bs) ≡ take n bs
unfolding trim_end_by
trim_end-none test bs n none =
    let nothing : n ≡ 0 = omega arith in
    rw nothing refl
