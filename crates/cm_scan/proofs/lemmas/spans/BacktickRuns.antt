-- The bytes of a backtick string, and that a search finds it.
use Rattle.std.proofs.Common.{◌≡◌, ℕ, zero, suc, ◌+◌, ◌-◌, ◌<◌, ◌≤◌, ◌==◌, Bool, true, false, List, [], ◌∷◌, length, drop, get_or, None, inl, inr, refl, sym, ap, ◌∙◌, arith, eq-eqb, drop-drop, length-drop, get_or-drop}
use Rattle.std.proofs.lemmas.Bool.{eqb-true, true≢false, cases_lt}
use Rattle.std.proofs.lemmas.List.Sums.{prefix_len-le-length}
use Rattle.std.specs.Prelude.{cond}
use Rattle.std.specs.List.{prefix_len}
use Rattle.memchr.specs.Find.{is_byte}
use Rattle.cm_scan.specs.Words.{run_length, after_run}
use Rattle.cm_scan.specs.spans.CodeSpans.{up_to_run}
use Rattle.cm_scan.proofs.lemmas.texts.WordLemmas.{run_step}
use Rattle.cm_scan.proofs.lemmas.texts.WordsGoOn.{none-some}
use Rattle.cm_scan.proofs.lemmas.spans.BacktickStrings.{Found, not-same, this-run, one-further}

in-run : (bs : List ℕ) (j : ℕ) → j < run_length 96 bs → get_or bs j 0 ≡ 96
unfolding run_length
in-run [] j below = absurd (omega (arith, below))
in-run (b ∷ bs) j below = go (b == 96) refl (in-run bs) j below
  where
    go : (c : Bool) → (b == 96) ≡ c → ((k : ℕ) → k < run_length 96 bs → get_or bs k 0 ≡ 96) → (j : ℕ) → j < (elim c as (λ _. ℕ) [ true ↦ suc (run_length 96 bs) | false ↦ 0 ]) → get_or (b ∷ bs) j 0 ≡ 96
    go true h more zero below = eqb-true b 96 h
    go true h more (suc j) below = more j (omega (arith, below))
    go false h more j below = absurd (omega (arith, below))

past-run : (bs : List ℕ) → get_or bs (run_length 96 bs) 0 ≡ 96 → ⊥
unfolding run_length
past-run [] e = absurd (omega (arith, e))
past-run (b ∷ bs) e = go (b == 96) refl (past-run bs) e
  where
    go : (c : Bool) → (b == 96) ≡ c → (get_or bs (run_length 96 bs) 0 ≡ 96 → ⊥) → get_or (b ∷ bs) (elim c as (λ _. ℕ) [ true ↦ suc (run_length 96 bs) | false ↦ 0 ]) 0 ≡ 96 → ⊥
    go true h more e = more e
    go false h more e = true≢false (sym (eq-eqb b 96 e) ∙ h)

module _ (text : List ℕ) (start end : ℕ) (run : end ≡ start + run_length 96 (drop start text)) where
  -- its last byte
  pub run-last : start < end → get_or text (end - 1) 0 ≡ 96
  run-last some =
      let last : start + (run_length 96 (drop start text) - 1) ≡ end - 1 = omega (arith, run, some) in
      ap (λ n. get_or text n 0) (sym last) ∙ sym (get_or-drop start text (run_length 96 (drop start text) - 1) 0) ∙ in-run (drop start text) (run_length 96 (drop start text) - 1) (omega (arith, run, some))

  -- each of its bytes
  pub run-inside : (at : ℕ) → start ≤ at → at < end → get_or text at 0 ≡ 96
  run-inside at low high =
      let place : start + (at - start) ≡ at = omega (arith, low) in
      ap (λ n. get_or text n 0) (sym place) ∙ sym (get_or-drop start text (at - start) 0) ∙ in-run (drop start text) (at - start) (omega (arith, run, low, high))

  -- the byte after it
  pub run-over : get_or text end 0 ≡ 96 → ⊥
  run-over e = past-run (drop start text) (get_or-drop start text (run_length 96 (drop start text)) 0 ∙ ap (λ n. get_or text n 0) (sym run) ∙ e)

-- where a backtick was found, the string has a byte
pub run-some : (text : List ℕ) (at plain : ℕ) → Found text at plain → (end : ℕ) → end ≡ at + plain + run_length 96 (drop (at + plain) text) → at + plain < end
run-some text at plain found end run = let more = run_step 96 text (at + plain) found.inside found.tick in omega (arith, run, more)

-- a search finds a backtick string of this length, unless it starts within one
run-there : (n : ℕ) (in_run : Bool) (bs : List ℕ) (k : ℕ) → (k ≡ 0 → in_run ≡ false) → ((j : ℕ) → k ≡ suc j → get_or bs j 0 ≡ 96 → ⊥) → k < length bs → get_or bs k 0 ≡ 96
    → run_length 96 (drop k bs) ≡ n → up_to_run n in_run bs ≡ None → ⊥
run-there n in_run [] k first before within tick size none = absurd (omega (arith, within))
run-there n in_run (b ∷ bs) zero first before within tick size none = none-some (sym none ∙ ap (λ c. up_to_run n c (b ∷ bs)) (first refl) ∙ this-run n b bs tick size)
run-there n in_run (b ∷ bs) (suc k) first before within tick size none =
    run-there n (b == 96) bs k (λ e. not-same b 96 (λ same. before 0 (ap suc e) same)) (λ j e same. before (suc j) (ap suc e) same) (omega (arith, within)) tick size
    (one-further n in_run b bs none)

-- from each place before its end that has no backtick
pub run-follows : (n : ℕ) (text : List ℕ) (at plain end : ℕ) → Found text at plain → (0 < at → get_or text at 0 ≡ 96 → ⊥) → end ≡ at + plain + run_length 96 (drop (at + plain) text) → end - (at + plain) ≡ n
    → (from : ℕ) → from < end → (get_or text from 0 ≡ 96 → ⊥) → up_to_run n false (drop from text) ≡ None → ⊥
run-follows n text at plain end found ended run size from below other none = elim (cases_lt from (at + plain)) [
  | inl low ↦
      let start = at + plain in
      let place : from + (start - from) ≡ start = omega (arith, low) in
      run-there n false (drop from text) (start - from) (λ _. refl) (λ j e same. first low j e (sym (get_or-drop from text j 0) ∙ same)) (omega (arith, low, found.inside, length-drop from text))
      (get_or-drop from text (start - from) 0 ∙ ap (λ k. get_or text k 0) place ∙ found.tick)
      (ap (run_length 96) (drop-drop (start - from) from text ∙ ap (λ k. drop k text) place) ∙ omega (arith, run, size)) none
  | inr high ↦ other (run-inside text (at + plain) end run from high below)
]
  where
    first : from < at + plain → (j : ℕ) → at + plain - from ≡ suc j → get_or text (from + j) 0 ≡ 96 → ⊥
    first low j e same = go plain found.none found.tick
      where
        last : from + j ≡ at + plain - 1
        last = omega (arith, low, e)

        go : (p : ℕ) → ((k : ℕ) → k < plain → get_or (drop at text) k 0 ≡ 96 → ⊥) → get_or text (at + plain) 0 ≡ 96 → ⊥
        go p before tick = elim (cases_lt 0 plain) [
          | inl some ↦
              let one : at + (plain - 1) ≡ from + j = omega (arith, some, last) in
              before (plain - 1) (omega (arith, some)) (get_or-drop at text (plain - 1) 0 ∙ ap (λ k. get_or text k 0) one ∙ same)
          | inr zero-plain ↦
              let same-place : at + plain ≡ at = omega (arith, zero-plain) in
              ended (omega (arith, low, same-place)) (ap (λ k. get_or text k 0) (sym same-place) ∙ tick)
        ]

-- the same run, by what a skip leaves
pub run-skipped : (bs : List ℕ) → (prefix_len (is_byte 96) bs ≡ run_length 96 bs) × (drop (prefix_len (is_byte 96) bs) bs ≡ after_run 96 bs)
unfolding run_length after_run
run-skipped [] = (refl, refl)
run-skipped (b ∷ bs) = go (b == 96) (run-skipped bs)
  where
    go : (c : Bool) → (prefix_len (is_byte 96) bs ≡ run_length 96 bs) × (drop (prefix_len (is_byte 96) bs) bs ≡ after_run 96 bs)
        → (cond c (1 + prefix_len (is_byte 96) bs) 0 ≡ elim c as (λ _. ℕ) [ true ↦ suc (run_length 96 bs) | false ↦ 0 ])
        × (drop (cond c (1 + prefix_len (is_byte 96) bs) 0) (b ∷ bs) ≡ elim c as (λ _. List ℕ) [ true ↦ after_run 96 bs | false ↦ b ∷ bs ])
    go true more =
        let one : 1 + prefix_len (is_byte 96) bs ≡ suc (prefix_len (is_byte 96) bs) = omega arith in
        (one ∙ ap (λ n. suc n) more.0, ap (λ k. drop k (b ∷ bs)) one ∙ more.1)
    go false more = (refl, refl)

-- where it ends, by how much is left
pub run-left : (text bs rest : List ℕ) (at : ℕ) → at ≤ length text → bs ≡ drop at text → rest ≡ drop (prefix_len (is_byte 96) bs) bs
    → (length text - length rest ≡ at + run_length 96 (drop at text)) × (drop (length text - length rest) text ≡ after_run 96 (drop at text)) × (length rest ≤ length text)
run-left text bs rest at within is left =
    let skipped = run-skipped (drop at text) in
    let same : rest ≡ drop (prefix_len (is_byte 96) (drop at text)) (drop at text) = left ∙ ap (λ t. drop (prefix_len (is_byte 96) t) t) is in
    let size = length-drop (prefix_len (is_byte 96) (drop at text)) (drop at text) in
    let few = prefix_len-le-length (is_byte 96) (drop at text) in
    let end : length text - length rest ≡ at + run_length 96 (drop at text) = omega (arith, within, ap length same, size, few, skipped.0, length-drop at text) in (
      end,
      ap (λ k. drop k text) end ∙ sym (drop-drop (run_length 96 (drop at text)) at text) ∙ ap (λ k. drop k (drop at text)) (sym skipped.0) ∙ skipped.1,
      omega (arith, within, ap length same, size, length-drop at text),
    )
