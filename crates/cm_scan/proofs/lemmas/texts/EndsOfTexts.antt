-- What is left of a text after something at its start is an end of the text.
use Rattle.std.proofs.Common.{◌≡◌, ℕ, zero, suc, Bool, true, false, ◌==◌, List, [], ◌∷◌, ◌++◌, Some, cond, drop, refl, sym, ap, ◌∙◌, append_assoc}
use Rattle.cm_scan.specs.Words.{is_space_or_tab, skip, after_word, after_run}
use Rattle.cm_scan.specs.spans.Tags.{after_line_ending, after_gap}
use Rattle.cm_scan.proofs.lemmas.spans.RawHtmlGoesOn.{word-front}

pub record IsEnd (left text : List ℕ) : Type 0 where
  pub front : List ℕ
  pub is : text ≡ front ++ left

pub whole-end : (text : List ℕ) → IsEnd text text
whole-end text = record { front = []; is = refl }

pub same-left : {text : List ℕ} (a b : List ℕ) → a ≡ b → IsEnd a text → IsEnd b text
same-left a b e h = record { front = h.front; is = h.is ∙ ap (λ t. h.front ++ t) e }

pub beyond-byte : {left : List ℕ} (b : ℕ) (bs : List ℕ) → IsEnd left bs → IsEnd left (b ∷ bs)
beyond-byte b bs h = record { front = b ∷ h.front; is = ap (λ t. b ∷ t) h.is }

-- an end of what is left
pub end-of-end : {left middle text : List ℕ} → IsEnd middle text → IsEnd left middle → IsEnd left text
end-of-end {left} g h = record { front = g.front ++ h.front; is = g.is ∙ ap (λ t. g.front ++ t) h.is ∙ sym (append_assoc g.front h.front left) }

-- without its first byte too
pub end-beyond-one : (c b : ℕ) (left bs : List ℕ) → IsEnd (c ∷ left) (b ∷ bs) → IsEnd left bs
end-beyond-one c b left bs h = go h.front h.is
  where
    but_first : List ℕ → List ℕ
    but_first t = elim t as (λ _. List ℕ) [ [] ↦ [] | x ∷ xs ↦ xs ]

    go : (front : List ℕ) → b ∷ bs ≡ front ++ c ∷ left → IsEnd left bs
    go [] e = record { front = []; is = ap but_first e }
    go (x ∷ xs) e = record { front = xs ++ c ∷ []; is = ap but_first e ∙ sym (append_assoc xs (c ∷ []) left) }

pub drop-end : (n : ℕ) (text : List ℕ) → IsEnd (drop n text) text
drop-end zero text = whole-end text
drop-end (suc n) [] = whole-end []
drop-end (suc n) (b ∷ bs) = beyond-byte b bs (drop-end n bs)

pub word-end : (word text rest : List ℕ) → after_word word text ≡ Some rest → IsEnd rest text
word-end word text rest e = record { front = word; is = word-front word text rest e }

pub skip-end : (test : ℕ → Bool) (text : List ℕ) → IsEnd (skip test text) text
unfolding skip
skip-end test [] = whole-end []
skip-end test (b ∷ bs) = go (test b) (skip-end test bs)
  where
    go : (c : Bool) → IsEnd (skip test bs) bs → IsEnd (elim c as (λ _. List ℕ) [ true ↦ skip test bs | false ↦ b ∷ bs ]) (b ∷ bs)
    go true h = beyond-byte b bs h
    go false h = whole-end (b ∷ bs)

pub run-end : (marker : ℕ) (text : List ℕ) → IsEnd (after_run marker text) text
unfolding after_run
run-end marker [] = whole-end []
run-end marker (b ∷ bs) = go (b == marker) (run-end marker bs)
  where
    go : (c : Bool) → IsEnd (after_run marker bs) bs → IsEnd (elim c as (λ _. List ℕ) [ true ↦ after_run marker bs | false ↦ b ∷ bs ]) (b ∷ bs)
    go true h = beyond-byte b bs h
    go false h = whole-end (b ∷ bs)

line-end : (text : List ℕ) → IsEnd (after_line_ending text) text
line-end [] = whole-end []
line-end (b ∷ bs) = go (b == 10)
  where
    go : (c : Bool) → IsEnd (cond c (skip is_space_or_tab bs) (b ∷ bs)) (b ∷ bs)
    go true = beyond-byte b bs (skip-end is_space_or_tab bs)
    go false = whole-end (b ∷ bs)

pub gap-end : (text : List ℕ) → IsEnd (after_gap text) text
unfolding after_gap
gap-end text = end-of-end (skip-end is_space_or_tab text) (line-end (skip is_space_or_tab text))
