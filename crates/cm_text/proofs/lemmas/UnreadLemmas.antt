-- What is unread of a text, and its first line.
use Rattle.std.proofs.Common.{◌≡◌, ◌⊎◌, ◌∙◌, ℕ, ◌+◌, ◌-◌, ◌<◌, ◌≤◌, Bool, true, false, ◌==◌, List, [], ◌∷◌, ◌++◌, length, take, drop, get_or, IsUtf8, IsCharBoundary, refl, sym, ap, subst, arith, inl, inr, length-drop, length-append, drop-drop, take-add}
use Rattle.std.specs.List.{position_or_len}
use Rattle.std.proofs.lemmas.Bool.{cases_lt}
use Rattle.std.proofs.lemmas.Bool.Decides.{nat_tests}
use Rattle.std.proofs.lemmas.List.{get_or-drop}
use Rattle.std.proofs.lemmas.List.Sums.{fails_before_first, passes_at_first}
use Rattle.std.proofs.lemmas.Str.{IsCharBoundary-at_seam}
use Rattle.std.proofs.Math.ListN.{get_or-append}
use Rattle.cm_text.specs.LineText.{is_line, is_line_ending}
use Rattle.cm_text.specs.Search.{next_place}
use Rattle.cm_text.specs.steps.FirstLine.{IsFirstLine}
use Rattle.cm_text.specs.Cut.{Cut, cut_more, begun, without}
use Rattle.cm_text.specs.Lines.{LineView, plain_line}
use Rattle.cm_text.proofs.lemmas.CutLemmas.{is_line-append, line_up_to, beyond, first_ends}

-- the search for the end of a line of which a front is known
pub first_line_is : (text : List ℕ) (known n : ℕ) → known ≤ length text → is_line (take known text) ≡ true → n ≡ next_place is_line_ending text known → IsFirstLine n text
first_line_is text known n within plain place =
    let rest = drop known text in
    let size = length-drop known text in
    let more : known + (n - known) ≡ n = omega (arith, place, within) in
    record {
      within = omega (arith, place);
      plain = ap (λ k. is_line (take k text)) (sym more) ∙ ap is_line (take-add known (n - known) text)
          ∙ is_line-append (take known text) (take (n - known) rest) plain
          (line_up_to rest (n - known) (omega (arith, place, size)) (λ k below. fails_before_first is_line_ending rest k 0 (omega (arith, place, below))));
      ends = λ below.
          let same : known + position_or_len is_line_ending rest ≡ n = omega (arith, place, below) in
          ap (λ k. is_line_ending (get_or text k 0)) (sym same) ∙ sym (ap is_line_ending (get_or-drop known text (position_or_len is_line_ending rest) 0))
          ∙ passes_at_first is_line_ending rest 0 (omega (arith, place, below, size));
    }

-- a carriage return doesn't wait for a line feed where a line has ended
not_waiting : (after_return : Bool) (text : List ℕ) (at n : ℕ) → (after_return ≡ true → at ≡ length text) → n < length (drop at text) → after_return ≡ false
not_waiting true text at n waits within = absurd (omega (arith, within, waits refl, length-drop at text))
not_waiting false text at n waits within = refl

first_cut : (after_return : Bool) (text : List ℕ) (at n : ℕ) → (after_return ≡ true → at ≡ length text) → IsFirstLine n (drop at text) → n < length (drop at text)
    → cut_more (begun after_return) (drop at text)
    ≡ beyond (plain_line (take n (drop at text)) ∷ []) (cut_more (begun (get_or (drop at text) n 0 == 13)) (drop (n + 1) (drop at text)))
first_cut after_return text at n waits first within =
    ap (λ r. cut_more (begun r) (drop at text)) (not_waiting after_return text at n waits within) ∙ first_ends n (drop at text) first within

-- the first line, lent
pub lent : (after_return : Bool) (text line : List ℕ) (at n : ℕ) → (after_return ≡ true → at ≡ length text) → IsFirstLine n (drop at text) → n < length (drop at text)
    → line ≡ take n (drop at text)
    → (cut_more (begun after_return) (drop at text)).ended ≡ plain_line line ∷ drop 1 (cut_more (begun after_return) (drop at text)).ended
lent after_return text line at n waits first within is =
    let P : List LineView → Type 0 = λ t. t ≡ plain_line line ∷ drop 1 t in
    let rest = drop at text in
    subst P (sym (ap (λ (c : Cut). c.ended) (first_cut after_return text at n waits first within)))
    (ap (λ t. plain_line t ∷ (cut_more (begun (get_or rest n 0 == 13)) (drop (n + 1) rest)).ended) (sym is))

-- and passed
pub passed_by : (after_return : Bool) (text : List ℕ) (at n : ℕ) → (after_return ≡ true → at ≡ length text) → IsFirstLine n (drop at text) → n < length (drop at text)
    → cut_more (begun (get_or (drop at text) n 0 == 13)) (drop (at + n + 1) text) ≡ without 1 (cut_more (begun after_return) (drop at text))
passed_by after_return text at n waits first within =
    let after_it : drop (n + 1) (drop at text) ≡ drop (at + n + 1) text = drop-drop (n + 1) at text ∙ ap (λ k. drop k text) (omega arith) in
    ap (cut_more (begun (get_or (drop at text) n 0 == 13))) (sym after_it) ∙ ap (without 1) (sym (first_cut after_return text at n waits first within))

-- none to be passed
pub none_passed : (cut : Cut) → cut.ended ≡ [] → cut ≡ without 1 cut
none_passed cut none = ap (λ t. record cut { ended = t }) (none ∙ sym (ap (drop 1) none))

pub ending_is_ascii : (b : ℕ) → is_line_ending b ≡ true → b < 128
ending_is_ascii b ends = grind (arith, nat_tests)

-- where more comes after
pub boundary_on : (xs ys : List ℕ) (i : ℕ) → IsUtf8 ys → IsCharBoundary xs i → IsCharBoundary (xs ++ ys) i
boundary_on xs ys i u at = go (cases_lt i (length xs))
  where
    go : (i < length xs) ⊎ (length xs ≤ i) → IsCharBoundary (xs ++ ys) i
    go (inl below) =
        let same = get_or-append xs ys 0 i below in
        (omega (arith, below, length-append xs ys), λ within high. omega (arith, same, at.1 below (omega (arith, same, high))))
    go (inr past) =
        let end : length xs ≡ i = omega (arith, past, at.0) in
        subst (IsCharBoundary (xs ++ ys)) end (IsCharBoundary-at_seam (xs ++ ys) xs ys refl u)
