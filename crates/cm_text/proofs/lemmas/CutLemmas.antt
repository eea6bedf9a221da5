-- The cut of a text into lines, line by line.
use Rattle.std.proofs.Common.{◌≡◌, ℕ, zero, suc, add-one, take_all, ◌+◌, ◌-◌, ◌<◌, ◌≤◌, Bool, true, false, cond, not, ◌&&◌, ◌||◌, ◌==◌, List, [], ◌∷◌, ◌++◌, length, take, drop, get_or, refl, sym, ap, ◌∙◌, arith, append_assoc, append-nil, drop-cons, take-append-drop}
use Rattle.std.specs.Prelude.{Result, Ok, Err, OnErr}
use Rattle.std.proofs.lemmas.Grind.{flat_map-append}
use Rattle.std.proofs.lemmas.Bool.{and_parts, eqb-true}
use Rattle.cm_text.specs.LineText.{is_line, is_line_ending}
use Rattle.cm_text.specs.Lines.{LineView, text_of, text_of_byte, plain_line}
use Rattle.cm_text.specs.Cut.{Cut, begun, cut_byte, cut_more, end_line, IsFront}
use Rattle.cm_text.specs.steps.FirstLine.{IsFirstLine}

-- the cut with more text on its last line
abbrev pub went_on : Cut → List ℕ → Cut
went_on cut text = record cut { partial = cut.partial ++ text; after_return = false }

-- a byte that ends no line
line_step : (cut : Cut) (b : ℕ) → not (is_line_ending b) ≡ true → cut_byte cut b ≡ went_on cut (b ∷ [])
line_step cut b plain = by_tests (b == 10) (b == 13) plain
  where
    by_tests : (feed return : Bool) → not (feed || return) ≡ true
        → cond feed (cond cut.after_return (record cut { after_return = false }) (end_line cut false)) (cond return (end_line cut true) (went_on cut (b ∷ [])))
        ≡ went_on cut (b ∷ [])
    by_tests false false h = refl
    by_tests true return h = cc
    by_tests false true h = cc

-- no line ends in a line
pub line_keeps : (cut : Cut) (line : List ℕ) → is_line line ≡ true → (cut_more cut line).ended ≡ cut.ended
line_keeps cut [] plain = refl
line_keeps cut (b ∷ bs) plain =
    let parts = and_parts _ _ plain in
    ap (λ d. (cut_more d bs).ended) (line_step cut b parts.0) ∙ line_keeps (went_on cut (b ∷ [])) bs parts.1

-- and its text goes to the end of the last
line_put : (cut : Cut) (line : List ℕ) → cut.after_return ≡ false → is_line line ≡ true → cut_more cut line ≡ went_on cut line
line_put cut [] last plain = ap (λ t. record cut { partial = t }) (sym (append-nil cut.partial)) ∙ ap (λ r. record cut { partial = cut.partial ++ []; after_return = r }) last
line_put cut (b ∷ bs) last plain =
    let parts = and_parts _ _ plain in
    ap (λ d. cut_more d bs) (line_step cut b parts.0) ∙ line_put (went_on cut (b ∷ [])) bs refl parts.1
    ∙ ap (λ t. record cut { partial = t; after_return = false }) (append_assoc cut.partial (b ∷ []) bs)

-- text after text
pub cut_more-append : (cut : Cut) (xs ys : List ℕ) → cut_more cut (xs ++ ys) ≡ cut_more (cut_more cut xs) ys
cut_more-append cut [] ys = refl
cut_more-append cut (x ∷ xs) ys = cut_more-append (cut_byte cut x) xs ys

pub text_of-append : (xs ys : List ℕ) → text_of (xs ++ ys) ≡ text_of xs ++ text_of ys
text_of-append xs ys = flat_map-append text_of_byte xs ys

pub cut_text-append : (cut : Cut) (xs ys : List ℕ) → cut_more cut (text_of (xs ++ ys)) ≡ cut_more (cut_more cut (text_of xs)) (text_of ys)
cut_text-append cut xs ys = ap (cut_more cut) (text_of-append xs ys) ∙ cut_more-append cut (text_of xs) (text_of ys)

-- the cut after lines that have ended before
abbrev pub beyond : List LineView → Cut → Cut
beyond front cut = record cut { ended = front ++ cut.ended }

beyond_step : (front : List LineView) (cut : Cut) (b : ℕ) → cut_byte (beyond front cut) b ≡ beyond front (cut_byte cut b)
beyond_step front cut b = by_tests (b == 10) (b == 13) cut.after_return
  where
    ends : (after_return : Bool) → end_line (beyond front cut) after_return ≡ beyond front (end_line cut after_return)
    ends after_return = ap (λ t. record { ended = t; partial = []; after_return = after_return }) (append_assoc front cut.ended (plain_line cut.partial ∷ []))

    by_tests : (feed return after_return : Bool)
        → cond feed (cond after_return (record (beyond front cut) { after_return = false }) (end_line (beyond front cut) false)) (cond return (end_line (beyond front cut) true) (went_on (beyond front cut) (b ∷ [])))
        ≡ beyond front (cond feed (cond after_return (record cut { after_return = false }) (end_line cut false)) (cond return (end_line cut true) (went_on cut (b ∷ []))))
    by_tests true return true = refl
    by_tests true return false = ends false
    by_tests false true after_return = ends true
    by_tests false false after_return = refl

pub cut_after : (front : List LineView) (cut : Cut) (bs : List ℕ) → cut_more (beyond front cut) bs ≡ beyond front (cut_more cut bs)
cut_after front cut [] = refl
cut_after front cut (b ∷ bs) = ap (λ d. cut_more d bs) (beyond_step front cut b) ∙ cut_after front (cut_byte cut b) bs

-- lines that have ended stay
pub ended_stays : (cut : Cut) (bs : List ℕ) → IsFront cut.ended (cut_more cut bs).ended
ended_stays cut bs =
    let bare : Cut = record cut { ended = [] } in
    let P : List LineView → Cut = λ t. cut_more (record cut { ended = t }) bs in
    ((cut_more bare bs).ended, ap (λ (d : Cut). d.ended) (ap P (sym (append-nil cut.ended)) ∙ cut_after cut.ended bare bs))

-- ---- the first line

ends_step : (line : List ℕ) (b : ℕ) → is_line_ending b ≡ true
    → cut_byte (record { ended = []; partial = line; after_return = false }) b ≡ beyond (plain_line line ∷ []) (begun (b == 13))
ends_step line b ends = by_tests (b == 10) (b == 13) refl refl ends
  where
    by_tests : (feed return : Bool) → (b == 10) ≡ feed → (b == 13) ≡ return → (feed || return) ≡ true
        → cond feed (beyond (plain_line line ∷ []) (begun false)) (cond return (beyond (plain_line line ∷ []) (begun true)) (record { ended = []; partial = line ++ b ∷ []; after_return = false }))
        ≡ beyond (plain_line line ∷ []) (begun return)
    by_tests true true is also h = absurd (omega (arith, eqb-true b 10 is, eqb-true b 13 also))
    by_tests true false is also h = refl
    by_tests false true is also h = refl
    by_tests false false is also h = cc

-- the line, what ends it, and the rest
pub line_ends : (line : List ℕ) (b : ℕ) (rest : List ℕ) → is_line line ≡ true → is_line_ending b ≡ true
    → cut_more (begun false) (line ++ b ∷ rest) ≡ beyond (plain_line line ∷ []) (cut_more (begun (b == 13)) rest)
line_ends line b rest plain ends =
    cut_more-append (begun false) line (b ∷ rest) ∙ ap (λ d. cut_more d (b ∷ rest)) (line_put (begun false) line refl plain)
    ∙ ap (λ d. cut_more d rest) (ends_step line b ends) ∙ cut_after (plain_line line ∷ []) (begun (b == 13)) rest

-- a text by a byte of it
pub at_byte : (text : List ℕ) (at : ℕ) → at < length text → text ≡ take at text ++ get_or text at 0 ∷ drop (at + 1) text
at_byte text at within =
    sym (take-append-drop at text) ∙ ap (λ t. take at text ++ t) (drop-cons text at 0 within) ∙ ap (λ n. take at text ++ get_or text at 0 ∷ drop n text) (sym (add-one at))

pub first_ends : (n : ℕ) (text : List ℕ) → IsFirstLine n text → n < length text
    → cut_more (begun false) text ≡ beyond (plain_line (take n text) ∷ []) (cut_more (begun (get_or text n 0 == 13)) (drop (n + 1) text))
first_ends n text first within =
    ap (cut_more (begun false)) (at_byte text n within) ∙ line_ends (take n text) (get_or text n 0) (drop (n + 1) text) first.plain (first.ends within)

-- none, where all of the text is a line
pub none_ends : (after_return : Bool) (n : ℕ) (text : List ℕ) → IsFirstLine n text → n ≡ length text → (cut_more (begun after_return) text).ended ≡ []
none_ends after_return n text first all = line_keeps (begun after_return) text (ap is_line (sym (take_all n text (omega (arith, all)))) ∙ first.plain)

-- ---- lines by their bytes

-- what holds whatever the result is holds of an error
pub on_err : {T E P : Type 0} (r : Result T E) → P → OnErr r P
on_err (Ok x) p = tt
on_err (Err e) p = p

pub slice_from_start : (text : List ℕ) (n : ℕ) → take (n - 0) (drop 0 text) ≡ take n text
slice_from_start text n = grind arith

and_intro : (a b : Bool) → a ≡ true → b ≡ true → a && b ≡ true
and_intro true b h k = k
and_intro false b h k = h

pub is_line-append : (xs ys : List ℕ) → is_line xs ≡ true → is_line ys ≡ true → is_line (xs ++ ys) ≡ true
is_line-append [] ys h k = k
is_line-append (x ∷ xs) ys h k =
    let parts = and_parts (not (is_line_ending x)) (is_line xs) h in
    and_intro _ _ parts.0 (is_line-append xs ys parts.1 k)

-- a text of whose first bytes none ends a line
pub line_up_to : (text : List ℕ) (n : ℕ) → n ≤ length text → ((k : ℕ) → k < n → is_line_ending (get_or text k 0) ≡ false) → is_line (take n text) ≡ true
line_up_to text zero within none = refl
line_up_to [] (suc n) within none = refl
line_up_to (b ∷ bs) (suc n) within none =
    and_intro _ _ (ap not (none 0 (omega arith))) (line_up_to bs n (omega arith) (λ k below. none (suc k) (omega arith)))
