-- The first line of a text.
use Rattle.std.proofs.Common.{◌≡◌, ◌≢◌, ◌∙◌, ◌<◌, ◌≤◌, ◌+◌, ◌==◌, ◌&&◌, ◌||◌, not, ℕ, zero, suc, Bool, true, false, cond, List, [], ◌∷◌, ◌++◌, length, take, drop, get_or, refl, sym, ap, ap₂, subst, arith, add-one, take-append-drop, drop-drop, nat_eq, true≢false}
use Rattle.std.proofs.lemmas.Bool.{and_parts, eqb-true}
use Rattle.std.proofs.lemmas.List.{append_cancel_left}
use Rattle.std.specs.List.{starts_with}
use Rattle.memchr.specs.Find.{is_byte2, Passes, Nowhere}
use Rattle.cm_text.specs.LineText.{is_line}
use Rattle.cm_text.specs.Lines.{begins_with_line_feed, lines_of, Ends, Ending, LineFeed, CarriageReturnLineFeed, CarriageReturn, EndOfText}
use Rattle.cm_text.proofs.lemmas.LinesLemmas.{lines_are_computed, lines_are_determined}

first_is : (text line rest : List ℕ) (ending : Ending) → is_line line ≡ true → Ends ending line rest text → lines_of text ≡ line ∷ lines_of rest
first_is text line rest ending plain ends =
    lines_are_determined text (lines_of text) (line ∷ lines_of rest) (lines_are_computed text) (plain, (ending, (rest, (ends, lines_are_computed rest))))

-- a text up to the first byte that ends a line
plain_front : (bs : List ℕ) (i : ℕ) → i ≤ length bs → Nowhere (Passes (is_byte2 10 13) bs) 0 i → is_line (take i bs) ≡ true
plain_front bs zero within none = refl
plain_front [] (suc i) within none = refl
plain_front (b ∷ bs) (suc i) within none =
    both (is_byte2 10 13 b) _ (none 0 (omega arith) (omega arith)) (plain_front bs i (omega (arith, within)) (λ k low high. none (suc k) (omega arith) (omega arith)))
  where
    both : (ends plain : Bool) → ¬ (ends ≡ true) → plain ≡ true → not ends && plain ≡ true
    both true plain none is = absurd (none refl)
    both false plain none is = is

-- one that no byte ends
pub whole_line : (bs : List ℕ) → bs ≢ [] → Nowhere (Passes (is_byte2 10 13) bs) 0 (length bs) → lines_of bs ≡ bs ∷ []
whole_line bs some none =
    let all = take_whole bs in
    first_is bs bs [] EndOfText (ap is_line (sym all) ∙ plain_front bs (length bs) (omega arith) none) (refl, some, refl)
  where
    take_whole : (xs : List ℕ) → take (length xs) xs ≡ xs
    take_whole [] = refl
    take_whole (x ∷ xs) = ap (λ t. x ∷ t) (take_whole xs)

-- a carriage return and a line feed are at the start
abbrev pub is_pair : List ℕ → Bool
is_pair text = starts_with nat_eq text (13 ∷ 10 ∷ [])

pair_is : (text : List ℕ) → is_pair text ≡ true → text ≡ 13 ∷ 10 ∷ drop 2 text
pair_is [] pair = cc
pair_is (b ∷ []) pair = absurd (true≢false (sym (and_parts (13 == b) false pair).1))
pair_is (b ∷ d ∷ rest) pair =
    let parts = and_parts (13 == b) ((10 == d) && true) pair in
    ap₂ (λ x y. x ∷ y ∷ rest) (sym (eqb-true 13 b parts.0)) (sym (eqb-true 10 d (and_parts (10 == d) true parts.1).0))

no_feed : (rest : List ℕ) → is_pair (13 ∷ rest) ≡ false → begins_with_line_feed rest ≡ false
no_feed [] other = refl
no_feed (d ∷ rest) other = go (d == 10) refl
  where
    go : (feed : Bool) → (d == 10) ≡ feed → feed ≡ false
    go false is = refl
    go true is = absurd (true≢false (subst (λ x. is_pair (13 ∷ x ∷ rest) ≡ false) (eqb-true d 10 is) other))

-- a carriage return and a line feed end the line
pub ended_by_pair : (line rest : List ℕ) → is_line line ≡ true → is_pair rest ≡ true → lines_of (line ++ rest) ≡ line ∷ lines_of (drop 2 rest)
ended_by_pair line rest plain pair = first_is (line ++ rest) line (drop 2 rest) CarriageReturnLineFeed plain (ap (λ t. line ++ t) (pair_is rest pair))

-- one of them does
pub ended_by_one : (line : List ℕ) (b : ℕ) (rest : List ℕ) → is_line line ≡ true → is_byte2 10 13 b ≡ true → is_pair (b ∷ rest) ≡ false
    → lines_of (line ++ b ∷ rest) ≡ line ∷ lines_of rest
ended_by_one line b rest plain ends other = go (b == 10) (b == 13) refl refl ends
  where
    go : (feed return : Bool) → (b == 10) ≡ feed → (b == 13) ≡ return → (feed || return) ≡ true → lines_of (line ++ b ∷ rest) ≡ line ∷ lines_of rest
    go true return is also ends = first_is (line ++ b ∷ rest) line rest LineFeed plain (ap (λ x. line ++ x ∷ rest) (eqb-true b 10 is))
    go false true is also ends =
        first_is (line ++ b ∷ rest) line rest CarriageReturn plain
        (ap (λ x. line ++ x ∷ rest) (eqb-true b 13 also), no_feed rest (subst (λ x. is_pair (x ∷ rest) ≡ false) (eqb-true b 13 also) other))
    go false false is also ends = cc

-- a text by a byte of it
at_byte : (bs : List ℕ) (i : ℕ) → i < length bs → bs ≡ take i bs ++ get_or bs i 0 ∷ drop (i + 1) bs
at_byte bs i within = rw add-one (go bs i within)
  where
    go : (xs : List ℕ) (k : ℕ) → k < length xs → xs ≡ take k xs ++ get_or xs k 0 ∷ drop (suc k) xs
    go [] k within = absurd (omega (arith, within))
    go (x ∷ xs) zero within = refl
    go (x ∷ xs) (suc k) within = ap (λ t. x ∷ t) (go xs k (omega (arith, within)))

-- The first line of a text ends at this byte, or after it.
pub line_at : (bs : List ℕ) (i last : ℕ) (pair : Bool) → i < length bs → Passes (is_byte2 10 13) bs i → Nowhere (Passes (is_byte2 10 13) bs) 0 i
    → is_pair (drop i bs) ≡ pair → last ≡ cond pair (i + 1) i → lines_of bs ≡ take i bs ∷ lines_of (drop (last + 1) bs)
line_at bs i last true within ends none is last_is =
    let plain = plain_front bs i (omega (arith, within)) none in
    let after : drop 2 (drop i bs) ≡ drop (last + 1) bs = drop-drop 2 i bs ∙ ap (λ n. drop n bs) (omega (arith, last_is)) in
    ap lines_of (sym (take-append-drop i bs)) ∙ ended_by_pair (take i bs) (drop i bs) plain is ∙ ap (λ t. take i bs ∷ lines_of t) after
line_at bs i last false within ends none is last_is =
    let plain = plain_front bs i (omega (arith, within)) none in
    let whole = at_byte bs i within in
    let rest : drop i bs ≡ get_or bs i 0 ∷ drop (i + 1) bs = append_cancel_left (take i bs) (drop i bs) (get_or bs i 0 ∷ drop (i + 1) bs) (take-append-drop i bs ∙ whole) in
    ap lines_of whole ∙ ended_by_one (take i bs) (get_or bs i 0) (drop (i + 1) bs) plain ends (ap is_pair (sym rest) ∙ is)
    ∙ ap (λ n. take i bs ∷ lines_of (drop (n + 1) bs)) (sym last_is)
