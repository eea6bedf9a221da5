-- Titles and destinations, by what is between the bytes that enclose them.
use Rattle.std.proofs.Common.{◌≡◌, ℕ, suc, ◌-◌, ◌<◌, ◌≤◌, ◌==◌, ◌||◌, nat_le, Bool, true, false, List, [], ◌∷◌, length, drop, get_or, Option, Some, None, IfSome, refl, sym, ap, ◌∙◌, arith, drop-cons}
use Rattle.std.proofs.lemmas.List.{drop_all, length-drop}
use Rattle.std.proofs.lemmas.List.Sums.{count_by-le-length}
use Rattle.std.proofs.lemmas.Bool.Decides.{nat_tests}
use Rattle.cm_scan.specs.Words.{begins_with}
use Rattle.cm_scan.specs.inlines.Links.{Reading, beyond, keep_if, escapes_next, up_to_closing, characters, has_no_blank_line, bare_run, is_filled, destination, title_in, title}
use Rattle.cm_scan.specs.steps.LinkSteps.{fits, is_barred, title_end, begins_character}
use Rattle.cm_scan.proofs.lemmas.texts.ScannerAnswers.{begins-at}

-- what is forbidden matters of bytes alone that don't close
closed-same : (closes f g : ℕ → Bool) → ((b : ℕ) → closes b ≡ false → f b ≡ g b) → (escaped : Bool) (text : List ℕ) → up_to_closing closes f escaped text ≡ up_to_closing closes g escaped text
unfolding up_to_closing
closed-same closes f g same true [] = refl
closed-same closes f g same false [] = refl
closed-same closes f g same true (b ∷ bs) = ap (beyond b) (closed-same closes f g same false bs)
closed-same closes f g same false (b ∷ bs) = by_test (closes b) refl (closed-same closes f g same (escapes_next b bs) bs)
  where
    rest : (ℕ → Bool) → Option Reading
    rest h = up_to_closing closes h (escapes_next b bs) bs

    by_test : (closing : Bool) → closes b ≡ closing → rest f ≡ rest g
        → (elim closing as (λ _. Option Reading) [ true ↦ Some (record { text = []; rest = bs }) | false ↦ elim (f b) [ true ↦ None | false ↦ beyond b (rest f) ] ])
        ≡ (elim closing as (λ _. Option Reading) [ true ↦ Some (record { text = []; rest = bs }) | false ↦ elim (g b) [ true ↦ None | false ↦ beyond b (rest g) ] ])
    by_test true h k = refl
    by_test false h k =
        ap (λ v. elim v as (λ _. Option Reading) [ true ↦ None | false ↦ beyond b (rest f) ]) (same b h)
        ∙ ap (λ o. elim (g b) as (λ _. Option Reading) [ true ↦ None | false ↦ beyond b o ]) k

-- a part is no longer than the text
longer : (b n : ℕ) (o : Option Reading) → IfSome o (λ r. length r.text ≤ n) → IfSome (beyond b o) (λ r. length r.text ≤ suc n)
longer b n None h = tt
longer b n (Some r) h = omega (arith, h)

closed-short : (closes forbidden : ℕ → Bool) (escaped : Bool) (text : List ℕ) → IfSome (up_to_closing closes forbidden escaped text) (λ r. length r.text ≤ length text)
unfolding up_to_closing
closed-short closes forbidden true [] = tt
closed-short closes forbidden false [] = tt
closed-short closes forbidden true (b ∷ bs) = longer b (length bs) (up_to_closing closes forbidden false bs) (closed-short closes forbidden false bs)
closed-short closes forbidden false (b ∷ bs) =
    let h : IfSome (beyond b (up_to_closing closes forbidden (escapes_next b bs) bs)) (λ r. length r.text ≤ suc (length bs))
    = longer b (length bs) (up_to_closing closes forbidden (escapes_next b bs) bs) (closed-short closes forbidden (escapes_next b bs) bs) in
    grind (arith, h)

kept-any : (n : ℕ) (o : Option Reading) → IfSome o (λ r. length r.text ≤ n) → keep_if (fits n true) o ≡ o
kept-any n None h = refl
kept-any n (Some r) h =
    let few : characters r.text ≤ length r.text = count_by-le-length begins_character r.text in
    let passes : nat_le (characters r.text) n ≡ true = grind (arith, nat_tests, few, h) in
    rw passes refl

kept-lines : (n : ℕ) (o : Option Reading) → IfSome o (λ r. length r.text ≤ n) → keep_if (fits n false) o ≡ keep_if has_no_blank_line o
kept-lines n None h = refl
kept-lines n (Some r) h =
    let few : characters r.text ≤ length r.text = count_by-le-length begins_character r.text in
    let passes : nat_le (characters r.text) n ≡ true = grind (arith, nat_tests, few, h) in
    rw passes refl

within-text : (text : List ℕ) (at : ℕ) (o : Option Reading) → IfSome o (λ r. length r.text ≤ length (drop at text)) → IfSome o (λ r. length r.text ≤ length text)
within-text text at None h = tt
within-text text at (Some r) h = let less : length (drop at text) ≡ length text - at = length-drop at text in omega (arith, h, less)

-- a destination between `<` and `>`
angle-cons : (bs : List ℕ) → destination (60 ∷ bs) ≡ up_to_closing (λ c. c == 62) (λ c. c == 60 || c == 10) false bs
unfolding destination
angle-cons bs = refl

pub destination-angle : (text : List ℕ) (at : ℕ) (next : Bool) (read : Option Reading) → next ≡ begins_with 60 (drop at text) → next ≡ true
    → read ≡ keep_if (fits (length text) true) (up_to_closing (λ c. c == 62) (λ c. c == 60 || c == 10) false (drop (suc at) text)) → read ≡ destination (drop at text)
destination-angle text at next read e h r =
    let o = up_to_closing (λ c. c == 62) (λ c. c == 60 || c == 10) false (drop (suc at) text) in
    r ∙ kept-any (length text) o (within-text text (suc at) o (closed-short (λ c. c == 62) (λ c. c == 60 || c == 10) false (drop (suc at) text)))
    ∙ sym (ap destination (begins-at 60 text at (sym e ∙ h)).1 ∙ angle-cons (drop (suc at) text))

-- and any other
bare-cons : (b : ℕ) (bs : List ℕ) → begins_with 60 (b ∷ bs) ≡ false → keep_if is_filled (bare_run 0 false (b ∷ bs)) ≡ destination (b ∷ bs)
unfolding destination
bare-cons b bs h = grind (arith, h)

bare-cases : (bs : List ℕ) → begins_with 60 bs ≡ false → keep_if is_filled (bare_run 0 false bs) ≡ destination bs
unfolding destination bare_run
bare-cases [] h = refl
bare-cases (b ∷ bs) h = bare-cons b bs h

pub destination-bare : (text : List ℕ) (at : ℕ) (next : Bool) (read : Option Reading) → next ≡ begins_with 60 (drop at text) → next ≡ false
    → read ≡ keep_if is_filled (bare_run 0 false (drop at text)) → read ≡ destination (drop at text)
destination-bare text at next read e h r = r ∙ bare-cases (drop at text) (sym e ∙ h)

-- the title that a byte starts
no-title : (b close : ℕ) → Some close ≡ title_end b → (b == 34) ≡ false → (b == 39) ≡ false → (b == 40) ≡ false → ⊥
no-title b close h d s r = grind (arith, h, d, s, r)

title-in : (b close : ℕ) (bs : List ℕ) → Some close ≡ title_end b → title_in b bs ≡ up_to_closing (λ c. c == close) (is_barred b false) false bs
unfolding title_in
title-in b close bs h = by_byte (b == 34) (b == 39) (b == 40) refl refl refl
  where
    by_byte : (double single round : Bool) → (b == 34) ≡ double → (b == 39) ≡ single → (b == 40) ≡ round → title_in b bs ≡ up_to_closing (λ c. c == close) (is_barred b false) false bs
    by_byte true single round d s r =
        let begun : b ≡ 34 = grind (arith, nat_tests, d) in
        let ends : close ≡ 34 = grind (arith, nat_tests, h, begun) in
        rw (begun, ends) (closed-same (λ c. c == 34) (λ c. false) (λ c. c == 34) (λ c e. sym e) false bs)
    by_byte false true round d s r =
        let begun : b ≡ 39 = grind (arith, nat_tests, s) in
        let ends : close ≡ 39 = grind (arith, nat_tests, h, begun) in
        rw (begun, ends) (closed-same (λ c. c == 39) (λ c. false) (λ c. c == 39) (λ c e. sym e) false bs)
    by_byte false false true d s r =
        let begun : b ≡ 40 = grind (arith, nat_tests, r) in
        let ends : close ≡ 41 = grind (arith, nat_tests, h, begun) in
        rw (begun, ends) refl
    by_byte false false false d s r = absurd (no-title b close h d s r)

title-cons : (b : ℕ) (bs : List ℕ) → title (b ∷ bs) ≡ keep_if has_no_blank_line (title_in b bs)
unfolding title
title-cons b bs = refl

pub title-some : (text : List ℕ) (at opener close : ℕ) (read : Option Reading) → at < length text → opener ≡ get_or text at 0 → Some close ≡ title_end opener
    → read ≡ keep_if (fits (length text) false) (up_to_closing (λ c. c == close) (is_barred opener false) false (drop (suc at) text)) → read ≡ title (drop at text)
title-some text at opener close read within o e r =
    let bs = drop (suc at) text in
    let inside = up_to_closing (λ c. c == close) (is_barred opener false) false bs in
    r ∙ kept-lines (length text) inside (within-text text (suc at) inside (closed-short (λ c. c == close) (is_barred opener false) false bs))
    ∙ ap (keep_if has_no_blank_line) (sym (title-in opener close bs e))
    ∙ sym (title-cons opener bs) ∙ ap (λ b. title (b ∷ bs)) o ∙ ap title (sym (drop-cons text at 0 within))

title-no : (b : ℕ) (bs : List ℕ) → None ≡ title_end b → keep_if has_no_blank_line (title_in b bs) ≡ None
unfolding title_in
title-no b bs h = grind (arith, h)

pub title-none : (text : List ℕ) (at opener : ℕ) → at < length text → opener ≡ get_or text at 0 → None ≡ title_end opener → None ≡ title (drop at text)
title-none text at opener within o e =
    let bs = drop (suc at) text in
    sym (ap title (drop-cons text at 0 within) ∙ ap (λ b. title (b ∷ bs)) (sym o) ∙ title-cons opener bs ∙ title-no opener bs e)

pub title-past : (text : List ℕ) (at : ℕ) → length text ≤ at → None ≡ title (drop at text)
unfolding title
title-past text at past = let none : drop at text ≡ [] = drop_all at text past in rw none refl
