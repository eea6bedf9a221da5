-- Stripping takes columns off the indentation, and nothing else.
use Rattle.std.proofs.Common.{◌≡◌, ℕ, zero, suc, min, ◌+◌, ◌-◌, ◌<◌, ◌≤◌, Bool, true, false, nat_lt, ◌⊎◌, inl, inr, List, [], ◌∷◌, ◌++◌, replicate, refl, sym, ap, ◌∙◌, arith}
use Rattle.std.proofs.lemmas.Bool.Decides.{nat_tests}
use Rattle.cm_text.specs.Indentation.{blank_width, indent_from, strip_from, after_indent, StripTakesColumns, StripInParts}
use Rattle.cm_text.proofs.lemmas.IndentationLemmas.{by_cases, strip-whole}

indent-blank : (column b : ℕ) (bs : List ℕ) → 0 < blank_width column b
    → indent_from column (b ∷ bs) ≡ blank_width column b + indent_from (column + blank_width column b) bs
indent-blank column b bs h = grind (arith, nat_tests, h)

indent-other : (column b : ℕ) (bs : List ℕ) → blank_width column b ≡ 0 → indent_from column (b ∷ bs) ≡ 0
indent-other column b bs h = grind (arith, nat_tests, h)

content-blank : (column b : ℕ) (bs : List ℕ) → 0 < blank_width column b → after_indent (b ∷ bs) ≡ after_indent bs
content-blank column b bs h = grind (arith, nat_tests, h)

indent-spaces : (k column : ℕ) (bs : List ℕ) → indent_from column (replicate k 32 ++ bs) ≡ k + indent_from (column + k) bs
indent-spaces zero column bs =
    let same : column ≡ column + 0 = omega arith in
    let whole = ap (λ c. indent_from c bs) same in
    omega (arith, whole)
indent-spaces (suc k) column bs =
    let rest = indent-spaces k (column + 1) bs in
    let next : column + 1 + k ≡ column + suc k = omega arith in
    let same = ap (λ c. indent_from c bs) next in
    omega (arith, rest, same)

content-spaces : (k : ℕ) (bs : List ℕ) → after_indent (replicate k 32 ++ bs) ≡ after_indent bs
content-spaces zero bs = refl
content-spaces (suc k) bs = content-spaces k bs

-- what is claimed of what is left of a text
abbrev Takes : ℕ → ℕ → List ℕ → ℕ × List ℕ → Type 0
Takes n column text left =
    (left.0 ≡ column + min n (indent_from column text)) × (indent_from left.0 left.1 ≡ indent_from column text - n) × (after_indent left.1 ≡ after_indent text)

stays-whole : (n column b : ℕ) (bs : List ℕ) → (n ≡ 0) ⊎ (blank_width column b ≡ 0) → Takes n column (b ∷ bs) (column, b ∷ bs)
stays-whole n column b bs (inl h) = (omega (arith, h), omega (arith, h), refl)
stays-whole n column b bs (inr h) = let none = indent-other column b bs h in (omega (arith, none), omega (arith, none), refl)

cut-tab : (n column b : ℕ) (bs : List ℕ) → n < blank_width column b
    → Takes n column (b ∷ bs) (column + n, replicate (blank_width column b - n) 32 ++ bs)
cut-tab n column b bs h =
    let w = blank_width column b in
    let whole = indent-blank column b bs (omega (arith, h)) in
    let part = indent-spaces (w - n) (column + n) bs in
    let next : column + n + (w - n) ≡ column + w = omega (arith, h) in
    let same = ap (λ c. indent_from c bs) next in
    (omega (arith, whole, h), omega (arith, whole, part, same, h), content-spaces (w - n) bs ∙ sym (content-blank column b bs (omega (arith, h))))

takes : (n column : ℕ) (text : List ℕ) → Takes n column text (strip_from n column text)
takes n column [] = (omega arith, omega arith, refl)
takes n column (b ∷ bs) =
    by_cases (Takes n column (b ∷ bs)) n column b bs (stays-whole n column b bs) (cut-tab n column b bs)
    (λ some within.
    let w = blank_width column b in
    let whole = indent-blank column b bs some in
    let rest = takes (n - w) (column + w) bs in
    (omega (arith, whole, rest.0, within), omega (arith, whole, rest.1, within), rest.2 ∙ sym (content-blank column b bs some)))

pub strip_takes_columns : StripTakesColumns
strip_takes_columns n line = takes n line.column line.text

strip-none : (column : ℕ) (text : List ℕ) → strip_from 0 column text ≡ (column, text)
strip-none column [] = refl
strip-none column (b ∷ bs) = refl

strip-other : (n column b : ℕ) (bs : List ℕ) → blank_width column b ≡ 0 → strip_from n column (b ∷ bs) ≡ (column, b ∷ bs)
strip-other n column b bs h = by_cases (λ left. left ≡ (column, b ∷ bs)) n column b bs (λ stays. refl)
    (λ cut. absurd (omega (arith, cut, h))) (λ some within. absurd (omega (arith, some, h)))

strip-cut : (n column b : ℕ) (bs : List ℕ) → 0 < n → n < blank_width column b
    → strip_from n column (b ∷ bs) ≡ (column + n, replicate (blank_width column b - n) 32 ++ bs)
strip-cut n column b bs some cut = grind (arith, nat_tests)

-- more spaces than columns, and fewer
fewer-columns : (k m column : ℕ) (bs : List ℕ) → m ≤ k → strip_from m column (replicate k 32 ++ bs) ≡ (column + m, replicate (k - m) 32 ++ bs)
fewer-columns k zero column bs h =
    let same : column ≡ column + 0 = omega arith in
    let all : k ≡ k - 0 = omega arith in
    strip-none column (replicate k 32 ++ bs) ∙ ap (λ c. (c, replicate k 32 ++ bs)) same ∙ ap (λ j. (column + 0, replicate j 32 ++ bs)) all
fewer-columns zero (suc m) column bs h = absurd (omega (arith, h))
fewer-columns (suc k) (suc m) column bs h =
    let one : suc m - 1 ≡ m = omega arith in
    let next : column + 1 + m ≡ column + suc m = omega arith in
    let left : k - m ≡ suc k - suc m = omega arith in
    strip-whole (suc m) column 32 (replicate k 32 ++ bs) (omega arith) (omega arith) (omega arith)
    ∙ ap (λ j. strip_from j (column + 1) (replicate k 32 ++ bs)) one
    ∙ fewer-columns k m (column + 1) bs (omega (arith, h))
    ∙ ap (λ c. (c, replicate (k - m) 32 ++ bs)) next ∙ ap (λ j. (column + suc m, replicate j 32 ++ bs)) left

more-columns : (k m column : ℕ) (bs : List ℕ) → k ≤ m → strip_from m column (replicate k 32 ++ bs) ≡ strip_from (m - k) (column + k) bs
more-columns zero m column bs h =
    let same : column ≡ column + 0 = omega arith in
    let all : m ≡ m - 0 = omega arith in
    ap (λ j. strip_from j column bs) all ∙ ap (λ c. strip_from (m - 0) c bs) same
more-columns (suc k) zero column bs h = absurd (omega (arith, h))
more-columns (suc k) (suc m) column bs h =
    let one : suc m - 1 ≡ m = omega arith in
    let next : column + 1 + k ≡ column + suc k = omega arith in
    let left : m - k ≡ suc m - suc k = omega arith in
    strip-whole (suc m) column 32 (replicate k 32 ++ bs) (omega arith) (omega arith) (omega arith)
    ∙ ap (λ j. strip_from j (column + 1) (replicate k 32 ++ bs)) one
    ∙ more-columns k m (column + 1) bs (omega (arith, h))
    ∙ ap (λ c. strip_from (m - k) c bs) next ∙ ap (λ j. strip_from j (column + suc k) bs) left

-- what is claimed of a text
abbrev InParts : ℕ → ℕ → ℕ → List ℕ → Type 0
InParts n m column text = strip_from m (strip_from n column text).0 (strip_from n column text).1 ≡ strip_from (n + m) column text

cut-more : (n m column b : ℕ) (bs : List ℕ) (enough : Bool) → nat_lt (n + m) (blank_width column b) ≡ enough → 0 < n → n < blank_width column b
    → strip_from m (column + n) (replicate (blank_width column b - n) 32 ++ bs) ≡ strip_from (n + m) column (b ∷ bs)
cut-more n m column b bs true e some cut =
    let less : n + m < blank_width column b = grind (arith, nat_tests, e) in
    let next : column + n + m ≡ column + (n + m) = omega arith in
    let left : blank_width column b - n - m ≡ blank_width column b - (n + m) = omega arith in
    fewer-columns (blank_width column b - n) m (column + n) bs (omega (arith, less))
    ∙ ap (λ c. (c, replicate (blank_width column b - n - m) 32 ++ bs)) next ∙ ap (λ j. (column + (n + m), replicate j 32 ++ bs)) left
    ∙ sym (strip-cut (n + m) column b bs (omega (arith, some)) less)
cut-more n m column b bs false e some cut =
    let enough : blank_width column b ≤ n + m = grind (arith, nat_tests, e) in
    let next : column + n + (blank_width column b - n) ≡ column + blank_width column b = omega (arith, cut) in
    let left : m - (blank_width column b - n) ≡ n + m - blank_width column b = omega (arith, cut) in
    more-columns (blank_width column b - n) m (column + n) bs (omega (arith, enough))
    ∙ ap (λ c. strip_from (m - (blank_width column b - n)) c bs) next ∙ ap (λ j. strip_from j (column + blank_width column b) bs) left
    ∙ sym (strip-whole (n + m) column b bs (omega (arith, some)) (omega (arith, cut)) enough)

kept : (n m column b : ℕ) (bs : List ℕ) → (suc n ≡ 0) ⊎ (blank_width column b ≡ 0) → strip_from m column (b ∷ bs) ≡ strip_from (suc n + m) column (b ∷ bs)
kept n m column b bs (inl h) = absurd (omega (arith, h))
kept n m column b bs (inr h) = strip-other m column b bs h ∙ sym (strip-other (suc n + m) column b bs h)

in_parts : (n m column : ℕ) (text : List ℕ) → InParts n m column text
in_parts zero m column text =
    let none = strip-none column text in
    let sum : m ≡ zero + m = omega arith in
    ap (λ left. strip_from m left.0 left.1) none ∙ ap (λ k. strip_from k column text) sum
in_parts (suc n) m column [] = refl
in_parts (suc n) m column (b ∷ bs) =
    by_cases (λ left. strip_from m left.0 left.1 ≡ strip_from (suc n + m) column (b ∷ bs)) (suc n) column b bs
    (λ stays. kept n m column b bs stays)
    (λ cut. cut-more (suc n) m column b bs (nat_lt (suc n + m) (blank_width column b)) refl (omega arith) cut)
    (λ some within.
    let w = blank_width column b in
    let left : suc n - w + m ≡ suc n + m - w = omega (arith, within) in
    in_parts (suc n - w) m (column + w) bs ∙ ap (λ k. strip_from k (column + w) bs) left
    ∙ sym (strip-whole (suc n + m) column b bs (omega arith) some (omega (arith, within))))

pub strip_in_parts : StripInParts
strip_in_parts n m line =
    let whole = in_parts n m line.column line.text in
    ap (λ left. record { column = left.0; text = left.1; lazy = line.lazy }) whole
