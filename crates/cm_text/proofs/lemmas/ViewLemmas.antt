-- Columns of a line whose text has the given number of spaces before.
use Rattle.std.proofs.Common.{◌≡◌, ℕ, zero, suc, ◌+◌, ◌-◌, ◌*◌, ◌≤◌, Bool, true, false, List, [], ◌∷◌, ◌++◌, length, drop, replicate, refl, sym, ap, ◌∙◌, arith}
use Rattle.std.proofs.lemmas.List.{length-replicate, length-append}
use Rattle.cm_text.specs.LineText.{is_line, tabs}
use Rattle.cm_text.specs.Lines.{LineView}
use Rattle.cm_text.specs.Indentation.{indent_from, strip_from, SpacesAreColumns, SpacesAreStripped}
use Rattle.cm_text.proofs.lemmas.StripLemmas.{strip_takes_columns}
use Rattle.cm_text.proofs.lemmas.IndentationLemmas.{strip-whole, line-tail, strip-fits, tabs-cons, tabs-spaces}

pub indent_spaces : (n column : ℕ) (text : List ℕ) → indent_from column (replicate n 32 ++ text) ≡ n + indent_from (column + n) text
indent_spaces zero column text =
    let e : column ≡ column + 0 = omega arith in
    let h : indent_from column text ≡ indent_from (column + 0) text = ap (λ c. indent_from c text) e in
    omega (arith, h)
indent_spaces (suc n) column text =
    let e : column + 1 + n ≡ column + suc n = omega arith in
    let h : indent_from (column + 1 + n) text ≡ indent_from (column + suc n) text = ap (λ c. indent_from c text) e in
    omega (arith, h, indent_spaces n (column + 1) text)

none : (column : ℕ) (text : List ℕ) → strip_from 0 column text ≡ (column, text)
none column [] = refl
none column (b ∷ bs) = refl

-- all of them
pub strip_all : (spaces n column : ℕ) (text : List ℕ) → spaces ≤ n → strip_from n column (replicate spaces 32 ++ text) ≡ strip_from (n - spaces) (column + spaces) text
strip_all zero n column text few = (λ i. strip_from (same n i) (still column i) text)
  where
    same : (n : ℕ) → n ≡ n - 0
    same n = omega arith

    still : (n : ℕ) → n ≡ n + 0
    still n = omega arith
strip_all (suc spaces) n column text few =
    let less : n - 1 - spaces ≡ n - suc spaces = omega arith in
    let more : column + 1 + spaces ≡ column + suc spaces = omega arith in
    strip-whole n column 32 (replicate spaces 32 ++ text) (omega (arith, few)) (omega arith) (omega (arith, few))
    ∙ strip_all spaces (n - 1) (column + 1) text (omega (arith, few)) ∙ (λ i. strip_from (less i) (more i) text)

-- some of them
pub strip_some : (n spaces column : ℕ) (text : List ℕ) → n ≤ spaces
    → strip_from n column (replicate spaces 32 ++ text) ≡ (column + n, replicate (spaces - n) 32 ++ text)
strip_some zero spaces column text few = none column (replicate spaces 32 ++ text) ∙ (λ i. (still column i, replicate (same spaces i) 32 ++ text))
  where
    same : (n : ℕ) → n ≡ n - 0
    same n = omega arith

    still : (n : ℕ) → n ≡ n + 0
    still n = omega arith
strip_some (suc n) zero column text few = absurd (omega (arith, few))
strip_some (suc n) (suc spaces) column text few =
    let left : suc n - 1 ≡ n = omega arith in
    let more : column + 1 + n ≡ column + suc n = omega arith in
    let same : spaces - n ≡ suc spaces - suc n = omega arith in
    strip-whole (suc n) column 32 (replicate spaces 32 ++ text) (omega arith) (omega arith) (omega arith)
    ∙ ap (λ k. strip_from k (column + 1) (replicate spaces 32 ++ text)) left
    ∙ strip_some n spaces (column + 1) text (omega (arith, few)) ∙ (λ i. (more i, replicate (same i) 32 ++ text))

-- just as many

pub spaces_are_columns : SpacesAreColumns
spaces_are_columns n line = indent_spaces n line.column line.text

pub spaces_are_stripped : SpacesAreStripped
spaces_are_stripped n line =
    let less : n - n ≡ 0 = omega arith in
    ap (λ (left : ℕ × List ℕ). record { column = left.0; text = left.1; lazy = line.lazy })
    (strip_all n n line.column line.text (omega arith) ∙ ap (λ k. strip_from k (line.column + n) line.text) less ∙ none (line.column + n) line.text)

-- what is left of a line is one

line-drop : (n : ℕ) (text : List ℕ) → is_line text ≡ true → is_line (drop n text) ≡ true
line-drop zero text h = h
line-drop (suc n) [] h = h
line-drop (suc n) (b ∷ bs) h = line-drop n bs (line-tail b bs h)

pub rest_is_line : (k : ℕ) (text rest : List ℕ) → is_line text ≡ true → rest ≡ drop k text → is_line rest ≡ true
rest_is_line k text rest h e = ap is_line e ∙ line-drop k text h

-- and takes no more room
pub rest_fits : (n column next spaces k : ℕ) (text rest : List ℕ) → strip_from n column text ≡ (next, replicate spaces 32 ++ drop k text) → rest ≡ drop k text
    → next + spaces + length rest + 3 * tabs rest ≤ column + length text + 3 * tabs text
rest_fits n column next spaces k text rest left e =
    let all : next + length (replicate spaces 32 ++ drop k text) + 3 * tabs (replicate spaces 32 ++ drop k text) ≤ column + length text + 3 * tabs text
    = rw left at (strip-fits n column text) in
    let long : length (replicate spaces 32 ++ drop k text) ≡ spaces + length (drop k text)
    = length-append (replicate spaces 32) (drop k text) ∙ ap (λ m. m + length (drop k text)) (length-replicate spaces 32) in
    let few = tabs-spaces spaces (drop k text) in
    rw e (omega (arith, all, long, few))

-- so does what is left after some bytes
pub after_fits : (n : ℕ) (text rest : List ℕ) → n ≤ length text → rest ≡ drop n text → n + length rest + 3 * tabs rest ≤ length text + 3 * tabs text
after_fits zero text rest within e = rw e (omega arith)
after_fits (suc n) [] rest within e = absurd (omega (arith, within))
after_fits (suc n) (b ∷ bs) rest within e =
    let h = after_fits n bs rest (omega (arith, within)) e in
    omega (arith, h, tabs-cons b bs)

-- a line seen so, without some columns
abbrev stripped : Bool → ℕ × List ℕ → LineView
stripped lazy left = record { column = left.0; text = left.1; lazy = lazy }

pub strip_line_some : (n column spaces : ℕ) (rest : List ℕ) (lazy : Bool) → n ≤ spaces
    → stripped lazy (column + n, replicate (spaces - n) 32 ++ rest) ≡ stripped lazy (strip_from n column (replicate spaces 32 ++ rest))
strip_line_some n column spaces rest lazy few = ap (stripped lazy) (sym (strip_some n spaces column rest few))

pub strip_line_all : (n column spaces next left k : ℕ) (text rest : List ℕ) (lazy : Bool) → spaces ≤ n
    → strip_from (n - spaces) (column + spaces) text ≡ (next, replicate left 32 ++ drop k text) → rest ≡ drop k text
    → stripped lazy (next, replicate left 32 ++ rest) ≡ stripped lazy (strip_from n column (replicate spaces 32 ++ text))
strip_line_all n column spaces next left k text rest lazy all taken e =
    ap (λ t. stripped lazy (next, replicate left 32 ++ t)) e ∙ ap (stripped lazy) (sym (strip_all spaces n column text all ∙ taken))

-- where all the indentation goes, no space is left

pub few_spaces : (n column spaces : ℕ) (rest : List ℕ) → indent_from column (replicate spaces 32 ++ rest) ≤ n → spaces ≤ n
few_spaces n column spaces rest all = omega (arith, all, indent_spaces spaces column rest)

pub none_left : (n column spaces next k i : ℕ) (text : List ℕ) → strip_from (n - spaces) (column + spaces) text ≡ (next, replicate k 32 ++ drop i text)
    → spaces ≤ n → indent_from column (replicate spaces 32 ++ text) ≤ n → k ≡ 0
none_left n column spaces next k i text left few all =
    let line : LineView = record { column = column + spaces; text = text; lazy = false } in
    let law : indent_from (strip_from (n - spaces) (column + spaces) text).0 (strip_from (n - spaces) (column + spaces) text).1
    ≡ indent_from (column + spaces) text - (n - spaces) = (strip_takes_columns (n - spaces) line).1 in
    let indent : indent_from next (replicate k 32 ++ drop i text) ≡ indent_from (column + spaces) text - (n - spaces) = rw left at law in
    omega (arith, indent, indent_spaces k next (drop i text), indent_spaces spaces column text, few, all)
