-- Lines with given texts, as blocks are read from them.
use Rattle.std.proofs.Common.{◌≡◌, ℕ, ◌+◌, false, List, [], ◌∷◌, ◌++◌, refl, ap}
use Rattle.std.specs.Prelude.{replicate}
use Rattle.cm_text.specs.Lines.{LineView}
use Rattle.cm_text.specs.Indentation.{indent_of, strip_columns}
use Rattle.cm_text.proofs.lemmas.ViewLemmas.{spaces_are_columns, spaces_are_stripped}
use Rattle.cm_scan.specs.blocks.Starts.{after_quote_marker}
use Rattle.cm_scan.proofs.lemmas.blocks.SingleBlocks.{quote_and_space, quote_alone}
use Rattle.cm_source.specs.Spelling.{quoted, indented}

-- a line that isn't lazy, and lines with these texts
abbrev pub at : ℕ → List ℕ → LineView
at column text = record { column = column; text = text; lazy = false }

pub data Have : List LineView → List (List ℕ) → Type 0 where
  no_lines : Have [] []
  a_line : {c : ℕ} {t : List ℕ} {ls : List LineView} {ts : List (List ℕ)} → Have ls ts → Have (at c t ∷ ls) (t ∷ ts)

pub have-split : (ts us : List (List ℕ)) (ls : List LineView) → Have ls (ts ++ us) → (front : List LineView) × (rest : List LineView) × (ls ≡ front ++ rest) × Have front ts × Have rest us
have-split [] us ls have = ([], ls, refl, no_lines, have)
have-split (t ∷ ts) us ls (a_line {c = c} {ls = further} have) =
    let (front, rest, e, h, k) = have-split ts us further have in
    (at c t ∷ front, rest, ap (λ l. at c t ∷ l) e, a_line h, k)

pub have-first : {ls : List LineView} {t : List ℕ} {ts : List (List ℕ)} → Have ls (t ∷ ts) → (c : ℕ) × (further : List LineView) × (ls ≡ at c t ∷ further) × Have further ts
have-first (a_line {c = c} {ls = ls} have) = (c, ls, refl, have)

-- the given number of spaces are at least as many columns
pub indent-spaces : (n c : ℕ) (t : List ℕ) → indent_of (at c (replicate n 32 ++ t)) ≡ n + indent_of (at (c + n) t)
indent-spaces n c t = spaces_are_columns n (at c t)

-- a further line of an item, without its spaces
pub strip-indented : (n c : ℕ) (t : List ℕ) → (d : ℕ) × (strip_columns n (at c (indented n t)) ≡ at d t)
strip-indented n c [] = (c, refl)
strip-indented n c (b ∷ t) = (c + n, spaces_are_stripped n (at c (b ∷ t)))

-- after the marker of a quote
pub beyond-quote : (c : ℕ) (t : List ℕ) → (d : ℕ) × (after_quote_marker (at c (quoted t)) ≡ at d t)
beyond-quote c [] = (c + 1, quote_alone (at c (quoted [])) refl)
beyond-quote c (b ∷ t) = (c + 2, quote_and_space (at c (quoted (b ∷ t))) (b ∷ t) refl)
