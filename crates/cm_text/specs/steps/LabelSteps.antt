-- What one more character does to a label, whose gaps become single spaces from the left.
use Rattle.std.specs.Prelude.{ℕ, Bool, true, false, not, ◌&&◌, ◌==◌, List, [], ◌∷◌}
use Rattle.cm_text.specs.Labels.{is_gap}

-- what a character adds to the text that was made, where a gap is before it or isn't
abbrev pub put_after : (made : List ℕ) (after_gap : Bool) → List ℕ → List ℕ
put_after [] after_gap bytes = bytes
put_after (b ∷ bs) after_gap bytes = elim after_gap [ true ↦ 32 ∷ bytes | false ↦ bytes ]

-- whether a text is settled, which may start with a gap, by whether what follows its first byte is
abbrev pub settled_by : (gap beyond_gap space rest_after_gap rest : Bool) → Bool
settled_by true true space rest_after_gap rest = false
settled_by true false space rest_after_gap rest = space && rest_after_gap
settled_by false beyond_gap space rest_after_gap rest = rest

-- Whether a text is settled unchanged: each gap in it is one space, and something else is before and after that. The mark says
-- that a gap is before the text, or nothing.
abbrev pub is_settled : (beyond_gap : Bool) → List ℕ → Bool
is_settled beyond_gap [] = not beyond_gap
is_settled beyond_gap (b ∷ bs) = settled_by (is_gap b) beyond_gap (b == 32) (is_settled true bs) (is_settled false bs)
