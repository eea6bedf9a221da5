-- What the text of a line is.
use Rattle.std.specs.Prelude.{ℕ, Bool, true, ◌==◌, ◌||◌, ◌&&◌, not, List, [], ◌∷◌, count_by}
use Rattle.std.specs.Str.{byte}

-- a line feed or a carriage return
abbrev pub is_line_ending : ℕ → Bool
is_line_ending b = b == byte "\n" || b == byte "\r"

-- a text without line endings
abbrev pub is_line : List ℕ → Bool
is_line [] = true
is_line (b ∷ bs) = not (is_line_ending b) && is_line bs

-- how many tabs a text has
abbrev pub tabs : List ℕ → ℕ
tabs text = count_by (λ b. b == byte "\t") text
