-- Labels that are compared as they are, and labels in which no bracket is escaped.
use Rattle.std.specs.Prelude.{ℕ, Bool, true, false, not, ◌&&◌, ◌||◌, ◌==◌, nat_le, nat_lt, List, [], ◌∷◌, length, chars}
use Rattle.std.specs.List.{list_all}
use Rattle.std.specs.Char.{is_ascii_graphic, is_ascii_uppercase}
use Rattle.std.specs.Str.{byte}
use Rattle.ucd_case.specs.CaseFolding.{full_folding}
use Rattle.cm_text.specs.Labels.{is_gap}

-- a bracket or a backslash
abbrev pub is_bracketing : ℕ → Bool
is_bracketing b = b == byte "[" || b == byte "\\" || b == byte "]"

-- a visible ASCII character that is none of these, and no capital
abbrev pub is_plain_byte : ℕ → Bool
is_plain_byte b = is_ascii_graphic b && not (is_ascii_uppercase b) && not (is_bracketing b)

-- whether case folding keeps a character
abbrev pub is_kept : ℕ → Bool
is_kept c = length (full_folding c) == 0

-- such characters or bytes beyond ASCII, and single spaces before them; the mark says that a space is before the text, or nothing
abbrev pub is_plain : (beyond_space : Bool) → List ℕ → Bool
is_plain beyond_space [] = not beyond_space
is_plain beyond_space (b ∷ bs) = elim (is_plain_byte b || nat_le 128 b) [ true ↦ is_plain false bs | false ↦ b == 32 && not beyond_space && is_plain true bs ]

abbrev pub is_all_ascii : List ℕ → Bool
is_all_ascii = list_all (λ b. nat_lt b 128)

-- Whether a label counts as its own folded form. ASCII without capitals keeps its case.
abbrev pub is_own_fold : List ℕ → Bool
is_own_fold label = is_plain true label && (is_all_ascii label || list_all is_kept (chars label))

-- a text that starts with no gap, in which there is no bracket and no backslash
abbrev pub is_bare : List ℕ → Bool
is_bare [] = false
is_bare (b ∷ bs) = not (is_gap b) && list_all (λ c. not (is_bracketing c)) (b ∷ bs)
