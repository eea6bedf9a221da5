-- The steps that the scanners of link reference definitions take.
use Rattle.std.specs.Prelude.{ℕ, suc, Bool, true, false, not, ◌&&◌, ◌||◌, List, drop, Option, Some, None, if◌then◌else◌, option_map, ◌==◌, nat_le, nat_lt, codes}
use Rattle.std.specs.List.{slice_range, list_any}
use Rattle.std.specs.Int.{is_in_range}
use Rattle.std.specs.Char.{is_ascii_control}
use Rattle.cm_scan.specs.Words.{begins_with, trim_start}
use Rattle.cm_scan.specs.inlines.Links.{Reading, characters, has_no_blank_line}

-- the part between two places, with a closing byte at the second
abbrev pub closed_at : List ℕ → ℕ → Option ℕ → Option Reading
closed_at text from end = option_map (λ e. record { text = slice_range text from e; rest = drop (suc e) text }) end

-- the part between two places
abbrev pub ended_at : List ℕ → ℕ → Option ℕ → Option Reading
ended_at text from end = option_map (λ e. record { text = slice_range text from e; rest = drop e text }) end

-- the byte that ends the title which a byte starts
abbrev pub title_end : ℕ → Option ℕ
title_end b = if b == 34 then Some 34 else (if b == 39 then Some 39 else (if b == 40 then Some 41 else None))

-- a byte that ends a bare destination
abbrev pub ends_bare : ℕ → ℕ → Bool
ends_bare opened b = b == 32 || is_ascii_control b || (b == 41 && opened == 0)

-- a byte that neither ends a bare destination, nor is a parenthesis, nor escapes anything
abbrev pub is_plain_in_run : ℕ → Bool
is_plain_in_run b = nat_lt 32 b && not (b == 40) && not (b == 41) && not (b == 92) && not (b == 127)

-- a byte that starts a character
abbrev pub begins_character : ℕ → Bool
begins_character b = not (is_in_range 128 191 b)

-- what a part between brackets may not hold unescaped
abbrev pub is_barred : ℕ → (one_line : Bool) → ℕ → Bool
is_barred open_byte true b = b == open_byte || b == 10
is_barred open_byte false b = b == open_byte

-- an ASCII byte that means nothing in a part: it neither starts nor ends one, escapes nothing, and ends no line
abbrev pub is_plain : ℕ → Bool
is_plain b = nat_lt b 128 && not (list_any (λ c. c == b) (codes "\n\"'()<>[\\]"))

-- up to the given number of characters, and no blank line except where those may be
abbrev pub fits : ℕ → (blank_lines : Bool) → Reading → Bool
fits most blank_lines r = nat_le (characters r.text) most && (blank_lines || has_no_blank_line r)

-- a line feed that starts a blank line
abbrev pub blank_follows : ℕ → List ℕ → Bool
blank_follows b bs = b == 10 && begins_with 10 (trim_start bs)

-- a byte that no part can hold: one that may not be there, one character too many, or a line feed before a blank line
abbrev pub is_refused : ℕ → (blank_lines barred : Bool) → ℕ → List ℕ → Bool
is_refused left blank_lines barred b bs = barred || (left == 0 && begins_character b) || (not blank_lines && blank_follows b bs)
