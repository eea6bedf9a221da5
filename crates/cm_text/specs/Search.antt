-- Bytes that are searched for.
use Rattle.std.specs.Prelude.{ℕ, ◌+◌, min, ◌==◌, ◌||◌, not, Bool, List, length, drop}
use Rattle.std.specs.List.{position_or_len}
use Rattle.std.specs.Str.{byte}

-- the first place, from a given one on, of a byte that passes a test, or the length if there is none
abbrev pub next_place : (ℕ → Bool) → List ℕ → ℕ → ℕ
next_place passes bytes from = min (length bytes) (from + position_or_len passes (drop from bytes))

-- a byte that can start an inline other than text, or that ends a line: LF, CR, `!`, `&`, `*`, `<`, `[`, `\`, `]`, `_`, a backtick, `~`
abbrev pub is_markup : ℕ → Bool
is_markup b =
    b == byte "\n" || b == byte "\r" || b == byte "!" || b == byte "&" || b == byte "*" || b == byte "<"
    || b == byte "[" || b == byte "\\" || b == byte "]" || b == byte "_" || b == byte "`" || b == byte "~"

-- the same, or one that HTML escapes: `"`, `>`
abbrev pub is_marked : ℕ → Bool
is_marked b =
    b == byte "\n" || b == byte "\r" || b == byte "!" || b == byte "\"" || b == byte "&" || b == byte "*"
    || b == byte "<" || b == byte ">" || b == byte "[" || b == byte "\\" || b == byte "]" || b == byte "_" || b == byte "`" || b == byte "~"

-- any byte other than a space
abbrev pub is_no_space : ℕ → Bool
is_no_space b = not (b == byte " ")
