-- The bytes of a tag's name.
use Rattle.std.specs.Prelude.{ℕ, Bool, ◌||◌, ◌==◌}
use Rattle.std.specs.Char.{is_ascii_alphanumeric}

-- an ASCII letter, a digit or a hyphen
abbrev pub continues_name : ℕ → Bool
continues_name b = is_ascii_alphanumeric b || b == 45
