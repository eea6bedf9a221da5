-- Bytes of a text that are not written as they are.
use Rattle.std.specs.Prelude.{ℕ, Bool, ◌||◌}
use Rattle.std.specs.Char.{is_ascii_control}
use Rattle.cm_text.specs.Characters.{is_ascii_punct}

abbrev pub is_spelled : ℕ → Bool
is_spelled b = is_ascii_control b || is_ascii_punct b
