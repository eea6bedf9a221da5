-- The bytes that the code looks for, since they aren't written as they are.
use Rattle.std.specs.Prelude.{ℕ, ◌==◌, Bool, ◌||◌, nat_lt, not}
use Rattle.std.specs.Char.{is_ascii_control}
use Rattle.cm_html.specs.Escape.{is_kept}

-- `&`, `<`, `>` and `"`, in HTML
abbrev pub is_escaped : ℕ → Bool
is_escaped b = b == 38 || b == 60 || b == 62 || b == 34

-- what is written differently in the HTML of a destination: what this doesn't keep, and `&`
unfoldable pub is_changed : ℕ → Bool
is_changed b = not (is_kept b) || b == 38

-- `\`, `"` and ASCII control characters, between quotes
abbrev pub has_escape : ℕ → Bool
has_escape b = b == 92 || b == 34 || is_ascii_control b

-- `\`, `"` and the bytes before the space, in a string of JSON
abbrev pub has_json_escape : ℕ → Bool
has_json_escape b = b == 92 || b == 34 || nat_lt b 32
