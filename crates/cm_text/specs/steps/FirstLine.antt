-- How far the first line of a text goes.
use Rattle.std.specs.Prelude.{◌≡◌, ℕ, ◌<◌, ◌≤◌, true, List, length, take, get_or}
use Rattle.cm_text.specs.LineText.{is_line, is_line_ending}

-- this number of bytes is a line, and unless they are all, one that ends it comes next
pub record IsFirstLine (n : ℕ) (text : List ℕ) : Type 0 where
  pub within : n ≤ length text
  pub plain : is_line (take n text) ≡ true
  pub ends : n < length text → is_line_ending (get_or text n 0) ≡ true
