-- Lines of text: from their first bytes they can only be text (4.8 Paragraphs), so they continue an open paragraph, whatever else
-- is open.
use Rattle.std.specs.Prelude.{◌≡◌, ℕ, zero, suc, ◌<◌, Bool, true, false, not, ◌==◌, ◌&&◌, ◌||◌, List, [], ◌∷◌, length, codes}
use Rattle.std.specs.List.{list_any, flat_map}
use Rattle.std.specs.Str.{byte}
use Rattle.std.specs.Int.{is_in_range}
use Rattle.cm_text.specs.Lines.{lines_of, with_line_feed}

-- a byte that only a paragraph starts with, whatever follows: neither another block nor the underline of a heading
abbrev pub begins_text : ℕ → Bool
begins_text b = not (is_in_range 48 57 b || list_any (λ c. b == c) (codes "<>#`~-_*+= \t\n"))

-- a line that starts with such a byte, after the given number of spaces
abbrev pub is_text_after : ℕ → List ℕ → Bool
is_text_after spaces [] = false
is_text_after zero (b ∷ bs) = begins_text b
is_text_after (suc n) (b ∷ bs) = b == byte " " && is_text_after n bs

-- such lines, the first after the given number of spaces, and each other after none
abbrev pub are_text : ℕ → List (List ℕ) → Bool
are_text spaces [] = true
are_text spaces (line ∷ lines) = is_text_after spaces line && are_text 0 lines

-- The text is made of such lines, one or more, each followed by a line feed.
pub record AreTextLines (text : List ℕ) (spaces count : ℕ) : Type 0 where
  pub lines : text ≡ flat_map with_line_feed (lines_of text)
  pub counted : count ≡ length (lines_of text)
  pub some : 0 < count
  pub are_text : are_text spaces (lines_of text) ≡ true
