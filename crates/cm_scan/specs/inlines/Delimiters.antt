-- Delimiter runs (CommonMark 0.31.2, 6.2 Emphasis and strong emphasis). Runs of two tildes are this project's own extension.
use Rattle.std.specs.Prelude.{ℕ, ◌+◌, ◌%◌, Bool, true, false, not, ◌&&◌, ◌||◌, ◌==◌, Option, Some, None, if◌then◌else◌}
use Rattle.std.specs.Str.{byte}
use Rattle.cm_text.specs.Rules.{Rules}
use Rattle.cm_text.specs.Characters.{is_space, is_punct_by}

-- how a run sees the character next to it
pub data Neighbour : Type 0 where
  whitespace : Neighbour
  punctuation : Neighbour
  other : Neighbour

-- how a run sees the character next to it; the start and the end of the leaf count as Unicode whitespace
unfoldable pub neighbour : Rules → Option ℕ → Neighbour
neighbour rules None = whitespace
neighbour rules (Some c) = if is_space c then whitespace else (if is_punct_by rules c then punctuation else other)

abbrev pub is_punctuation : Neighbour → Bool
is_punctuation punctuation = true
is_punctuation _ = false

abbrev pub is_other : Neighbour → Bool
is_other other = true
is_other _ = false

-- A left-flanking delimiter run is a delimiter run that is not followed by Unicode whitespace, and either not followed by a
-- Unicode punctuation character, or followed by one and preceded by Unicode whitespace or a Unicode punctuation character.
abbrev pub is_left_flanking : Neighbour → Neighbour → Bool
is_left_flanking before whitespace = false
is_left_flanking before punctuation = not (is_other before)
is_left_flanking before other = true

-- A right-flanking delimiter run is its mirror image.
abbrev pub is_right_flanking : Neighbour → Neighbour → Bool
is_right_flanking before after = is_left_flanking after before

-- A run can open emphasis. Rules 1 and 5: a run of `*` can if it is left-flanking, and so can a run of `~`. Rules 2 and 6: a run
-- of `_` can if it is left-flanking, and either not right-flanking or preceded by a Unicode punctuation character.
abbrev pub may_open : ℕ → Neighbour → Neighbour → Bool
may_open c before after = is_left_flanking before after && (not (c == byte "_") || not (is_right_flanking before after) || is_punctuation before)

-- A run can close emphasis. Rules 3, 4, 7 and 8: it can if its mirror image can open emphasis.
abbrev pub may_close : ℕ → Neighbour → Neighbour → Bool
may_close c before after = may_open c after before

-- A delimiter run: its character, its length, how many of its characters are left, and whether it can open and can close
-- emphasis.
pub record Run : Type 0 where
  pub character : ℕ
  pub whole : ℕ
  pub left : ℕ
  pub opens : Bool
  pub closes : Bool

abbrev pub is_multiple_of_3 : ℕ → Bool
is_multiple_of_3 n = n % 3 == 0

abbrev pub is_both : Run → Bool
is_both run = run.opens && run.closes

-- Rules 9 and 10: an opener and a closer have the same character. If one of the delimiters can both open and close emphasis, then
-- the sum of the lengths of the delimiter runs containing the opening and closing delimiters must not be a multiple of 3 unless
-- both lengths are multiples of 3. Runs of tildes have no such rule.
unfoldable pub delimiters_match : Run → Run → Bool
delimiters_match closer opener =
    closer.character == opener.character
    && (closer.character == byte "~"
    || not (is_both closer || is_both opener)
    || not (is_multiple_of_3 (closer.whole + opener.whole))
    || (is_multiple_of_3 closer.whole && is_multiple_of_3 opener.whole))
