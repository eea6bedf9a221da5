-- Code spans (CommonMark 0.31.2, 6.1 Code spans).
use Rattle.std.specs.Prelude.{ℕ, zero, suc, Bool, true, false, not, ◌&&◌, List, [], ◌∷◌, map, Option, Some, None, ◌==◌, if◌then◌else◌}
use Rattle.std.specs.List.{list_all}
use Rattle.std.specs.Option.{option_map}
use Rattle.std.specs.Str.{byte}
use Rattle.cm_scan.specs.Words.{is_empty, begins_with, run_length, after_run}
use Rattle.cm_scan.specs.inlines.Links.{Reading, beyond}
use Rattle.cm_scan.specs.spans.Autolinks.{ends_with}

-- What comes before the next run of exactly the given number of backticks, and what is left after that run. The mark says that
-- a backtick comes before the text, so that no run starts here.
unfoldable pub up_to_run : ℕ → (in_run : Bool) → List ℕ → Option Reading
up_to_run n in_run [] = None
up_to_run n in_run (b ∷ bs) = elim (b == byte "`" && not in_run && run_length (byte "`") (b ∷ bs) == n) [
  | true ↦ Some (record { text = []; rest = after_run (byte "`") (b ∷ bs) })
  | false ↦ beyond b (up_to_run n (b == byte "`") bs)
]

-- line endings converted to spaces
abbrev pub one_line : List ℕ → List ℕ
one_line text = map (λ b. if b == byte "\n" then byte " " else b) text

unfoldable pub but_last : List ℕ → List ℕ
but_last [] = []
but_last (b ∷ bs) = elim (is_empty bs) [ true ↦ [] | false ↦ b ∷ but_last bs ]

abbrev pub but_ends : List ℕ → List ℕ
but_ends [] = []
but_ends (b ∷ bs) = but_last bs

-- a space removed from both ends, if both have one and not all characters are spaces
unfoldable pub stripped : List ℕ → List ℕ
stripped text = if begins_with (byte " ") text && ends_with (byte " ") text && not (list_all (λ b. b == byte " ") text) then but_ends text else text

-- what comes before the next string of the given number of backticks, at least one, as it is written
abbrev pub as_written : ℕ → List ℕ → Option Reading
as_written zero text = None
as_written (suc n) text = up_to_run (suc n) false text

-- a code span as it is written: what is between the two strings, and what is left after it
unfoldable pub spanned_as_written : List ℕ → Option Reading
spanned_as_written text = as_written (run_length (byte "`") text) (after_run (byte "`") text)

-- The content of a code span: line endings are converted to spaces, and if the result both begins and ends with a space
-- character, but does not consist entirely of space characters, a single space character is removed from the front and back.
abbrev pub span_content : Option Reading → Option Reading
span_content written = option_map (λ r. record { text = stripped (one_line r.text); rest = r.rest }) written

-- A code span begins with a backtick string and ends with a backtick string of equal length.
unfoldable pub code_span : List ℕ → Option Reading
code_span text = span_content (as_written (run_length (byte "`") text) (after_run (byte "`") text))
