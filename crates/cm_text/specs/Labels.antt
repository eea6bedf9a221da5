-- How labels are compared (CommonMark 0.31.2, 6.3 Links): "perform the Unicode case fold, strip leading and
-- trailing spaces, tabs, and line endings, and collapse consecutive internal spaces, tabs, and line endings to a
-- single space".
use Rattle.std.specs.Prelude.{ℕ, Bool, true, false, ◌==◌, ◌||◌, List, [], ◌∷◌, chars, encode_utf8_all, if◌then◌else◌}
use Rattle.std.specs.Str.{byte}
use Rattle.caseless.specs.Caseless.{default_case_fold}
use Rattle.cm_text.specs.LineText.{is_line_ending}
use Rattle.cm_text.specs.Trims.{skip, trim_end_by}

-- a space, a tab or a line ending
abbrev pub is_gap : ℕ → Bool
is_gap b = b == byte " " || b == byte "\t" || is_line_ending b

-- the Unicode case fold: full case folding, character by character
unfoldable pub case_fold : List ℕ → List ℕ
case_fold text = encode_utf8_all (default_case_fold (chars text))

-- A text with each run of gaps as a single space; the mark says that a gap came before the text.
abbrev pub collapse_after : (after_gap : Bool) → List ℕ → List ℕ
collapse_after after_gap [] = []
collapse_after after_gap (b ∷ bs) =
    if is_gap b then (if after_gap then collapse_after true bs else byte " " ∷ collapse_after true bs)
    else b ∷ collapse_after false bs

-- a text with each run of gaps as a single space
abbrev pub collapse : List ℕ → List ℕ
collapse text = collapse_after false text

-- a text without gaps at its ends, and with each run of gaps inside as a single space
unfoldable pub settle_gaps : List ℕ → List ℕ
settle_gaps text = collapse (trim_end_by is_gap (skip is_gap text))

-- a label as it is compared
unfoldable pub fold_label : List ℕ → List ℕ
fold_label label = settle_gaps (case_fold label)
