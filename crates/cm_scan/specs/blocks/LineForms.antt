-- What one line is by itself, after its indentation (CommonMark 0.31.2, chapters 4 and 5).
use Rattle.std.specs.Prelude.{ℕ, suc, ◌+◌, ◌-◌, ◌*◌, Bool, true, false, not, ◌&&◌, ◌||◌, List, [], ◌∷◌, length, Option, Some, None, ◌==◌, nat_le, if◌then◌else◌, count_by}
use Rattle.std.specs.List.{list_any, list_all, fold}
use Rattle.std.specs.Str.{byte}
use Rattle.std.specs.Char.{is_ascii_digit}
use Rattle.cm_tree.specs.declared.tree.ListKind.{ListKind}
use Rattle.cm_tree.specs.declared.tree.ListKind.TheVariants.{Dash, Plus, Star, Dot, Paren}
use Rattle.cm_scan.specs.Words.{is_space_or_tab, is_blank_text, is_at_gap, skip, front_of, run_length, after_run, trim, given, ◌<|>◌, ◌and_then◌}

-- how many of its character a thematic break has at least
abbrev pub fewest_marks : ℕ
fewest_marks = 3

-- so many of one character, with spaces and tabs between and after them
abbrev pub is_break_of : ℕ → List ℕ → Bool
is_break_of marker text = list_all (λ b. b == marker || is_space_or_tab b) text && nat_le fewest_marks (count_by (λ b. b == marker) text)

-- a thematic break: three or more `-`, `_` or `*`, with spaces and tabs between and after them (4.1 Thematic breaks)
unfoldable pub is_thematic_break : List ℕ → Bool
is_thematic_break text = is_break_of (byte "-") text || is_break_of (byte "_") text || is_break_of (byte "*") text

-- the level and the content of a heading (4.2 ATX headings)
pub record Heading : Type 0 where
  pub level : ℕ
  pub content : List ℕ

-- A text without a closing run of `#`, if a space, a tab or nothing comes before that. The text ends in neither space nor
-- tab; the mark says that a space, a tab or nothing comes before it.
unfoldable pub without_closing : (after_gap : Bool) → List ℕ → List ℕ
without_closing after_gap [] = []
without_closing after_gap (b ∷ bs) =
    if after_gap && list_all (λ c. c == byte "#") (b ∷ bs) then [] else b ∷ without_closing (is_space_or_tab b) bs

-- an ATX heading: one to six `#`, followed by a space, a tab or the end of the line (4.2 ATX headings)
unfoldable pub atx_heading : List ℕ → Option Heading
atx_heading text =
    let level = run_length (byte "#") text in
    let beyond = after_run (byte "#") text in
    given (nat_le 1 level && nat_le level 6 && is_at_gap beyond) (record { level = level; content = trim (without_closing true (trim beyond)) })

-- one character alone, and spaces and tabs after it
abbrev pub is_underline_of : ℕ → List ℕ → Bool
is_underline_of marker text = nat_le 1 (run_length marker text) && is_blank_text (after_run marker text)

-- the level that an underline gives: 1 for `=`, 2 for `-` (4.3 Setext headings)
unfoldable pub underline : List ℕ → Option ℕ
underline text = given (is_underline_of (byte "=") text) 1 <|> given (is_underline_of (byte "-") text) 2

-- the character of a code fence, how many there are, and the info string (4.5 Fenced code blocks)
pub record Fence : Type 0 where
  pub marker : ℕ
  pub count : ℕ
  pub info : List ℕ

-- a fence of three or more of this character
unfoldable pub fence_of : ℕ → List ℕ → Option Fence
fence_of marker text =
    let count = run_length marker text in
    given (nat_le 3 count) (record { marker = marker; count = count; info = trim (after_run marker text) })

-- after backticks the info string has no backtick
abbrev pub backticks_or : Option Fence → Option Fence → Option Fence
backticks_or (Some fence) other = given (not (list_any (λ b. b == byte "`") fence.info)) fence
backticks_or None other = other

-- an opening code fence: three or more backticks or tildes; after backticks the info string has no backtick (4.5 Fenced code
-- blocks)
unfoldable pub opening_fence : List ℕ → Option Fence
opening_fence text = backticks_or (fence_of (byte "`") text) (fence_of (byte "~") text)

-- a closing code fence: at least as many of the same character, followed only by spaces and tabs (4.5 Fenced code blocks)
unfoldable pub is_closing_fence : Fence → List ℕ → Bool
is_closing_fence fence text = nat_le fence.count (run_length fence.marker text) && is_blank_text (after_run fence.marker text)

-- a list marker: the kind of its list with the value of its number, and how many digits that has (5.2 List items)
pub record ItemMarker : Type 0 where
  pub kind : ListKind
  pub digits : ℕ

-- how many bytes a list marker has
abbrev pub marker_width : ItemMarker → ℕ
marker_width marker = suc marker.digits

-- `-`, `+` or `*`
abbrev pub bullet_kind : ℕ → Option ListKind
bullet_kind b = given (b == byte "-") Dash <|> given (b == byte "+") Plus <|> given (b == byte "*") Star

-- `.` or `)` after a number
abbrev pub ordered_kind : ℕ → ℕ → Option ListKind
ordered_kind number b = given (b == byte ".") (Dot number) <|> given (b == byte ")") (Paren number)

-- a marker that a space, a tab or the end of the line follows
abbrev pub marker_at_gap : Option ListKind → ℕ → List ℕ → Option ItemMarker
marker_at_gap kind digits beyond = kind and_then λ k. given (is_at_gap beyond) (record { kind = k; digits = digits })

-- a bullet list marker
unfoldable pub bullet_marker : List ℕ → Option ItemMarker
bullet_marker [] = None
bullet_marker (b ∷ bs) = marker_at_gap (bullet_kind b) 0 bs

-- the number that decimal digits write
abbrev pub decimal_value : List ℕ → ℕ
decimal_value digits = fold (λ n b. n * 10 + (b - 48)) 0 digits

-- the most digits that the number of a list has (5.2 List items)
abbrev pub most_digits : ℕ
most_digits = 9

-- 1 to 9 digits
abbrev pub is_number : List ℕ → Bool
is_number digits = nat_le 1 (length digits) && nat_le (length digits) most_digits

-- an ordered list marker with these digits
unfoldable pub marker_after : List ℕ → List ℕ → Option ItemMarker
marker_after digits [] = None
marker_after digits (b ∷ bs) = elim (is_number digits) [
  | true ↦ marker_at_gap (ordered_kind (decimal_value digits) b) (length digits) bs
  | false ↦ None
]

-- an ordered list marker
unfoldable pub ordered_marker : List ℕ → Option ItemMarker
ordered_marker text = marker_after (front_of is_ascii_digit text) (skip is_ascii_digit text)

-- a list marker, followed by a space, a tab or the end of the line (5.2 List items)
unfoldable pub item_marker : List ℕ → Option ItemMarker
item_marker text = bullet_marker text <|> ordered_marker text

-- Two items are in one list if they have the same bullet, or the same delimiter after their numbers (5.3 Lists).
abbrev pub is_same_kind : ListKind → ListKind → Bool
is_same_kind Dash Dash = true
is_same_kind Plus Plus = true
is_same_kind Star Star = true
is_same_kind (Dot m) (Dot n) = true
is_same_kind (Paren m) (Paren n) = true
is_same_kind _ _ = false
