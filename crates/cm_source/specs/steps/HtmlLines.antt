-- The lines of an HTML block that ends with its last line.
use Rattle.std.specs.Prelude.{ℕ, Bool, true, false, not, ◌&&◌, if◌then◌else◌, List, [], ◌∷◌, Option, Some, None}
use Rattle.cm_scan.specs.Words.{is_blank_text}
use Rattle.cm_scan.specs.blocks.HtmlBlocks.{HtmlKind, is_html_end, ends_at_blank_line}

-- a line in a block of a kind: it isn't blank, or it meets the end condition just where it is the last
abbrev pub ends_as_last : Bool → (last : Bool) → Bool
ends_as_last ends true = ends
ends_as_last ends false = not ends

unfoldable pub fits : HtmlKind → List ℕ → (last : Bool) → Bool
fits kind line last = if ends_at_blank_line kind then not (is_blank_text line) else ends_as_last (is_html_end kind line) last

abbrev pub is_none_left : List (List ℕ) → Bool
is_none_left [] = true
is_none_left (line ∷ lines) = false

abbrev pub all_fit : HtmlKind → List (List ℕ) → Bool
all_fit kind [] = true
all_fit kind (line ∷ lines) = fits kind line (is_none_left lines) && all_fit kind lines

abbrev pub fit_from : Option HtmlKind → List (List ℕ) → Bool
fit_from None lines = false
fit_from (Some kind) lines = all_fit kind lines
