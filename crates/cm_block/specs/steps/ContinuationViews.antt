-- Starts of containers and continuations in them, as the code has them.
use Rattle.std.specs.Prelude.{◌≡◌, ℕ, ◌+◌, ◌<◌, ◌≤◌, ◌==◌, Bool, true, false, not, List, [], ◌∷◌, length, get_or, Some, nat_le, if◌then◌else◌}
use Rattle.cm_text.specs.Lines.{LineView}
use Rattle.cm_block.specs.declared.stack.Stays as code_stays
use Rattle.cm_block.specs.declared.stack.Stays.TheVariants as stay
use Rattle.cm_scan.specs.declared.markers.ItemMarker as code
use Rattle.cm_scan.specs.Words.{is_space_or_tab, begins_with, run_length}
use Rattle.cm_scan.specs.blocks.LineForms.{ItemMarker, item_marker}
use Rattle.cm_text.specs.declared.view.View.{View}
use Rattle.cm_text.specs.Rules.{Rules}
use Rattle.cm_tree.specs.declared.tree.ListKind.{ListKind}
use Rattle.cm_scan.specs.blocks.Lines.{is_blank}
use Rattle.cm_scan.specs.blocks.Starts.{Start, QuoteMarker, ItemStart, Continuation, Stays, start_of, content_column, first_content}

-- it starts a quote
abbrev pub begins_quote : Start → Bool
begins_quote QuoteMarker = true
begins_quote _ = false

abbrev pub seen_marker : code.ItemMarker → ItemMarker
seen_marker marker = record { kind = marker.kind; digits = marker.digits }

-- the line stays in the container and enters it as this line, or else has the other continuation
abbrev pub IsInside : (inside : Bool) → (continuation otherwise : Continuation) → (inner : LineView) → Type 0
IsInside true continuation otherwise inner = continuation ≡ Stays inner
IsInside false continuation otherwise inner = continuation ≡ otherwise

abbrev pub stays : code_stays.Stays → Bool
stays stay.Inside = true
stays stay.Lazily = true
stays stay.Leaves = false

-- it starts with something other than a space or a tab
abbrev pub begins_plain : List ℕ → Bool
begins_plain [] = false
begins_plain (b ∷ bs) = not (is_space_or_tab b)

-- By its first bytes the text may close a fence of this marker: it starts with the marker, or with a space or a tab, though not with four
-- spaces, or is empty.
abbrev pub may_close_fence : (marker : ℕ) → List ℕ → Bool
may_close_fence marker text = if begins_plain text then begins_with marker text else not (nat_le 4 (run_length 32 text))

-- The text starts with this marker, which ends at a place, with one space there, and then a byte that is neither blank nor the first of
-- the text.
pub record PlainMarker (text : List ℕ) (m : ItemMarker) (end : ℕ) : Type 0 where
  pub marks : item_marker text ≡ Some m
  pub ends : end ≡ m.digits + 1
  pub within : end + 1 < length text
  pub space : get_or text end 0 ≡ 32
  pub plain : is_space_or_tab (get_or text (end + 1) 0) ≡ false
  pub other : (get_or text (end + 1) 0 == get_or text 0 0) ≡ false

-- so does a line, which isn't lazy, after at most 3 columns
pub record StartsPlainly (line : View) (m : ItemMarker) (end : ℕ) : Type 0 where
  pub eager : line.lazy ≡ false
  pub near : line.spaces ≤ 3
  pub at : PlainMarker line.rest.now m end

-- The line starts an item of this kind, with something on its line: the content starts at this column, and the line enters it as this
-- one.
pub record StartsItem (line : LineView) (kind : ListKind) (column : ℕ) (inner : LineView) : Type 0 where
  pub marker : ItemMarker
  pub starts : (rules : Rules) → start_of rules line ≡ ItemStart marker
  pub kind_is : marker.kind ≡ kind
  pub column_is : content_column marker line ≡ column
  pub inner_is : first_content marker line ≡ inner
  pub some : is_blank line ≡ false
  pub more : is_blank inner ≡ false
