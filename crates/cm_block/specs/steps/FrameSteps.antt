-- Steps of the code over the open containers in a row.
use Rattle.std.specs.Prelude.{◌≡◌, ℕ, suc, ◌+◌, Bool, true, false, ◌&&◌, List, [], ◌∷◌, take, drop, Option, Some, None}
use Rattle.cm_text.specs.Rules.{Rules}
use Rattle.cm_text.specs.Lines.{LineView}
use Rattle.cm_tree.specs.declared.tree.Block.TheVariants.{Quote}
use Rattle.cm_scan.specs.blocks.Starts.{Continuation, continuation_if_lazy, continuation_in_quote, continuation_in_item}
use Rattle.cm_scan.specs.laws.PartLaws.{goes_inward}
use Rattle.cm_block.specs.Level.{Level, closed_blocks, block_closes, item_closes}
use Rattle.cm_block.specs.Stack.{Stack, item_of, stack}
use Rattle.cm_tree.specs.declared.tree.ListKind.{ListKind}
use Rattle.cm_block.specs.Frames.{a_quote, an_item, Container, Frame, Row, is_last, opened}
use Rattle.cm_block.specs.steps.LevelSteps.{has_list_of}

abbrev pub continuation_in : Rules → Container → (bare : Bool) → LineView → Continuation
continuation_in rules a_quote bare line = continuation_in_quote rules line
continuation_in rules (an_item kind column) bare line = continuation_in_item rules column bare line

-- the line as it goes into the container, if it stays there
unfoldable pub inward : Rules → Container → (bare open_text : Bool) → LineView → Option LineView
inward rules container bare open_text line = goes_inward (continuation_in rules container bare line) open_text

-- how many of the containers the line stays in, and the line as it goes into the last of these
unfoldable pub matching : Rules → (bare open_text : Bool) → List Frame → LineView → ℕ × LineView
matching rules bare open_text [] line = (0, line)
matching rules bare open_text (f ∷ fs) line = elim (inward rules f.container (bare && is_last fs) open_text line) [
  | Some inner ↦ let inside = matching rules bare open_text fs inner in (suc inside.0, inside.1)
  | None ↦ (0, line)
]

-- after the given number of containers
abbrev pub beyond : ℕ → ℕ × LineView → ℕ × LineView
beyond n m = (n + m.0, m.1)

-- after the given number of these containers comes one in which the line doesn't stay by itself
abbrev pub LeavesNext : List Frame → ℕ → LineView → Type 0
LeavesNext frames n line =
    (f : Frame) × ((drop n frames ≡ f ∷ drop (suc n) frames) × ((rules : Rules) → continuation_in rules f.container false line ≡ continuation_if_lazy rules line))

abbrev pub quoted_in : Container → Bool → Bool
quoted_in a_quote quoted = true
quoted_in (an_item kind column) quoted = quoted

-- inside a quote, where these containers are in one or not
unfoldable pub quoted_by : Bool → List Frame → Bool
quoted_by quoted [] = quoted
quoted_by quoted (f ∷ fs) = quoted_by (quoted_in f.container quoted) fs

-- the level that contains the container, once that is closed
abbrev pub close_container : Container → Level → Level → Level
close_container a_quote outside inside = block_closes outside (Quote (closed_blocks inside))
close_container (an_item kind column) outside inside = item_closes outside (item_of inside)

-- the level that contains the first of these containers, once all are closed
unfoldable pub close_frames : List Frame → Level → Level
close_frames [] level = level
close_frames (f ∷ fs) level = close_container f.container f.level (close_frames fs level)

-- the row once the containers after this number are closed
abbrev pub closed_to : ℕ → Row → Row
closed_to depth row = record { frames = take depth row.frames; bare = row.bare; level = close_frames (drop depth row.frames) row.level }

-- the container is an item in this level, and one of this kind continues its list
abbrev pub is_continued_by : ListKind → Container → Level → Bool
is_continued_by kind a_quote level = false
is_continued_by kind (an_item k column) level = has_list_of level kind

-- what a stack in the innermost of these containers is to the document
unfoldable pub within : List Frame → Stack → Stack
within [] inside = inside
within (f ∷ fs) inside = let i = within fs inside in stack f.level (opened f.container false i.level i.now) i.owned
