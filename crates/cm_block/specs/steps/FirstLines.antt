-- The first line of a leaf block, as the code has it.
use Rattle.std.specs.Prelude.{◌≡◌, ℕ, Bool, true, false, not, ◌||◌, List, [], ◌∷◌, Option, Some, None, is_some}
use Rattle.std.specs.Option.{option_map}
use Rattle.cm_text.specs.Rules.{Rules}
use Rattle.cm_text.specs.Lines.{LineView}
use Rattle.cm_text.specs.Views.{seen_view}
use Rattle.cm_scan.specs.blocks.Lines.{is_blank}
use Rattle.cm_scan.specs.blocks.Parts.{LeafPart, heading, thematic_break}
use Rattle.cm_scan.specs.blocks.Starts.{Start, QuoteMarker, AtxHeading, BreakLine, ItemStart, start_of}
use Rattle.cm_block.specs.declared.line_tests.Begins.{Begins}
use Rattle.cm_block.specs.declared.line_tests.Begins.TheVariants.{Nothing, Quote, Item, Leaf}
use Rattle.cm_block.specs.declared.counted_line.readings.Starts.{Starts}
use Rattle.cm_block.specs.declared.counted_line.readings.Starts.TheVariants as starts
use Rattle.cm_block.specs.declared.open_leaf.OpenLeaf.{OpenLeaf}
use Rattle.cm_block.specs.declared.open_leaf.LeafLine.{LeafLine}
use Rattle.cm_block.specs.OpenLeaf.{LineOpens, begins_leaf, begins_quote, begins_item, begin_of_start, begin_of}
use Rattle.cm_block.specs.steps.StartViews.{seen}
use Rattle.cm_block.specs.steps.ContinuationViews.{seen_marker}
use Rattle.cm_block.specs.steps.LeafSteps.{taken_of}

-- what a line starts, where it is this to the leaf that is open then
abbrev pub first_of : LeafLine → OpenLeaf → Option LineOpens
first_of first now = option_map begins_leaf (taken_of first now)

-- the line starts with the marker of a quote or an item
abbrev pub begins_container : Start → Bool
begins_container QuoteMarker = true
begins_container (ItemStart marker) = true
begins_container _ = false

-- the leaf that the line is by itself
abbrev pub whole_leaf : Start → Option LeafPart
whole_leaf (AtxHeading h) = Some (heading h.level h.content)
whole_leaf BreakLine = Some thematic_break
whole_leaf _ = None

abbrev pub is_whole : Start → Bool
is_whole start = is_some (whole_leaf start)

abbrev pub of_one_line : Option LeafPart → List (LeafPart × ℕ)
of_one_line None = []
of_one_line (Some x) = (x, 1) ∷ []

abbrev pub whole_leaves : Start → List (LeafPart × ℕ)
whole_leaves start = of_one_line (whole_leaf start)

-- the line opens a leaf that further lines may continue
abbrev pub opens_leaf : Start → Bool
opens_leaf start = not (is_whole start || begins_container start)

-- what the line starts, where that is no quote
abbrev pub IsStart : Rules → LineView → Starts → Type 0
IsStart rules line (starts.Item marker searched) = (start_of rules line ≡ ItemStart (seen_marker marker)) × (seen_view searched.view ≡ line)
IsStart rules line (starts.Leaf start) = (start_of rules line ≡ seen start.found) × (begins_container (seen start.found) ≡ false)

-- what the line starts, and how it continues
abbrev pub Found : Rules → LineView → Begins → LineView → Type 0
Found rules line Nothing now = (is_blank line ≡ true) × (now ≡ line)
Found rules line Quote now = (is_blank line ≡ false) × (begin_of rules line ≡ begins_quote now)
Found rules line (Item kind column bare) now = (is_blank line ≡ false) × ((begin_of rules line ≡ begins_item kind column now) × (bare ≡ is_blank now))
Found rules line (Leaf start) now =
    (is_blank line ≡ false) × ((begin_of rules line ≡ begin_of_start rules (seen start.found) line) × ((begins_container (seen start.found) ≡ false) × (now ≡ line)))
