-- How many block quotes and list items each line is in (CommonMark 0.31.2, chapter 5), which is known as soon as the
-- stack takes the line.
use Rattle.std.specs.Prelude.{◌≡◌, ℕ, suc, List, [], ◌∷◌, ◌++◌, length, Some, None, nat_lt, if◌then◌else◌}
use Rattle.std.specs.List.{position}
use Rattle.std.specs.Option.{option_map}
use Rattle.cm_text.specs.Rules.{Rules}
use Rattle.cm_text.specs.Lines.{LineView}
use Rattle.cm_scan.specs.blocks.Parts.{depths_of}
use Rattle.cm_scan.specs.blocks.Blocks.{parts_of, first_too_deep}
use Rattle.cm_scan.specs.laws.PartLaws.{AreLines}
use Rattle.cm_block.specs.Machine.{Open, in_leaf, in_quote, in_item}
use Rattle.cm_block.specs.Stack.{Stack, empty_stack, push_line, push_lines}

-- how many block quotes and items are open
unfoldable pub nesting : {A : Type 0} → Open A → ℕ
nesting (in_leaf x) = 0
nesting (in_quote closed now) = suc (nesting now)
nesting (in_item kind column bare closed now) = suc (nesting now)

-- how many are open after each line
unfoldable pub line_depths : Rules → Stack → List LineView → List ℕ
line_depths rules st [] = []
line_depths rules st (line ∷ lines) = let next = push_line rules st line in nesting next.now ∷ line_depths rules next lines

-- Each line is in as many block quotes and items as are open after it.
abbrev pub DepthsOfLines : Type 0
DepthsOfLines = (rules : Rules) (lines : List LineView) → AreLines lines → line_depths rules empty_stack lines ≡ depths_of (parts_of rules lines)

-- The first line after which more are open than the limit is the first that is too deep.
abbrev pub TooDeepAtOnce : Type 0
TooDeepAtOnce = (rules : Rules) (limit : ℕ) (lines : List LineView) → AreLines lines
    → first_too_deep rules limit lines ≡ option_map suc (position (λ depth. nat_lt limit depth) (line_depths rules empty_stack lines))

-- The first line that is too deep is the same with more lines.
abbrev pub TooDeepStays : Type 0
TooDeepStays = (rules : Rules) (limit n : ℕ) (lines more : List LineView) → AreLines (lines ++ more)
    → first_too_deep rules limit lines ≡ Some n → first_too_deep rules limit (lines ++ more) ≡ Some n

-- After lines that aren't too deep, the next one is too deep if more are open after it than the limit.
abbrev pub TooDeepNext : Type 0
TooDeepNext = (rules : Rules) (limit : ℕ) (lines : List LineView) (line : LineView) → AreLines (lines ++ line ∷ [])
    → first_too_deep rules limit lines ≡ None
    → first_too_deep rules limit (lines ++ line ∷ [])
    ≡ (if nat_lt limit (nesting (push_lines rules empty_stack (lines ++ line ∷ [])).now) then Some (suc (length lines)) else None)
