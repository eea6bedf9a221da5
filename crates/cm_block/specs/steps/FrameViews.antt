-- The open containers as the code has them.
use Rattle.std.specs.Prelude.{ℕ, ◌+◌, List, [], ◌∷◌, map, ⊤}
use Rattle.cm_tree.specs.RawBlocks.{Raw}
use Rattle.cm_block.specs.declared.stack.Container as code_container
use Rattle.cm_block.specs.declared.stack.Container.TheVariants as variants
use Rattle.cm_block.specs.declared.stack.Frame as code
use Rattle.cm_block.specs.Frames.{Container, a_quote, an_item, Frame}
use Rattle.cm_block.specs.steps.LevelViews.{level_in, IsLevelPlaced}

abbrev pub container_of : code_container.Container → Container
container_of variants.Quote = a_quote
container_of (variants.Item kind column) = an_item kind column

abbrev pub frame_in : Raw → code.Frame → Frame
frame_in raw frame = record { level = level_in raw frame.level; container = container_of frame.container }

abbrev pub frames_in : Raw → List code.Frame → List Frame
frames_in raw frames = map (frame_in raw) frames

-- how many of the containers are quotes
abbrev pub quotes_of : Container → ℕ
quotes_of a_quote = 1
quotes_of (an_item kind column) = 0

abbrev pub quotes_in : List code.Frame → ℕ
quotes_in [] = 0
quotes_in (frame ∷ frames) = quotes_of (container_of frame.container) + quotes_in frames

-- what the blocks of their levels are made of is there
abbrev pub AreFramesPlaced : Raw → List code.Frame → Type 0
AreFramesPlaced raw [] = ⊤
AreFramesPlaced raw (frame ∷ frames) = IsLevelPlaced raw frame.level × AreFramesPlaced raw frames
