-- What a line starts, as the code has it.
use Rattle.std.specs.Prelude.{ℕ, ◌==◌, ◌||◌, Bool}
use Rattle.cm_scan.specs.blocks.HtmlKinds.{kind_of}
use Rattle.cm_scan.specs.blocks.Starts as starts
use Rattle.cm_block.specs.declared.counted_line.starts.Start.{Start}
use Rattle.cm_block.specs.declared.counted_line.starts.Start.TheVariants.{IndentedCode, QuoteMarker, Atx, Fence as FenceStart, Html, Break, Item, TextLine}

abbrev pub seen : Start → starts.Start
seen IndentedCode = starts.IndentedCode
seen QuoteMarker = starts.QuoteMarker
seen (Atx heading) = starts.AtxHeading (record { level = heading.level; content = heading.content.now })
seen (FenceStart fence) = starts.OpeningFence (record { marker = fence.kind.marker; count = fence.kind.count; info = fence.info.now })
seen (Html kind) = starts.HtmlStart (kind_of kind)
seen Break = starts.BreakLine
seen (Item marker) = starts.ItemStart (record { kind = marker.kind; digits = marker.digits })
seen TextLine = starts.TextLine

-- what a thematic break, and what a fence may start with, in any text
abbrev pub begins_break : ℕ → Bool
begins_break b = b == 45 || b == 95 || b == 42 || b == 32 || b == 9

abbrev pub begins_fence : ℕ → Bool
begins_fence b = b == 96 || b == 126
