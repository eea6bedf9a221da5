use Rattle.std.proofs.Common.{◌≡◌, ◌+◌, length, false}
use Rattle.cm_text.specs.Feed.{count}
use Rattle.cm_tool.proofs.lemmas.SliceLemmas.{PushedSoFar}
use Rattle.cm_tool.proofs.reading.parser.push.Given as goal

abbrev pub invariant-loop-slice : goal.invariant-loop-slice
invariant-loop-slice l = record {
  going : l.feed.ended ≡ false;
  limit : l.feed.limit ≡ l.initial.feed.limit;
  count : count l.feed + length l.rest ≡ count l.initial.feed + length l.piece;
  so_far : PushedSoFar l.initial.feed l.initial.blocks l.piece l.rest l.feed l.blocks;
}

abbrev pub decreases-loop-slice : goal.decreases-loop-slice
decreases-loop-slice l = length l.rest
