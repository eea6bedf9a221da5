use Rattle.std.proofs.Common.{◌≡◌, ◌+◌, ◌<◌, ◌^◌, length}
use Rattle.cm_scan.specs.blocks.Blocks.{line_feeds}
use Rattle.cm_block.proofs.text_runs.line_feeds.Given as goal

-- the line feeds so far, and those to come
abbrev pub invariant-loop : goal.invariant-loop
invariant-loop l = (l.count + length l.iterator' ≡ line_feeds l.text) × (line_feeds l.text < 2 ^ 63)
