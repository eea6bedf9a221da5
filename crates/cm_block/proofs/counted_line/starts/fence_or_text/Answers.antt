use Rattle.std.proofs.lemmas.Str.{IsCharBoundary-start}
use Rattle.cm_block.proofs.counted_line.starts.fence_or_text.Goals as goal

pub fence-requires : goal.fence-requires
fence-requires c = record { boundary = IsCharBoundary-start c.args.text.now c.utf8.text }
