use Rattle.std.proofs.lemmas.Str.{IsCharBoundary-start}
use Rattle.cm_block.proofs.counted_line.starts.heading_or_text.Goals as goal

pub atx-requires : goal.atx-requires
atx-requires c = record { boundary = IsCharBoundary-start c.args.text.now c.utf8.text }
