use Rattle.cm_inline.proofs.lemmas.Words.{IsCharBoundary-start}
use Rattle.cm_inline.proofs.reading.first_text_end.Goals as goal

pub text_end-requires : goal.text_end-requires
text_end-requires c = IsCharBoundary-start c.args.source.now c.utf8.source
