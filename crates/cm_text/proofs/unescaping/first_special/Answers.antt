use Rattle.memchr.specs.Find.{is_byte2}
use Rattle.cm_text.proofs.lemmas.SearchLemmas.{first-byte}
use Rattle.cm_text.proofs.unescaping.first_special.Goals as goal

pub returns : goal.returns
returns c = record { found = first-byte (is_byte2 92 38) c.args.text.now c.next_of-at.result c.then_some.result c.next_of-at.ensures.next c.then_some.ensures }
