use Rattle.cm_html.proofs.lemmas.EscapeLemmas.{escaped_ascii, escape_byte-plain}
use Rattle.cm_html.proofs.escape.push_with_references.Goals as goal

pub push_replaced-requires-clause-ascii : goal.push_replaced-requires-clause-ascii
push_replaced-requires-clause-ascii c = escaped_ascii

pub push_replaced-requires-clause-others : goal.push_replaced-requires-clause-others
push_replaced-requires-clause-others c = escape_byte-plain
