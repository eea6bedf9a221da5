use Rattle.cm_html.proofs.lemmas.EscapeLemmas.{has_escape_ascii, quote_byte-plain}
use Rattle.cm_html.proofs.quoting.push_quoted.Goals as goal

pub push_replaced-requires-clause-ascii : goal.push_replaced-requires-clause-ascii
push_replaced-requires-clause-ascii c = has_escape_ascii

pub push_replaced-requires-clause-others : goal.push_replaced-requires-clause-others
push_replaced-requires-clause-others c = quote_byte-plain
