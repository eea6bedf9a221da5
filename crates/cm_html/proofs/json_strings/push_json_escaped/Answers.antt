use Rattle.cm_html.proofs.lemmas.EscapeLemmas.{has_json_escape_ascii, json_byte-plain}
use Rattle.cm_html.proofs.json_strings.push_json_escaped.Goals as goal

pub push_replaced-requires-clause-ascii : goal.push_replaced-requires-clause-ascii
push_replaced-requires-clause-ascii c = has_json_escape_ascii

pub push_replaced-requires-clause-others : goal.push_replaced-requires-clause-others
push_replaced-requires-clause-others c = json_byte-plain
