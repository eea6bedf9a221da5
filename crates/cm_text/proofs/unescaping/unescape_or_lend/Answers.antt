use Rattle.std.proofs.Common.{sym}
use Rattle.cm_text.proofs.lemmas.UnescapingLemmas.{run-whole}
use Rattle.cm_text.proofs.unescaping.unescape_or_lend.Goals as goal

pub returns-in-None : goal.returns-in-None
returns-in-None c = record { unescaped = sym (run-whole c.args.text.now c.as_bytes.result.now c.as_bytes.ensures.value c.in-None.ensures.found) }
