use Rattle.std.proofs.Common.{sym, ◌∙◌}
use Rattle.cm_source.proofs.lemmas.spelling.SpelledTexts.{no-runs}
use Rattle.cm_source.proofs.texts.longest_run.Goals as goal

pub returns-else-has_byte-clause-longest : goal.returns-else-has_byte-clause-longest
returns-else-has_byte-clause-longest c = no-runs c.args.text.now (sym c.has_byte.ensures ∙ c.if-has_byte.false)
