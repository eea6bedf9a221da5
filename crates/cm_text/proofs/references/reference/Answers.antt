use Rattle.std.proofs.Common.{sym, ◌∙◌}
use Rattle.cm_text.proofs.lemmas.ReferenceLemmas.{reference-none}
use Rattle.cm_text.proofs.references.reference.Goals as goal

pub returns-then-not-begins_with-clause-read : goal.returns-then-not-begins_with-clause-read
returns-then-not-begins_with-clause-read g c = sym (reference-none c.args.text.now (sym c.begins_with.ensures.begins ∙ c.if-not-begins_with.true))
