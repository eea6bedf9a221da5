use Rattle.std.proofs.Common.{sym, ◌∙◌, [], ◌∷◌}
use Rattle.cm_text.proofs.lemmas.UnescapingLemmas.{special-escape, special-reference}
use Rattle.cm_text.proofs.unescaping.special.Goals as goal

pub returns-in-Some : goal.returns-in-Some
returns-in-Some c = record { read = special-escape c.args.text.now (c.in-Some.first ∷ []) 2 c.in-Some.ensures.read }

pub returns : goal.returns
returns c = record { read = c.reference.ensures.read ∙ sym (special-reference c.args.text.now c.in_default.ensures.read) }
