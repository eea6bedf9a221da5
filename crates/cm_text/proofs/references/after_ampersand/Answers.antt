use Rattle.std.proofs.Common.{sym, ap, refl, ◌∙◌, arith}
use Rattle.cm_text.specs.ReferenceReach.{reference_reach}
use Rattle.cm_text.proofs.lemmas.ReferenceLemmas.{reference-named}
use Rattle.cm_text.proofs.lemmas.ReferenceReach.{begins_reach}
use Rattle.cm_text.proofs.references.after_ampersand.Goals as goal

pub returns-then-not-begins_with-clause-read : goal.returns-then-not-begins_with-clause-read
returns-then-not-begins_with-clause-read g c = c.named.ensures.read ∙ sym (reference-named c.args.text.now (sym c.begins_with.ensures.begins ∙ c.if-not-begins_with.true))

pub returns-clause-looks : goal.returns-clause-looks
returns-clause-looks g c =
    let first = begins_reach 35 c.args.text.now refl (sym c.begins_with.ensures.begins ∙ c.if-not-begins_with.false) in
    omega (arith, first, ap reference_reach c.after.ensures, c.begins_with.ensures.looks, c.after_number_sign.ensures.looks)
