use Rattle.std.proofs.Common.{Some, ap, sym, ◌∙◌}
use Rattle.cm_source.proofs.lemmas.refusals.RefusalLemmas.{last-is}
use Rattle.cm_source.proofs.inline_refusals.faces.last_face.Goals as goal

pub returns-in-Some : goal.returns-in-Some
returns-in-Some c = λ rules. ap Some (c.face_of.ensures rules) ∙ sym (last-is rules c.args.inlines.now c.in-Some.last.now c.in-Some.ensures.value)
