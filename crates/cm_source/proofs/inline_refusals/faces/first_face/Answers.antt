use Rattle.std.proofs.Common.{Some, map, ap, sym, ◌∙◌}
use Rattle.cm_source.specs.InlineRefusals.{judged, first_face}
use Rattle.cm_source.proofs.lemmas.refusals.RefusalLemmas.{first-item}
use Rattle.cm_source.proofs.inline_refusals.faces.first_face.Goals as goal

pub returns-in-Some : goal.returns-in-Some
returns-in-Some c = λ rules.
    let first = first-item c.args.inlines.now c.in-Some.first.now c.in-Some.ensures.value in
    ap Some (c.face_of.ensures rules) ∙ sym (ap (λ l. first_face (map (judged rules) l)) first.1)
