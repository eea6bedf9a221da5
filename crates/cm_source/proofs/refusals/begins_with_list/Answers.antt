use Rattle.std.proofs.Common.{◌∷◌, map, ap, sym, ◌∙◌}
use Rattle.cm_source.specs.Refusals.{is_list, faces, judged_block}
use Rattle.cm_source.proofs.lemmas.refusals.RefusalLemmas.{first-item}
use Rattle.cm_source.proofs.lemmas.refusals.BlockRefusals.{no-list}
use Rattle.cm_source.proofs.refusals.begins_with_list.Goals as goal

pub returns-in-List : goal.returns-in-List
returns-in-List c = λ rules.
    let first = first-item c.args.item.now c.in-Some.first.now c.in-Some.ensures.value in
    ap (λ f. is_list (f ∷ faces (map (judged_block rules) first.0))) (c.in-List.ensures rules) ∙ sym (ap (λ l. is_list (faces (map (judged_block rules) l))) first.1)

pub returns-in_default : goal.returns-in_default
returns-in_default c = λ rules.
    let first = first-item c.args.item.now c.in-Some.first.now c.in-Some.ensures.value in
    no-list c.face_of.result (faces (map (judged_block rules) first.0)) c.in_default.not-List ∙ ap (λ f. is_list (f ∷ faces (map (judged_block rules) first.0))) (c.face_of.ensures rules)
    ∙ sym (ap (λ l. is_list (faces (map (judged_block rules) l))) first.1)
