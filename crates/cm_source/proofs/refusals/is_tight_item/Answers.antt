use Rattle.std.proofs.Common.{map, ◌&&◌, sym, ap, ◌∙◌}
use Rattle.cm_source.specs.Refusals.{can_follow, is_tight_item, faces, judged_block}
use Rattle.cm_source.specs.steps.BlockFaces.{is_paragraph}
use Rattle.cm_source.proofs.lemmas.refusals.BlockRefusals.{pair-of, tight-pair}
use Rattle.cm_source.proofs.refusals.is_tight_item.Goals as goal

pub returns-then-is_paragraph : goal.returns-then-is_paragraph
returns-then-is_paragraph c = λ rules.
    let first = (judged_block rules c.first-item.result).face in
    let next = (judged_block rules c.next-item.result).face in
    let opens = sym (ap is_paragraph (c.face_of.ensures rules)) ∙ sym c.is_paragraph.ensures ∙ c.if-is_paragraph.true in
    let pair = pair-of c.args.blocks.now c.first-item.result c.next-item.result c.in-len2.len_at_least c.in-len2.len_below c.first-item.is c.next-item.is in
    c.can_follow.ensures ∙ ap can_follow (c.face_of-then-is_paragraph.ensures rules) ∙ ap (λ v. v && can_follow next) (sym opens) ∙ sym (tight-pair first next)
    ∙ sym (ap (λ l. is_tight_item (faces (map (judged_block rules) l))) pair)

pub returns-else-is_paragraph : goal.returns-else-is_paragraph
returns-else-is_paragraph c = λ rules.
    let first = (judged_block rules c.first-item.result).face in
    let next = (judged_block rules c.next-item.result).face in
    let opens = sym (ap is_paragraph (c.face_of.ensures rules)) ∙ sym c.is_paragraph.ensures ∙ c.if-is_paragraph.false in
    let pair = pair-of c.args.blocks.now c.first-item.result c.next-item.result c.in-len2.len_at_least c.in-len2.len_below c.first-item.is c.next-item.is in
    c.if-is_paragraph.false ∙ ap (λ v. v && can_follow next) (sym opens) ∙ sym (tight-pair first next) ∙ sym (ap (λ l. is_tight_item (faces (map (judged_block rules) l))) pair)
