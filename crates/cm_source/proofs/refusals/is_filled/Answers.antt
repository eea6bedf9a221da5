use Rattle.std.proofs.Common.{map, not, length, ◌==◌, ap, sym, ◌∙◌}
use Rattle.cm_source.specs.Refusals.{judged_block, is_filled}
use Rattle.cm_source.proofs.lemmas.refusals.RefusalLemmas.{first-item}
use Rattle.cm_source.proofs.lemmas.refusals.BlockRefusals.{filled-first}
use Rattle.cm_source.proofs.refusals.is_filled.Goals as goal

pub returns-in-Some : goal.returns-in-Some
returns-in-Some c = λ rules.
    let first = first-item c.args.items.now c.in-Some.item.now c.in-Some.ensures.value in
    ap not (c.is_empty.ensures ∙ ap (λ blocks. length blocks == 0) c.deref.ensures) ∙ filled-first rules c.in-Some.item.now first.0 ∙ sym (ap (λ l. is_filled (map (map (judged_block rules)) l)) first.1)
