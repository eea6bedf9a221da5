use Rattle.std.proofs.Common.{Bool, ◌||◌, ◌+◌, List, map, drop, sym, ap, ◌∙◌}
use Rattle.std.specs.List.{list_any}
use Rattle.cm_tree.specs.declared.tree.Block.{Block}
use Rattle.cm_source.specs.Refusals.{is_list, faces, judged_block}
use Rattle.cm_source.proofs.lemmas.refusals.RefusalLemmas.{from-next, from-end}
use Rattle.cm_source.proofs.lemmas.refusals.BlockRefusals.{seen_items}
use Rattle.cm_source.proofs.refusals.any_begins_with_list.Goals as goal

pub returns-then-begins_with_list : goal.returns-then-begins_with_list
returns-then-begins_with_list c = λ rules.
    let of : List (List Block) → Bool = λ l. list_any is_list (seen_items rules l) in
    let rest = drop (c.loop-item.item-index + 1) c.args.items.now in
    sym (from-next of c.args.items.now c.loop-item.item-index c.item-item.result c.loop-item-test.true c.item-item.is ∙ ap (λ v. v || of rest)
    (sym (c.begins_with_list.ensures rules ∙ ap (λ l. is_list (faces (map (judged_block rules) l))) c.as_slice.ensures) ∙ c.if-begins_with_list.true)) ∙ c.loop-item.invariant rules

pub loop-item-preserved : goal.loop-item-preserved
loop-item-preserved c = λ rules.
    let of : List (List Block) → Bool = λ l. list_any is_list (seen_items rules l) in
    let rest = drop (c.loop-item.item-index + 1) c.args.items.now in
    sym (from-next of c.args.items.now c.loop-item.item-index c.item-item.result c.loop-item-test.true c.item-item.is ∙ ap (λ v. v || of rest)
    (sym (c.begins_with_list.ensures rules ∙ ap (λ l. is_list (faces (map (judged_block rules) l))) c.as_slice.ensures) ∙ c.if-begins_with_list.false)) ∙ c.loop-item.invariant rules

pub returns : goal.returns
returns c = λ rules.
    let of : List (List Block) → Bool = λ l. list_any is_list (seen_items rules l) in
    sym (from-end of c.args.items.now c.loop-item.item-index c.loop-item-test.false) ∙ c.loop-item.invariant rules
