use Rattle.std.proofs.Common.{true, not, ◌||◌, [], ◌∷◌, ap, ◌∙◌}
use Rattle.std.specs.List.{list_any}
use Rattle.cm_source.specs.declared.why.Why.TheVariants.{Shape, AdjacentLists, ItemBeginsWithList, Looseness}
use Rattle.cm_source.specs.Refusals.{begins_too_high, is_after_same, is_list, is_as_said}
use Rattle.cm_source.specs.Faces.{seen}
use Rattle.cm_source.proofs.lemmas.refusals.RefusalLemmas.{told-error, this-reason, next-reason, last-reason}
use Rattle.cm_source.proofs.lemmas.refusals.BlockRefusals.{seen_items}
use Rattle.cm_source.proofs.refusals.check_list.Goals as goal

pub returns-in_err-refuse_if : goal.returns-in_err-refuse_if
returns-in_err-refuse_if c = λ rules.
    let items = seen_items rules c.args.items.now in
    let kind = c.args.kind in
    let others = (is_after_same kind (seen c.args.before), AdjacentLists) ∷ (list_any is_list items, ItemBeginsWithList) ∷ (not (is_as_said c.args.tight items), Looseness) ∷ [] in
    told-error c.from_residual.result c.in_err-refuse_if.field-0.0 c.from_residual.ensures.1
    ∙ this-reason _ (not (list_any (λ item. true) items) || begins_too_high kind) Shape others _ c.in_err-refuse_if.ensures (c.is_malformed.ensures rules)

pub returns-in_err-refuse_if-2 : goal.returns-in_err-refuse_if-2
returns-in_err-refuse_if-2 c = λ rules.
    let items = seen_items rules c.args.items.now in
    let kind = c.args.kind in
    let others = (list_any is_list items, ItemBeginsWithList) ∷ (not (is_as_said c.args.tight items), Looseness) ∷ [] in
    let same = is_after_same kind (seen c.args.before) in
    told-error c.from_residual-in_err-refuse_if-2.result c.in_err-refuse_if-2.field-0.0 c.from_residual-in_err-refuse_if-2.ensures.1
    ∙ next-reason _ (not (list_any (λ item. true) items) || begins_too_high kind) Shape ((same, AdjacentLists) ∷ others) _ c.in_ok-refuse_if.ensures (c.is_malformed.ensures rules)
    (this-reason _ same AdjacentLists others _ c.in_err-refuse_if-2.ensures c.is_after_same.ensures)

pub returns-in_err-refuse_if-3 : goal.returns-in_err-refuse_if-3
returns-in_err-refuse_if-3 c = λ rules.
    let items = seen_items rules c.args.items.now in
    let kind = c.args.kind in
    let others = (not (is_as_said c.args.tight items), Looseness) ∷ [] in
    let same = is_after_same kind (seen c.args.before) in
    let lists = list_any is_list items in
    told-error c.from_residual-in_err-refuse_if-3.result c.in_err-refuse_if-3.field-0.0 c.from_residual-in_err-refuse_if-3.ensures.1
    ∙ next-reason _ (not (list_any (λ item. true) items) || begins_too_high kind) Shape ((same, AdjacentLists) ∷ (lists, ItemBeginsWithList) ∷ others) _ c.in_ok-refuse_if.ensures (c.is_malformed.ensures rules)
    (next-reason _ same AdjacentLists ((lists, ItemBeginsWithList) ∷ others) _ c.in_ok-refuse_if-2.ensures c.is_after_same.ensures
    (this-reason _ lists ItemBeginsWithList others _ c.in_err-refuse_if-3.ensures (c.any_begins_with_list.ensures rules)))

pub returns : goal.returns
returns c = λ rules.
    let items = seen_items rules c.args.items.now in
    let kind = c.args.kind in
    let loose = not (is_as_said c.args.tight items) in
    let others = (loose, Looseness) ∷ [] in
    let same = is_after_same kind (seen c.args.before) in
    let lists = list_any is_list items in
    next-reason _ (not (list_any (λ item. true) items) || begins_too_high kind) Shape ((same, AdjacentLists) ∷ (lists, ItemBeginsWithList) ∷ others) _ c.in_ok-refuse_if.ensures (c.is_malformed.ensures rules)
    (next-reason _ same AdjacentLists ((lists, ItemBeginsWithList) ∷ others) _ c.in_ok-refuse_if-2.ensures c.is_after_same.ensures
    (next-reason _ lists ItemBeginsWithList others _ c.in_ok-refuse_if-3.ensures (c.any_begins_with_list.ensures rules)
    (last-reason _ loose Looseness _ c.refuse_if-4.ensures (ap not (c.is_as_said.ensures rules)))))
