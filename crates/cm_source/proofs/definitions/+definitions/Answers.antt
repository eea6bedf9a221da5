use Rattle.std.proofs.Common.{rules, ◌≡◌, ◌∙◌, refl, sym, ap, length, map}
use Rattle.cm_tree.specs.declared.tree.Block.TheVariants.{List as ListBlock}
use Rattle.cm_source.specs.Definitions.{cleared, kept, without_definitions}
use Rattle.cm_source.proofs.lemmas.spelling.WithoutDefinitions.{changed_back, list_cleared}
use Rattle.cm_source.proofs.definitions.+definitions.Goals as goal

pub clear-returns-after-loop-item : goal.clear-returns-after-loop-item
clear-returns-after-loop-item t c =
    let at = c.loop-item.item-index in
    let old = c.deref_mut-item-items.result.now in
    let len_is : c.into_vec-cleared.result.len ≡ length c.loop-item.item-items = search (rules, c.deref_mut-item-items.ensures.len) in
    let cleared_is : c.from-items.result ≡ map without_definitions old =
    changed_back without_definitions c.from-items.result c.loop-item.item-items _ old _ at c.from-items.ensures len_is c.loop-item.auto.item-items c.loop-item-test.false c.loop-item.invariant.1 in
    let block_is : ListBlock c.in-List.kind c.in-List.tight old ≡ c.args.block.now = search rules in
    rw (cleared_is, c.in-List.kind-is, c.in-List.tight-is) (sym (list_cleared c.in-List.kind c.in-List.tight old) ∙ ap cleared block_is)

pub without_definitions-returns : goal.without_definitions-returns
without_definitions-returns t c =
    let at = c.loop-block.block-index in
    let old = c.deref_mut-block-items.result.now in
    let len_is : c.into_vec-blocks.result.len ≡ length c.loop-block.block-items = search (rules, c.deref_mut-block-items.ensures.len) in
    let cleared_is = changed_back cleared _ c.loop-block.block-items _ old _ at refl len_is c.loop-block.auto.block-items c.loop-block-test.false c.loop-block.invariant.1 in
    c.from.ensures ∙ c.retain_others.ensures ∙ ap kept cleared_is ∙ search rules
