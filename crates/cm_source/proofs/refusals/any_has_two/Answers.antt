use Rattle.std.proofs.Common.{Bool, ◌||◌, ◌+◌, List, drop, sym, ap, ◌∙◌, arith}
use Rattle.std.specs.List.{list_any}
use Rattle.cm_tree.specs.declared.tree.Block.{Block}
use Rattle.cm_source.specs.Refusals.{has_two}
use Rattle.cm_source.proofs.lemmas.refusals.RefusalLemmas.{from-next, from-end}
use Rattle.cm_source.proofs.lemmas.refusals.BlockRefusals.{seen_items, two-of, not-two}
use Rattle.cm_source.proofs.refusals.any_has_two.Goals as goal

pub returns-then-len-gt1 : goal.returns-then-len-gt1
returns-then-len-gt1 c = λ rules.
    let of : List (List Block) → Bool = λ l. list_any has_two (seen_items rules l) in
    let rest = drop (c.loop-item.item-index + 1) c.args.items.now in
    sym (from-next of c.args.items.now c.loop-item.item-index c.item-item.result c.loop-item-test.true c.item-item.is ∙ ap (λ v. v || of rest)
    (two-of rules c.item-item.result (omega (arith, c.len.ensures, c.if-len-gt1.true)))) ∙ c.loop-item.invariant rules

pub loop-item-preserved : goal.loop-item-preserved
loop-item-preserved c = λ rules.
    let of : List (List Block) → Bool = λ l. list_any has_two (seen_items rules l) in
    let rest = drop (c.loop-item.item-index + 1) c.args.items.now in
    sym (from-next of c.args.items.now c.loop-item.item-index c.item-item.result c.loop-item-test.true c.item-item.is ∙ ap (λ v. v || of rest)
    (not-two rules c.item-item.result (omega (arith, c.len.ensures, c.if-len-gt1.false)))) ∙ c.loop-item.invariant rules

pub returns : goal.returns
returns c = λ rules.
    let of : List (List Block) → Bool = λ l. list_any has_two (seen_items rules l) in
    sym (from-end of c.args.items.now c.loop-item.item-index c.loop-item-test.false) ∙ c.loop-item.invariant rules
