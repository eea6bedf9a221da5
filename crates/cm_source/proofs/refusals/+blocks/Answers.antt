use Rattle.std.proofs.Common.{◌+◌, List, Option, Some, None, map, drop, sym, ap, ◌∙◌}
use Rattle.cm_tree.specs.declared.tree.Block.{Block}
use Rattle.cm_scan.specs.Words.{◌<|>◌}
use Rattle.cm_source.specs.declared.why.Why.{Why}
use Rattle.cm_source.specs.Answers.{ok_unless}
use Rattle.cm_source.specs.InlineRefusals.{refused}
use Rattle.cm_source.specs.Refusals.{list_reasons, judged_block, refusal_of_all, refusal_of_items}
use Rattle.cm_source.specs.Faces.{seen}
use Rattle.cm_source.proofs.lemmas.refusals.RefusalLemmas.{stops, goes-on, no-reason, told-error, from-next, from-end}
use Rattle.cm_source.proofs.lemmas.refusals.BlockRefusals.{seen_items, list-refused}
use Rattle.cm_source.proofs.refusals.+blocks.Goals as goal

pub check_blocks-loop-block-preserved : goal.check_blocks-loop-block-preserved
check_blocks-loop-block-preserved t c =
    let rules = c.args.rules in
    let all = c.args.blocks.now in
    let before = seen c.loop-block.before in
    let next = c.block-item.result in
    let rest = drop (c.loop-block.block-index + 1) all in
    let fine = no-reason _ c.in_ok-check_block.ensures in
    let left : List Block → Option Why = λ l. refusal_of_all before (map (judged_block rules) l) in
    c.loop-block.invariant ∙ from-next left all c.loop-block.block-index next c.loop-block-test.true c.block-item.is
    ∙ ap (λ r. r <|> refusal_of_all (Some (judged_block rules next).face) (map (judged_block rules) rest)) fine
    ∙ ap (λ f. refusal_of_all (Some f) (map (judged_block rules) rest)) (sym (c.face_of.ensures rules))

pub check_blocks-returns : goal.check_blocks-returns
check_blocks-returns t c =
    let left : List Block → Option Why = λ l. refusal_of_all (seen c.loop-block.before) (map (judged_block c.args.rules) l) in
    sym (ap ok_unless (c.loop-block.invariant ∙ from-end left c.args.blocks.now c.loop-block.block-index c.loop-block-test.false))

pub check_blocks-returns-in_err-check_block : goal.check_blocks-returns-in_err-check_block
check_blocks-returns-in_err-check_block t c =
    let rules = c.args.rules in
    let all = c.args.blocks.now in
    let before = seen c.loop-block.before in
    let next = c.block-item.result in
    let rest = drop (c.loop-block.block-index + 1) all in
    let left : List Block → Option Why = λ l. refusal_of_all before (map (judged_block rules) l) in
    told-error c.from_residual.result c.in_err-check_block.field-0.0 c.from_residual.ensures.1
    ∙ stops _ (refusal_of_all (Some (judged_block rules next).face) (map (judged_block rules) rest)) _ c.in_err-check_block.ensures
    ∙ sym (ap ok_unless (c.loop-block.invariant ∙ from-next left all c.loop-block.block-index next c.loop-block-test.true c.block-item.is))

pub check_block-returns-in_err-check_list-in-List : goal.check_block-returns-in_err-check_list-in-List
check_block-returns-in_err-check_list-in-List t c =
    let rules = c.args.rules in
    let before = seen c.args.before in
    let kind = c.in-List.kind in
    let tight = c.in-List.tight in
    let items = c.in-List.items in
    let why = c.in_err-check_list-in-List.ensures rules ∙ ap (λ l. ok_unless (refused (list_reasons kind tight (seen_items rules l) before))) c.as_slice-in-List.ensures in
    told-error c.from_residual.result c.in_err-check_list-in-List.field-0.0 c.from_residual.ensures.1
    ∙ stops (refused (list_reasons kind tight (seen_items rules items) before)) (refusal_of_items (map (map (judged_block rules)) items)) _ why
    ∙ sym (ap ok_unless (list-refused rules c.args.block.now kind tight items before c.in-List.is))

pub check_block-loop-item-preserved : goal.check_block-loop-item-preserved
check_block-loop-item-preserved t c =
    let rules = c.args.rules in
    let all = c.as_slice-item-items.result.now in
    let left : List (List Block) → Option Why = λ l. refusal_of_items (map (map (judged_block rules)) l) in
    let fine = no-reason _ (c.in_ok-check_blocks-in-List.ensures ∙ ap (λ l. ok_unless (refusal_of_all None (map (judged_block rules) l))) c.as_slice-in-loop-item.ensures) in
    sym (from-next left all c.loop-item.item-index c.item-item.result c.loop-item-test.true c.item-item.is ∙ ap (λ r. r <|> left (drop (c.loop-item.item-index + 1) all)) fine)
    ∙ c.loop-item.invariant

pub check_block-returns-after-loop-item : goal.check_block-returns-after-loop-item
check_block-returns-after-loop-item t c =
    let rules = c.args.rules in
    let before = seen c.args.before in
    let kind = c.in-List.kind in
    let tight = c.in-List.tight in
    let items = c.in-List.items in
    let all = c.as_slice-item-items.result.now in
    let left : List (List Block) → Option Why = λ l. refusal_of_items (map (map (judged_block rules)) l) in
    let fine = c.in_ok-check_list-in-List.ensures rules ∙ ap (λ l. ok_unless (refused (list_reasons kind tight (seen_items rules l) before))) c.as_slice-in-List.ensures in
    ap ok_unless (sym (from-end left all c.loop-item.item-index c.loop-item-test.false) ∙ c.loop-item.invariant ∙ ap left c.as_slice-item-items.ensures)
    ∙ goes-on (refused (list_reasons kind tight (seen_items rules items) before)) (left items) fine
    ∙ sym (ap ok_unless (list-refused rules c.args.block.now kind tight items before c.in-List.is))

pub check_block-returns-in_err-check_blocks-in-List : goal.check_block-returns-in_err-check_blocks-in-List
check_block-returns-in_err-check_blocks-in-List t c =
    let rules = c.args.rules in
    let before = seen c.args.before in
    let kind = c.in-List.kind in
    let tight = c.in-List.tight in
    let items = c.in-List.items in
    let all = c.as_slice-item-items.result.now in
    let left : List (List Block) → Option Why = λ l. refusal_of_items (map (map (judged_block rules)) l) in
    let fine = c.in_ok-check_list-in-List.ensures rules ∙ ap (λ l. ok_unless (refused (list_reasons kind tight (seen_items rules l) before))) c.as_slice-in-List.ensures in
    let why = c.in_err-check_blocks-in-List.ensures ∙ ap (λ l. ok_unless (refusal_of_all None (map (judged_block rules) l))) c.as_slice-in-loop-item.ensures in
    told-error c.from_residual-in_err-check_blocks-in-List.result c.in_err-check_blocks-in-List.field-0.0 c.from_residual-in_err-check_blocks-in-List.ensures.1
    ∙ stops _ (left (drop (c.loop-item.item-index + 1) all)) _ why
    ∙ ap ok_unless (sym (from-next left all c.loop-item.item-index c.item-item.result c.loop-item-test.true c.item-item.is) ∙ c.loop-item.invariant ∙ ap left c.as_slice-item-items.ensures)
    ∙ goes-on (refused (list_reasons kind tight (seen_items rules items) before)) (left items) fine
    ∙ sym (ap ok_unless (list-refused rules c.args.block.now kind tight items before c.in-List.is))
