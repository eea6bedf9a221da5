use Rattle.std.proofs.Common.{◌≡◌, ◌∙◌, ◌++◌, ◌+◌, ℕ, List, ap, sym, subst, append-nil, arith, codes}
use Rattle.std.specs.Prelude.{map, true}
use Rattle.std.specs.List.{slice_range}
use Rattle.std.proofs.lemmas.Result.{err_from_is_err_and}
use Rattle.cm_tree.specs.Depth.{depth_of_block}
use Rattle.cm_tree.specs.RawBlocks.{block_in, IsPlaced}
use Rattle.cm_tree.specs.declared.raw_blocks.RawBlock.{RawBlock}
use Rattle.cm_tree.proofs.lemmas.RawWalks.{joined, quote_depth, list_depth}
use Rattle.cm_html.specs.Html.{alone, heading_end, heading_start, html_of, inlines_html, items_html, list_end, list_start, written, inside_from, line_feed_if}
use Rattle.cm_html.specs.steps.HtmlParts.{inside, item_html}
use Rattle.cm_html.proofs.lemmas.ItemLemmas.{inside_added}
use Rattle.cm_scan.specs.inlines.Brackets.{defined_in}
use Rattle.cm_tool.specs.declared.outlines.leaf_walk.Unread.{Unread}
use Rattle.cm_tool.specs.Leaves.{depths_in, leaf_depths}
use Rattle.cm_tool.specs.steps.LeafWalks.{all_read, content_at, block_read_of, blocks_read_at, items_read_at, HasRead, TellsOf}
use Rattle.cm_tool.proofs.lemmas.LeafWalkLemmas.{reads_none, none_there, blocks_first, less_deep, items_first, item_less_deep, block_told, block_next, item_told, item_next}
use Rattle.cm_tool.proofs.lemmas.RawWalkLemmas.{enclosed, paragraph_depths, heading_depths, code_depths, html_depths, break_depths, definition_depths, quote_depths, list_depths, paragraph_written, heading_written, code_written, html_written, break_written, definition_written, quote_written, list_written, whole_written, nothing_inside, inlines_inside, loose_inlines_inside, whole_inside}
use Rattle.cm_tool.proofs.outlines.leaf_walk.LeafWalk.+html.Goals as goal

-- what a block of a kind has, in each of its arms

leaves : (unread : Unread) {block kind : RawBlock} → block ≡ kind → depths_in (block_read_of unread block) ≡ depths_in (block_read_of unread kind)
leaves unread is = ap (λ b. depths_in (block_read_of unread b)) is

shows : (unread : Unread) {block kind : RawBlock} → block ≡ kind → written (block_read_of unread block) ≡ written (block_read_of unread kind)
shows unread is = ap (λ b. written (block_read_of unread b)) is

-- a tag after what was there
tagged : (old : List ℕ) {new tag text : List ℕ} → new ≡ old ++ tag → tag ≡ text → new ≡ old ++ text
tagged old pushed is = pushed ∙ ap (λ t. old ++ t) is

pub push_block-returns-in_err-push_leaf-in-Paragraph-clause-told : goal.push_block-returns-in_err-push_leaf-in-Paragraph-clause-told
push_block-returns-in_err-push_leaf-in-Paragraph-clause-told t c =
    let p = err_from_is_err_and c.from_residual-in_err-push_leaf-in-Paragraph.result c.from_residual-in_err-push_leaf-in-Paragraph.ensures.1 in
    let unread = c.args.self.now.unread in
    let depths = leaves unread c.in-Paragraph.is ∙ paragraph_depths unread.limits.rules (defined_in unread.definitions) _ in
    rw (p.1, p.2) (subst (TellsOf c.args.self.now c.in_err-push_leaf-in-Paragraph.field-0.0) (sym depths) c.in_err-push_leaf-in-Paragraph.ensures.told)

pub push_block-returns-in_ok-push_str-in-Paragraph-2-clause-pushed : goal.push_block-returns-in_ok-push_str-in-Paragraph-2-clause-pushed
push_block-returns-in_ok-push_str-in-Paragraph-2-clause-pushed t c =
    let unread = c.args.self.now.unread in
    let same = shows unread c.in-Paragraph.is ∙ paragraph_written unread.limits.rules (defined_in unread.definitions) _ in
    enclosed c.args.html.now c.push_str.new.self c.push_leaf.new.html c.push_str-in-Paragraph.new.self (codes "<p>") (inlines_html (content_at unread c.in-Paragraph.from c.in-Paragraph.to)) (codes "</p>\n")
    (tagged c.args.html.now c.in_ok-push_str-in-Paragraph.ensures c.start.ensures) c.in_ok-push_leaf-in-Paragraph.ensures.pushed
    (tagged c.push_leaf.new.html c.in_ok-push_str-in-Paragraph-2.ensures c.end.ensures) ∙ ap (λ w. c.args.html.now ++ alone w) (sym same)

pub push_block-returns-in_ok-push_str-in-Paragraph-2-clause-passes : goal.push_block-returns-in_ok-push_str-in-Paragraph-2-clause-passes
push_block-returns-in_ok-push_str-in-Paragraph-2-clause-passes t c =
    let unread = c.args.self.now.unread in
    let depths = leaves unread c.in-Paragraph.is ∙ paragraph_depths unread.limits.rules (defined_in unread.definitions) _ in
    subst (HasRead c.args.self.now c.push_leaf.new.self) (sym depths) c.in_ok-push_leaf-in-Paragraph.ensures.passes

pub push_block-returns-in_err-push_leaf-in-Heading-clause-told : goal.push_block-returns-in_err-push_leaf-in-Heading-clause-told
push_block-returns-in_err-push_leaf-in-Heading-clause-told t c =
    let p = err_from_is_err_and c.from_residual-in_err-push_leaf-in-Heading.result c.from_residual-in_err-push_leaf-in-Heading.ensures.1 in
    let unread = c.args.self.now.unread in
    let depths = leaves unread c.in-Heading.is ∙ heading_depths unread.limits.rules (defined_in unread.definitions) c.in-Heading.level _ in
    rw (p.1, p.2) (subst (TellsOf c.args.self.now c.in_err-push_leaf-in-Heading.field-0.0) (sym depths) c.in_err-push_leaf-in-Heading.ensures.told)

pub push_block-returns-in_ok-push_heading_end-in-Heading-clause-pushed : goal.push_block-returns-in_ok-push_heading_end-in-Heading-clause-pushed
push_block-returns-in_ok-push_heading_end-in-Heading-clause-pushed t c =
    let unread = c.args.self.now.unread in
    let same = shows unread c.in-Heading.is ∙ heading_written unread.limits.rules (defined_in unread.definitions) c.in-Heading.level _ in
    let level = c.in-Heading.level in
    enclosed c.args.html.now c.push_heading_start.new.out c.push_leaf-in-Heading.new.html c.push_heading_end.new.out (heading_start level) (inlines_html (content_at unread c.in-Heading.from c.in-Heading.to)) (heading_end level)
    c.in_ok-push_heading_start-in-Heading.ensures c.in_ok-push_leaf-in-Heading.ensures.pushed c.in_ok-push_heading_end-in-Heading.ensures ∙ ap (λ w. c.args.html.now ++ alone w) (sym same)

pub push_block-returns-in_ok-push_heading_end-in-Heading-clause-passes : goal.push_block-returns-in_ok-push_heading_end-in-Heading-clause-passes
push_block-returns-in_ok-push_heading_end-in-Heading-clause-passes t c =
    let unread = c.args.self.now.unread in
    let depths = leaves unread c.in-Heading.is ∙ heading_depths unread.limits.rules (defined_in unread.definitions) c.in-Heading.level _ in
    subst (HasRead c.args.self.now c.push_leaf-in-Heading.new.self) (sym depths) c.in_ok-push_leaf-in-Heading.ensures.passes

pub push_block-returns-in_err-pass-in-Code-clause-told : goal.push_block-returns-in_err-pass-in-Code-clause-told
push_block-returns-in_err-pass-in-Code-clause-told t c =
    let p = err_from_is_err_and c.from_residual-in_err-pass-in-Code.result c.from_residual-in_err-pass-in-Code.ensures.1 in
    let unread = c.args.self.now.unread in
    let depths = leaves unread c.in-Code.is ∙ code_depths unread.limits.rules (defined_in unread.definitions) _ _ in
    rw (p.1, p.2) (subst (TellsOf c.args.self.now c.in_err-pass-in-Code.field-0.0) (sym depths) c.in_err-pass-in-Code.ensures.told)

pub push_block-returns-in_ok-push_code-in-Code-clause-pushed : goal.push_block-returns-in_ok-push_code-in-Code-clause-pushed
push_block-returns-in_ok-push_code-in-Code-clause-pushed t c =
    let unread = c.args.self.now.unread in
    let same = shows unread c.in-Code.is ∙ code_written unread.limits.rules (defined_in unread.definitions) _ _ in
    (rw (c.text.ensures, c.text-in-Code.ensures, c.in_ok-pass-in-Code.ensures.passes.0) at c.in_ok-push_code-in-Code.ensures) ∙ ap (λ w. c.args.html.now ++ alone w) (sym same)

pub push_block-returns-in_ok-push_code-in-Code-clause-passes : goal.push_block-returns-in_ok-push_code-in-Code-clause-passes
push_block-returns-in_ok-push_code-in-Code-clause-passes t c =
    let unread = c.args.self.now.unread in
    let depths = leaves unread c.in-Code.is ∙ code_depths unread.limits.rules (defined_in unread.definitions) _ _ in
    subst (HasRead c.args.self.now c.pass.new.self) (sym depths) c.in_ok-pass-in-Code.ensures.passes

pub push_block-returns-in_err-pass-in-Html-clause-told : goal.push_block-returns-in_err-pass-in-Html-clause-told
push_block-returns-in_err-pass-in-Html-clause-told t c =
    let p = err_from_is_err_and c.from_residual-in_err-pass-in-Html.result c.from_residual-in_err-pass-in-Html.ensures.1 in
    let unread = c.args.self.now.unread in
    let depths = leaves unread c.in-Html.is ∙ html_depths unread.limits.rules (defined_in unread.definitions) _ in
    rw (p.1, p.2) (subst (TellsOf c.args.self.now c.in_err-pass-in-Html.field-0.0) (sym depths) c.in_err-pass-in-Html.ensures.told)

pub push_block-returns-in_ok-push_str-in-Html-clause-pushed : goal.push_block-returns-in_ok-push_str-in-Html-clause-pushed
push_block-returns-in_ok-push_str-in-Html-clause-pushed t c =
    let unread = c.args.self.now.unread in
    let same = shows unread c.in-Html.is ∙ html_written unread.limits.rules (defined_in unread.definitions) _ in
    (rw (c.text-in-Html.ensures, c.in_ok-pass-in-Html.ensures.passes.0) at c.in_ok-push_str-in-Html.ensures) ∙ ap (λ w. c.args.html.now ++ alone w) (sym same)

pub push_block-returns-in_ok-push_str-in-Html-clause-passes : goal.push_block-returns-in_ok-push_str-in-Html-clause-passes
push_block-returns-in_ok-push_str-in-Html-clause-passes t c =
    let unread = c.args.self.now.unread in
    let depths = leaves unread c.in-Html.is ∙ html_depths unread.limits.rules (defined_in unread.definitions) _ in
    subst (HasRead c.args.self.now c.pass-in-Html.new.self) (sym depths) c.in_ok-pass-in-Html.ensures.passes

pub push_block-returns-in_err-pass-in-Break-clause-told : goal.push_block-returns-in_err-pass-in-Break-clause-told
push_block-returns-in_err-pass-in-Break-clause-told t c =
    let p = err_from_is_err_and c.from_residual-in_err-pass-in-Break.result c.from_residual-in_err-pass-in-Break.ensures.1 in
    let unread = c.args.self.now.unread in
    let depths = leaves unread c.in-Break.is ∙ break_depths unread.limits.rules (defined_in unread.definitions) in
    rw (p.1, p.2) (subst (TellsOf c.args.self.now c.in_err-pass-in-Break.field-0.0) (sym depths) c.in_err-pass-in-Break.ensures.told)

pub push_block-returns-in_ok-push_break-in-Break-clause-pushed : goal.push_block-returns-in_ok-push_break-in-Break-clause-pushed
push_block-returns-in_ok-push_break-in-Break-clause-pushed t c =
    let unread = c.args.self.now.unread in
    let same = shows unread c.in-Break.is ∙ break_written unread.limits.rules (defined_in unread.definitions) in
    c.in_ok-push_break-in-Break.ensures ∙ ap (λ w. c.args.html.now ++ alone w) (sym same)

pub push_block-returns-in_ok-push_break-in-Break-clause-passes : goal.push_block-returns-in_ok-push_break-in-Break-clause-passes
push_block-returns-in_ok-push_break-in-Break-clause-passes t c =
    let unread = c.args.self.now.unread in
    let depths = leaves unread c.in-Break.is ∙ break_depths unread.limits.rules (defined_in unread.definitions) in
    subst (HasRead c.args.self.now c.pass-in-Break.new.self) (sym depths) c.in_ok-pass-in-Break.ensures.passes

pub push_block-returns-in_err-pass-in-Definition-clause-told : goal.push_block-returns-in_err-pass-in-Definition-clause-told
push_block-returns-in_err-pass-in-Definition-clause-told t c =
    let p = err_from_is_err_and c.from_residual-in_err-pass-in-Definition.result c.from_residual-in_err-pass-in-Definition.ensures.1 in
    let unread = c.args.self.now.unread in
    let depths = leaves unread c.in-Definition.is ∙ definition_depths unread.limits.rules (defined_in unread.definitions) _ _ _ in
    rw (p.1, p.2) (subst (TellsOf c.args.self.now c.in_err-pass-in-Definition.field-0.0) (sym depths) c.in_err-pass-in-Definition.ensures.told)

pub push_block-returns-in_ok-pass-in-Definition-clause-pushed : goal.push_block-returns-in_ok-pass-in-Definition-clause-pushed
push_block-returns-in_ok-pass-in-Definition-clause-pushed t c =
    let unread = c.args.self.now.unread in
    let same = shows unread c.in-Definition.is ∙ definition_written unread.limits.rules (defined_in unread.definitions) _ _ _ in
    sym (append-nil c.args.html.now) ∙ ap (λ w. c.args.html.now ++ alone w) (sym same)

pub push_block-returns-in_ok-pass-in-Definition-clause-passes : goal.push_block-returns-in_ok-pass-in-Definition-clause-passes
push_block-returns-in_ok-pass-in-Definition-clause-passes t c =
    let unread = c.args.self.now.unread in
    let depths = leaves unread c.in-Definition.is ∙ definition_depths unread.limits.rules (defined_in unread.definitions) _ _ _ in
    subst (HasRead c.args.self.now c.pass-in-Definition.new.self) (sym depths) c.in_ok-pass-in-Definition.ensures.passes

pub push_block-push_blocks-requires : goal.push_block-push_blocks-requires
push_block-push_blocks-requires t c =
    let raw = c.args.self.now.unread.raw in
    let deep = ap (λ b. depth_of_block (block_in raw b)) c.in-Quote.is ∙ quote_depth (slice_range raw.blocks c.in-Quote.from c.in-Quote.to) in
    (omega (arith, c.decreases, deep), subst (IsPlaced raw) c.in-Quote.is c.requires)

pub push_block-returns-in_err-push_blocks-in-Quote-clause-told : goal.push_block-returns-in_err-push_blocks-in-Quote-clause-told
push_block-returns-in_err-push_blocks-in-Quote-clause-told t c =
    let p = err_from_is_err_and c.from_residual-in_err-push_blocks-in-Quote.result c.from_residual-in_err-push_blocks-in-Quote.ensures.1 in
    let unread = c.args.self.now.unread in
    let depths = leaves unread c.in-Quote.is ∙ quote_depths unread.limits.rules (defined_in unread.definitions) _ in
    rw (p.1, p.2) (subst (TellsOf c.args.self.now c.in_err-push_blocks-in-Quote.field-0.0) (sym depths) c.in_err-push_blocks-in-Quote.ensures.told)

pub push_block-returns-in_ok-push_str-in-Quote-2-clause-pushed : goal.push_block-returns-in_ok-push_str-in-Quote-2-clause-pushed
push_block-returns-in_ok-push_str-in-Quote-2-clause-pushed t c =
    let unread = c.args.self.now.unread in
    let same = shows unread c.in-Quote.is ∙ quote_written unread.limits.rules (defined_in unread.definitions) _ in
    enclosed c.args.html.now c.push_str-in-Quote.new.self c.push_blocks.new.html c.push_str-in-Quote-2.new.self (codes "<blockquote>\n") (html_of (blocks_read_at unread c.in-Quote.from c.in-Quote.to)) (codes "</blockquote>\n")
    (tagged c.args.html.now c.in_ok-push_str-in-Quote.ensures c.start-in-Quote.ensures) c.in_ok-push_blocks-in-Quote.ensures.pushed
    (tagged c.push_blocks.new.html c.in_ok-push_str-in-Quote-2.ensures c.end-in-Quote.ensures) ∙ ap (λ w. c.args.html.now ++ alone w) (sym same)

pub push_block-returns-in_ok-push_str-in-Quote-2-clause-passes : goal.push_block-returns-in_ok-push_str-in-Quote-2-clause-passes
push_block-returns-in_ok-push_str-in-Quote-2-clause-passes t c =
    let unread = c.args.self.now.unread in
    let depths = leaves unread c.in-Quote.is ∙ quote_depths unread.limits.rules (defined_in unread.definitions) _ in
    subst (HasRead c.args.self.now c.push_blocks.new.self) (sym depths) c.in_ok-push_blocks-in-Quote.ensures.passes

pub push_block-push_items-requires : goal.push_block-push_items-requires
push_block-push_items-requires t c =
    let raw = c.args.self.now.unread.raw in
    let deep = ap (λ b. depth_of_block (block_in raw b)) c.in-List.is ∙ list_depth c.in-List.kind c.in-List.tight (slice_range raw.items c.in-List.from c.in-List.to) in
    (omega (arith, c.decreases, deep), subst (IsPlaced raw) c.in-List.is c.requires)

pub push_block-returns-in_err-push_items-in-List-clause-told : goal.push_block-returns-in_err-push_items-in-List-clause-told
push_block-returns-in_err-push_items-in-List-clause-told t c =
    let p = err_from_is_err_and c.from_residual-in_err-push_items-in-List.result c.from_residual-in_err-push_items-in-List.ensures.1 in
    let unread = c.args.self.now.unread in
    let depths = leaves unread c.in-List.is ∙ list_depths unread.limits.rules (defined_in unread.definitions) c.in-List.kind c.in-List.tight _ in
    rw (p.1, p.2) (subst (TellsOf c.args.self.now c.in_err-push_items-in-List.field-0.0) (sym depths) c.in_err-push_items-in-List.ensures.told)

pub push_block-returns-in_ok-push_list_end-in-List-clause-pushed : goal.push_block-returns-in_ok-push_list_end-in-List-clause-pushed
push_block-returns-in_ok-push_list_end-in-List-clause-pushed t c =
    let unread = c.args.self.now.unread in
    let same = shows unread c.in-List.is ∙ list_written unread.limits.rules (defined_in unread.definitions) c.in-List.kind c.in-List.tight _ in
    let kind = c.in-List.kind in
    let tight = c.in-List.tight in
    enclosed c.args.html.now c.push_list_start.new.out c.push_items.new.html c.push_list_end.new.out (list_start kind) (items_html tight (map (map written) (items_read_at unread c.in-List.from c.in-List.to))) (list_end kind)
    c.in_ok-push_list_start-in-List.ensures c.in_ok-push_items-in-List.ensures.pushed c.in_ok-push_list_end-in-List.ensures ∙ ap (λ w. c.args.html.now ++ alone w) (sym same)

pub push_block-returns-in_ok-push_list_end-in-List-clause-passes : goal.push_block-returns-in_ok-push_list_end-in-List-clause-passes
push_block-returns-in_ok-push_list_end-in-List-clause-passes t c =
    let unread = c.args.self.now.unread in
    let depths = leaves unread c.in-List.is ∙ list_depths unread.limits.rules (defined_in unread.definitions) c.in-List.kind c.in-List.tight _ in
    subst (HasRead c.args.self.now c.push_items.new.self) (sym depths) c.in_ok-push_items-in-List.ensures.passes

pub push_blocks-push_block-requires : goal.push_blocks-push_block-requires
push_blocks-push_block-requires t c =
    let deep = less_deep c.args.self.now c.loop-at.self c.args.from c.loop-at.at c.args.to c.loop-at.invariant.leaves.0 c.loop-at.auto.at c.loop-at-test.true c.block_at-block.result c.requires.1 c.block_at-block.ensures.block in
    (omega (arith, c.decreases, deep), c.block_at-block.ensures.placed)

pub push_blocks-returns-in_err-push_block-clause-told : goal.push_blocks-returns-in_err-push_block-clause-told
push_blocks-returns-in_err-push_block-clause-told t c =
    let p = err_from_is_err_and c.from_residual.result c.from_residual.ensures.1 in
    rw (p.1, p.2) (block_told c.args.self.now c.loop-at.self c.args.from c.loop-at.at c.args.to c.loop-at.auto.at c.loop-at-test.true c.loop-at.invariant.leaves
    c.block_at-block.result c.requires.1 c.block_at-block.ensures.block c.in_err-push_block.field-0.0 c.in_err-push_block.ensures.told)

pub push_blocks-loop-at-preserved : goal.push_blocks-loop-at-preserved
push_blocks-loop-at-preserved t c =
    let first = c.args.self.now in
    let now = c.loop-at.self in
    let block = c.block_at-block.result in
    let step = blocks_first first now c.args.from c.loop-at.at c.args.to c.loop-at.invariant.leaves.0 c.loop-at.auto.at c.loop-at-test.true block c.requires.1 c.block_at-block.ensures.block in
    let whole = blocks_read_at first.unread c.args.from c.args.to in
    let rest = blocks_read_at first.unread (c.loop-at.at + 1) c.args.to in
    let html = c.loop-at.html in
    let all = c.args.html.now ++ html_of whole in
    record {
      html = joined html c.push_block.new.html (alone (written (block_read_of now.unread block))) (html_of rest) all (subst (λ blocks. html ++ html_of blocks ≡ all) step c.loop-at.invariant.html) c.in_ok-push_block.ensures.pushed;
      leaves = block_next first now c.args.from c.loop-at.at c.args.to c.loop-at.auto.at c.loop-at-test.true c.loop-at.invariant.leaves block c.requires.1 c.block_at-block.ensures.block
          c.push_block.new.self c.in_ok-push_block.ensures.passes;
    }

pub push_item-push_inside-requires : goal.push_item-push_inside-requires
push_item-push_inside-requires t c =
    let deep = less_deep c.args.self.now c.loop-at.self c.args.item.from c.loop-at.at c.args.item.to c.loop-at.invariant.leaves.0 c.loop-at.auto.at c.loop-at-test.true c.block_at-block.result c.requires.1 c.block_at-block.ensures.block in
    (omega (arith, c.decreases, deep), c.block_at-block.ensures.placed)

pub push_item-returns-in_err-fresh-clause-told : goal.push_item-returns-in_err-fresh-clause-told
push_item-returns-in_err-fresh-clause-told t c =
    let p = err_from_is_err_and c.from_residual-in_err-fresh.result c.from_residual-in_err-fresh.ensures.1 in
    rw (p.1, p.2) (block_told c.args.self.now c.loop-at.self c.args.item.from c.loop-at.at c.args.item.to c.loop-at.auto.at c.loop-at-test.true c.loop-at.invariant.leaves
    c.block_at-block.result c.requires.1 c.block_at-block.ensures.block c.in_err-fresh.field-0.0 c.in_err-fresh.ensures.told)

pub push_item-loop-at-preserved : goal.push_item-loop-at-preserved
push_item-loop-at-preserved t c =
    let first = c.args.self.now in
    let now = c.loop-at.self in
    let block = c.block_at-block.result in
    let step = blocks_first first now c.args.item.from c.loop-at.at c.args.item.to c.loop-at.invariant.leaves.0 c.loop-at.auto.at c.loop-at-test.true block c.requires.1 c.block_at-block.ensures.block in
    let whole = blocks_read_at first.unread c.args.item.from c.args.item.to in
    let rest = blocks_read_at first.unread (c.loop-at.at + 1) c.args.item.to in
    let html = c.loop-at.html in
    let tight = c.args.tight in
    let all = c.push_str.new.self ++ inside_from tight true (map written whole) in
    record {
      html = c.in_ok-fresh.ensures.pushed (map written rest) ∙ subst (λ blocks. html ++ inside_from tight c.loop-at.fresh (map written blocks) ≡ all) step c.loop-at.invariant.html;
      leaves = block_next first now c.args.item.from c.loop-at.at c.args.item.to c.loop-at.auto.at c.loop-at-test.true c.loop-at.invariant.leaves block c.requires.1 c.block_at-block.ensures.block
          c.push_inside.new.self c.in_ok-fresh.ensures.passes;
    }

pub push_item-returns-clause-pushed : goal.push_item-returns-clause-pushed
push_item-returns-clause-pushed t c =
    let unread = c.args.self.now.unread in
    let tight = c.args.tight in
    let ws = map written (blocks_read_at unread c.args.item.from c.args.item.to) in
    let none = none_there (λ blocks. map written (all_read unread blocks)) unread.raw.blocks c.loop-at.at c.args.item.to c.loop-at-test.false in
    let added = inside_added tight c.loop-at.fresh ws _ c.push_str.new.self c.loop-at.html none c.loop-at.invariant.html in
    enclosed c.args.html.now c.push_str.new.self c.loop-at.html c.push_str-2.new.self (codes "<li>") (inside tight ws) (codes "</li>\n")
    (tagged c.args.html.now c.in_ok-push_str.ensures c.start.ensures) added (tagged c.loop-at.html c.in_ok-push_str-2.ensures c.end.ensures)

pub push_item-returns-clause-passes : goal.push_item-returns-clause-passes
push_item-returns-clause-passes t c =
    let first = c.args.self.now in
    let none = none_there (λ blocks. leaf_depths (all_read first.unread blocks)) first.unread.raw.blocks c.loop-at.at c.args.item.to c.loop-at-test.false in
    reads_none first c.loop-at.self (leaf_depths (blocks_read_at first.unread c.args.item.from c.args.item.to)) (leaf_depths (blocks_read_at first.unread c.loop-at.at c.args.item.to)) none c.loop-at.invariant.leaves

pub push_items-push_item-requires : goal.push_items-push_item-requires
push_items-push_item-requires t c =
    let deep = item_less_deep c.args.self.now c.loop-at.self c.args.from c.loop-at.at c.args.to c.loop-at.invariant.leaves.0 c.loop-at.auto.at c.loop-at-test.true c.item_at-item.result c.requires.1 c.item_at-item.ensures.item in
    (omega (arith, c.decreases, deep), c.item_at-item.ensures.placed)

pub push_items-returns-in_err-push_item-clause-told : goal.push_items-returns-in_err-push_item-clause-told
push_items-returns-in_err-push_item-clause-told t c =
    let p = err_from_is_err_and c.from_residual.result c.from_residual.ensures.1 in
    rw (p.1, p.2) (item_told c.args.self.now c.loop-at.self c.args.from c.loop-at.at c.args.to c.loop-at.auto.at c.loop-at-test.true c.loop-at.invariant.leaves
    c.item_at-item.result c.requires.1 c.item_at-item.ensures.item c.in_err-push_item.field-0.0 c.in_err-push_item.ensures.told)

pub push_items-loop-at-preserved : goal.push_items-loop-at-preserved
push_items-loop-at-preserved t c =
    let first = c.args.self.now in
    let now = c.loop-at.self in
    let item = c.item_at-item.result in
    let step = items_first first now c.args.from c.loop-at.at c.args.to c.loop-at.invariant.leaves.0 c.loop-at.auto.at c.loop-at-test.true item c.requires.1 c.item_at-item.ensures.item in
    let whole = items_read_at first.unread c.args.from c.args.to in
    let rest = items_read_at first.unread (c.loop-at.at + 1) c.args.to in
    let html = c.loop-at.html in
    let tight = c.args.tight in
    let all = c.args.html.now ++ items_html tight (map (map written) whole) in
    record {
      html = joined html c.push_item.new.html (item_html tight (map written (blocks_read_at now.unread item.from item.to))) (items_html tight (map (map written) rest)) all
          (subst (λ items. html ++ items_html tight (map (map written) items) ≡ all) step c.loop-at.invariant.html) c.in_ok-push_item.ensures.pushed;
      leaves = item_next first now c.args.from c.loop-at.at c.args.to c.loop-at.auto.at c.loop-at-test.true c.loop-at.invariant.leaves item c.requires.1 c.item_at-item.ensures.item
          c.push_item.new.self c.in_ok-push_item.ensures.passes;
    }

pub push_inside-returns-in_err-pass-in-Definition-clause-told : goal.push_inside-returns-in_err-pass-in-Definition-clause-told
push_inside-returns-in_err-pass-in-Definition-clause-told t c =
    let p = err_from_is_err_and c.from_residual.result c.from_residual.ensures.1 in
    let unread = c.args.self.now.unread in
    let depths = leaves unread c.in-Definition.is ∙ definition_depths unread.limits.rules (defined_in unread.definitions) _ _ _ in
    rw (p.1, p.2) (subst (TellsOf c.args.self.now c.in_err-pass-in-Definition.field-0.0) (sym depths) c.in_err-pass-in-Definition.ensures.told)

pub push_inside-returns-in_err-push_leaf-in-Paragraph-clause-told : goal.push_inside-returns-in_err-push_leaf-in-Paragraph-clause-told
push_inside-returns-in_err-push_leaf-in-Paragraph-clause-told t c =
    let p = err_from_is_err_and c.from_residual-in_err-push_leaf-in-Paragraph.result c.from_residual-in_err-push_leaf-in-Paragraph.ensures.1 in
    let unread = c.args.self.now.unread in
    let depths = leaves unread c.in-Paragraph.is ∙ paragraph_depths unread.limits.rules (defined_in unread.definitions) _ in
    rw (p.1, p.2) (subst (TellsOf c.args.self.now c.in_err-push_leaf-in-Paragraph.field-0.0) (sym depths) c.in_err-push_leaf-in-Paragraph.ensures.told)

pub push_inside-returns-in_ok-pass-in-Definition-clause-pushed : goal.push_inside-returns-in_ok-pass-in-Definition-clause-pushed
push_inside-returns-in_ok-pass-in-Definition-clause-pushed t c =
    let unread = c.args.self.now.unread in
    let same = shows unread c.in-Definition.is ∙ definition_written unread.limits.rules (defined_in unread.definitions) _ _ _ in
    λ others. nothing_inside c.args.tight c.args.fresh (written (block_read_of unread c.args.block)) others c.args.html.now same

pub push_inside-returns-in_ok-pass-in-Definition-clause-passes : goal.push_inside-returns-in_ok-pass-in-Definition-clause-passes
push_inside-returns-in_ok-pass-in-Definition-clause-passes t c =
    let unread = c.args.self.now.unread in
    let depths = leaves unread c.in-Definition.is ∙ definition_depths unread.limits.rules (defined_in unread.definitions) _ _ _ in
    subst (HasRead c.args.self.now c.pass.new.self) (sym depths) c.in_ok-pass-in-Definition.ensures.passes

pub push_inside-returns-in_ok-push_leaf-in-Paragraph-clause-pushed : goal.push_inside-returns-in_ok-push_leaf-in-Paragraph-clause-pushed
push_inside-returns-in_ok-push_leaf-in-Paragraph-clause-pushed t c =
    let unread = c.args.self.now.unread in
    let same = shows unread c.in-Paragraph.is ∙ paragraph_written unread.limits.rules (defined_in unread.definitions) _ in
    λ others. inlines_inside c.args.tight c.args.fresh (written (block_read_of unread c.args.block)) others _ c.args.html.now c.push_leaf.new.html c.if-tight.true same c.in_ok-push_leaf-in-Paragraph.ensures.pushed

pub push_inside-returns-in_ok-push_leaf-in-Paragraph-clause-passes : goal.push_inside-returns-in_ok-push_leaf-in-Paragraph-clause-passes
push_inside-returns-in_ok-push_leaf-in-Paragraph-clause-passes t c =
    let unread = c.args.self.now.unread in
    let depths = leaves unread c.in-Paragraph.is ∙ paragraph_depths unread.limits.rules (defined_in unread.definitions) _ in
    subst (HasRead c.args.self.now c.push_leaf.new.self) (sym depths) c.in_ok-push_leaf-in-Paragraph.ensures.passes

pub push_inside-returns-in_ok-push_apart-in-Paragraph-clause-pushed : goal.push_inside-returns-in_ok-push_apart-in-Paragraph-clause-pushed
push_inside-returns-in_ok-push_apart-in-Paragraph-clause-pushed t c =
    let unread = c.args.self.now.unread in
    let same = shows unread c.in-Paragraph.is ∙ paragraph_written unread.limits.rules (defined_in unread.definitions) _ in
    λ others. loose_inlines_inside c.args.tight c.args.fresh (written (block_read_of unread c.args.block)) others _ c.args.html.now c.push_apart.new.html c.if-tight.false same
    (subst (λ b. c.push_apart.new.html ≡ c.args.html.now ++ (line_feed_if c.args.fresh ++ alone (written (block_read_of unread b)))) (sym c.in-Paragraph.is) c.in_ok-push_apart-in-Paragraph.ensures.pushed)

pub push_inside-returns-in_ok-push_apart-in_default-clause-pushed : goal.push_inside-returns-in_ok-push_apart-in_default-clause-pushed
push_inside-returns-in_ok-push_apart-in_default-clause-pushed t c =
    let unread = c.args.self.now.unread in
    let whole = whole_written unread.limits.rules (defined_in unread.definitions) unread.raw c.args.block c.in_default.not-Paragraph c.in_default.not-Definition in
    λ others. whole_inside c.args.tight c.args.fresh (written (block_read_of unread c.args.block)) others whole.0 c.args.html.now c.push_apart-in_default.new.html whole.1 c.in_ok-push_apart-in_default.ensures.pushed
