use Rattle.std.proofs.Common.{[], ◌∷◌, ◌++◌, Some, suc, true, false, string_bytes, sym, ap, ap₂, ◌∙◌}
use Rattle.cm_text.specs.Indentation.{strip_columns}
use Rattle.cm_text.specs.Views.{seen_view}
use Rattle.cm_text.specs.declared.view.View.{View}
use Rattle.cm_scan.specs.blocks.Lines.{with_ending}
use Rattle.cm_scan.specs.blocks.LineForms.{Fence}
use Rattle.cm_scan.specs.blocks.HtmlBlocks.{is_html_end}
use Rattle.cm_scan.specs.blocks.HtmlKinds.{kind_of}
use Rattle.cm_scan.specs.blocks.Parts.{html}
use Rattle.cm_scan.specs.blocks.Blocks.{line_feeds, add_text, next_line}
use Rattle.cm_block.specs.declared.open_leaf.Ending.TheVariants.{Plain, ClosingFence}
use Rattle.cm_block.specs.OpenLeaf.{open_fence, open_html, stays_open, is_last}
use Rattle.cm_block.specs.LeafViews.{ended, leaf_with}
use Rattle.cm_block.specs.steps.LeafSteps.{leaf_line, leaves_of_kind}
use Rattle.cm_block.proofs.lemmas.LeafLemmas.{line_by_kind, no_line, run_goes_on, run_ends, fence_line, html_out, html_line, one_more}
use Rattle.cm_block.proofs.open_leaf.OpenLeaf.take_line.Goals as goal

pub returns-in-Nothing-clause-line : goal.returns-in-Nothing-clause-line
returns-in-Nothing-clause-line c =
    let line = seen_view c.args.line.now.rest in
    no_line _ line ∙ line_by_kind c.args.rules c.args.self.now _ line c.in-Nothing.is

pub returns-in_ok-add_text-in-Run-clause-line : goal.returns-in_ok-add_text-in-Run-clause-line
returns-in_ok-add_text-in-Run-clause-line c =
    let line = seen_view c.args.line.now.rest in
    let source = c.args.self.now.text in
    let next = c.next_line-next.ensures in
    run_goes_on c.args.rules c.args.self.now _ line _ c.in-Run.is c.in-Run.is c.in-Stays.is (next.next ∙ ap (λ t. leaf_line (next_line c.args.rules t line)) c.as_str.ensures)
    (c.in_ok-add_text-in-Run.ensures.text ∙ ap (λ (v : View). add_text source (seen_view v)) next.same)

pub returns-in_default-clause-line : goal.returns-in_default-clause-line
returns-in_default-clause-line c =
    let line = seen_view c.args.line.now.rest in
    run_ends c.args.rules c.args.self.now line _ c.in-Run.is c.in_default.not-Stays (c.next_line-next.ensures.next ∙ ap (λ t. leaf_line (next_line c.args.rules t line)) c.as_str.ensures)

pub returns-then-closes_fence-clause-line : goal.returns-then-closes_fence-clause-line
returns-then-closes_fence-clause-line c =
    let line = seen_view c.args.line.now.rest in
    let kind = c.in-Fence.kind in
    let info = string_bytes c.args.self.now.info in
    let text = c.args.self.now.text in
    ap (λ k. Some (is_last (leaves_of_kind ClosingFence k text info))) c.in-Fence.is
    ∙ fence_line _ (record { marker = kind.marker; count = kind.count; info = info }) c.in-Fence.columns text (suc (line_feeds text)) line true (c.if-closes_fence.ensures.closes info)
    ∙ line_by_kind c.args.rules c.args.self.now _ line c.in-Fence.is

pub returns-in_ok-add_fenced-in-Fence-clause-line : goal.returns-in_ok-add_fenced-in-Fence-clause-line
returns-in_ok-add_fenced-in-Fence-clause-line c =
    let line = seen_view c.args.line.now.rest in
    let info = string_bytes c.args.self.now.info in
    let text = c.args.self.now.text in
    let fence : Fence = record { marker = c.in-Fence.kind.marker; count = c.in-Fence.kind.count; info = info } in
    let added = c.in_ok-add_fenced-in-Fence.ensures in
    ap (λ k. Some (stays_open (leaf_with k c.add_fenced.new.text c.args.self.now.blank_lines info))) c.in-Fence.is
    ∙ ap₂ (λ t n. Some (stays_open (open_fence fence c.in-Fence.columns t (suc n))))
    (added.text ∙ ap (λ (v : View). text ++ with_ending (strip_columns c.in-Fence.columns (seen_view v))) c.if-closes_fence.ensures.read.same) added.feeds
    ∙ fence_line _ fence c.in-Fence.columns text (suc (line_feeds text)) line false (c.if-closes_fence.ensures.closes info)
    ∙ line_by_kind c.args.rules c.args.self.now _ line c.in-Fence.is

pub returns-then-leaves_html-clause-line : goal.returns-then-leaves_html-clause-line
returns-then-leaves_html-clause-line c =
    let line = seen_view c.args.line.now.rest in
    let text = c.args.self.now.text in
    html_out _ (kind_of c.in-Html.kind) (ended text) (suc (line_feeds text)) line (sym c.if-leaves_html.ensures.leaves)
    ∙ line_by_kind c.args.rules c.args.self.now _ line c.in-Html.is

pub returns-then-ends-clause-line : goal.returns-then-ends-clause-line
returns-then-ends-clause-line c =
    let line = seen_view c.args.line.now.rest in
    let text = c.args.self.now.text in
    let added = c.in_ok-add_html-in-Html.ensures in
    let left = c.if-leaves_html.ensures.same in
    let bytes = added.text ∙ ap (λ (v : View). text ++ 10 ∷ (seen_view v).text) (c.if-ends.ensures.read.same ∙ left) in
    let ends = c.if-ends.ensures.ends ∙ ap (λ (v : View). is_html_end (kind_of c.in-Html.kind) (seen_view v).text) left in
    ap (λ k. Some (is_last (leaves_of_kind Plain k c.add_html.new.text (string_bytes c.args.self.now.info)))) c.in-Html.is
    ∙ ap₂ (λ t n. Some (is_last ((html t, suc n) ∷ []))) (one_more text _ line.text bytes) added.feeds
    ∙ html_line _ (kind_of c.in-Html.kind) (ended text) (suc (line_feeds text)) line true (sym c.if-leaves_html.ensures.leaves) ends
    ∙ line_by_kind c.args.rules c.args.self.now _ line c.in-Html.is

pub returns-else-ends-clause-line : goal.returns-else-ends-clause-line
returns-else-ends-clause-line c =
    let line = seen_view c.args.line.now.rest in
    let text = c.args.self.now.text in
    let added = c.in_ok-add_html-in-Html.ensures in
    let left = c.if-leaves_html.ensures.same in
    let bytes = added.text ∙ ap (λ (v : View). text ++ 10 ∷ (seen_view v).text) (c.if-ends.ensures.read.same ∙ left) in
    let ends = c.if-ends.ensures.ends ∙ ap (λ (v : View). is_html_end (kind_of c.in-Html.kind) (seen_view v).text) left in
    ap (λ k. Some (stays_open (leaf_with k c.add_html.new.text c.args.self.now.blank_lines (string_bytes c.args.self.now.info)))) c.in-Html.is
    ∙ ap₂ (λ t n. Some (stays_open (open_html (kind_of c.in-Html.kind) t (suc n)))) (one_more text _ line.text bytes) added.feeds
    ∙ html_line _ (kind_of c.in-Html.kind) (ended text) (suc (line_feeds text)) line false (sym c.if-leaves_html.ensures.leaves) ends
    ∙ line_by_kind c.args.rules c.args.self.now _ line c.in-Html.is
