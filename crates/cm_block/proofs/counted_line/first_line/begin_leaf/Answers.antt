use Rattle.std.proofs.Common.{sym, ap, ◌∙◌}
use Rattle.std.proofs.lemmas.Result.{IfOk-weaker}
use Rattle.cm_text.specs.Views.{seen_view}
use Rattle.cm_scan.specs.Words.{given}
use Rattle.cm_block.specs.OpenLeaf.{begin_of_start}
use Rattle.cm_block.specs.steps.StartViews.{seen}
use Rattle.cm_block.specs.steps.FirstLines.{opens_leaf}
use Rattle.cm_block.proofs.counted_line.first_line.begin_leaf.Goals as goal

pub returns-in-TextLine : goal.returns-in-TextLine
returns-in-TextLine c =
    let line = seen_view c.args.line.now in
    IfOk-weaker c.begin_run.result _ _ (λ first opens. opens c.args.rules ∙ ap (λ s. given (opens_leaf (seen s)) (begin_of_start c.args.rules (seen s) line)) (sym c.in-TextLine.is)) c.begin_run.ensures

pub returns-in-IndentedCode : goal.returns-in-IndentedCode
returns-in-IndentedCode c =
    let line = seen_view c.args.line.now in
    IfOk-weaker c.begin_code.result _ _ (λ first opens. opens c.args.rules ∙ ap (λ s. given (opens_leaf (seen s)) (begin_of_start c.args.rules (seen s) line)) (sym c.in-IndentedCode.is)) c.begin_code.ensures

pub returns-in-Html : goal.returns-in-Html
returns-in-Html c =
    let line = seen_view c.args.line.now in
    IfOk-weaker c.begin_html.result _ _ (λ first opens. opens c.args.rules ∙ ap (λ s. given (opens_leaf (seen s)) (begin_of_start c.args.rules (seen s) line)) (sym c.in-Html.is)) c.begin_html.ensures
