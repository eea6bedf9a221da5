use Rattle.std.proofs.Common.{◌∙◌, ap, sym}
use Rattle.cm_text.specs.declared.view.View.{View}
use Rattle.cm_text.specs.Views.{seen_view}
use Rattle.cm_scan.specs.blocks.Blocks.{next_line}
use Rattle.cm_block.specs.steps.LeafSteps.{leaf_line}
use Rattle.cm_block.proofs.lemmas.NextLineLemmas.{ends_blank, text_goes_on}
use Rattle.cm_block.proofs.counted_line.CountedLine.look.Goals as goal

pub returns-then-begins_with_letter-clause-next : goal.returns-then-begins_with_letter-clause-next
returns-then-begins_with_letter-clause-next c = λ by source.
    ap leaf_line (text_goes_on c.read-line.result.view (c.begins_with_letter.ensures c.if-begins_with_letter.true) by source)
    ∙ ap (λ (v : View). leaf_line (next_line by source (seen_view v))) c.read-line.ensures.line

pub returns-then-begins_as_text-clause-next : goal.returns-then-begins_as_text-clause-next
returns-then-begins_as_text-clause-next c = λ by source.
    ap leaf_line (text_goes_on c.read-line.result.view (sym c.begins_as_text.ensures ∙ c.if-begins_as_text.true) by source)
    ∙ ap (λ (v : View). leaf_line (next_line by source (seen_view v))) c.read-line.ensures.line

pub returns-then-is_blank-clause-next : goal.returns-then-is_blank-clause-next
returns-then-is_blank-clause-next c = λ by source.
    ap leaf_line (ends_blank by source (seen_view c.read-line.result.view) (sym c.is_blank.ensures ∙ c.if-is_blank.true))
    ∙ ap (λ (v : View). leaf_line (next_line by source (seen_view v))) c.read-line.ensures.line
