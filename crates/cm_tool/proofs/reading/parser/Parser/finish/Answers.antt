use Rattle.std.proofs.Common.{◌∙◌, subst}
use Rattle.cm_text.specs.Limits.{LimitsView}
use Rattle.cm_tool.specs.Parsing.{Finishes}
use Rattle.cm_tool.specs.steps.ReadingSteps.{IsOutline}
use Rattle.cm_tool.proofs.reading.parser.Parser.finish.Goals as goal

pub returns-clause-finishes : goal.returns-clause-finishes
returns-clause-finishes c = λ limits bytes stands.
    subst (λ (l : LimitsView). IsOutline l bytes c.in_ok-outline.field-0 → Finishes c.doc_of_outline.result l bytes)
    (c.limits-limits.ensures ∙ stands.goes.same_limits) (c.doc_of_outline.ensures bytes) (c.in_ok-outline.ensures.outline limits bytes stands)
