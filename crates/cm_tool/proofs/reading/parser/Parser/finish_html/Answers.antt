use Rattle.std.proofs.Common.{◌≡◌, ◌∙◌, subst}
use Rattle.cm_text.specs.Limits.{LimitsView}
use Rattle.cm_tool.specs.Parsing.{Makes}
use Rattle.cm_tool.specs.Writing.{converted}
use Rattle.cm_tool.specs.steps.ReadingSteps.{IsOutline}
use Rattle.cm_tool.proofs.reading.parser.Parser.finish_html.Goals as goal

pub returns-clause-finishes : goal.returns-clause-finishes
returns-clause-finishes c = λ limits bytes stands.
    subst (λ (l : LimitsView). IsOutline l bytes c.in_ok-outline.field-0 → Makes (λ pages. pages ≡ converted l.rules bytes) c.html_of_outline.result l bytes)
    (c.limits-limits.ensures ∙ stands.goes.same_limits) (c.html_of_outline.ensures bytes) (c.in_ok-outline.ensures.outline limits bytes stands)
