use Rattle.std.proofs.Common.{◌∙◌, ap, sym, inl, inr, true, false}
use Rattle.cm_tool.specs.Shown.{is_formatting}
use Rattle.cm_tool.proofs.lemmas.ShownLemmas.{not_formatting, control_prints_nothing, by_category}
use Rattle.cm_tool.proofs.shown.is_nonprinting.Goals as goal

pub returns-then-is_control : goal.returns-then-is_control
returns-then-is_control c = c.if-is_control.true ∙ control_prints_nothing c.args.c (sym c.is_control.ensures ∙ c.if-is_control.true)

pub returns-in-Format : goal.returns-in-Format
returns-in-Format c =
    let other = sym c.is_control.ensures ∙ c.if-is_control.false in
    let category = sym c.for_char.ensures in
    elim c.in-Format.is [
      | inl is ↦ by_category c.args.c true other (ap is_formatting (category ∙ is))
      | inr (inl is) ↦ by_category c.args.c true other (ap is_formatting (category ∙ is))
      | inr (inr is) ↦ by_category c.args.c true other (ap is_formatting (category ∙ is))
    ]

pub returns-in_default : goal.returns-in_default
returns-in_default c =
    by_category c.args.c false (sym c.is_control.ensures ∙ c.if-is_control.false)
    (ap is_formatting (sym c.for_char.ensures) ∙ not_formatting c.for_char.result c.in_default.not-Format c.in_default.not-LineSeparator c.in_default.not-ParagraphSeparator)
