use Rattle.std.proofs.Common.{◌∙◌, drop, sym, arith}
use Rattle.std.proofs.lemmas.Grind.{common_steps}
use Rattle.cm_scan.proofs.lemmas.blocks.LineFormLemmas.{underline_one, underline_two, underline_none}
use Rattle.cm_scan.proofs.line_forms.underline.Goals as goal

pub returns-then-is_underline_of : goal.returns-then-is_underline_of
returns-then-is_underline_of c = record { underline = grind (arith, common_steps, underline_one (drop c.args.at c.args.text.now) (sym c.is_underline_of.ensures.underline ∙ c.if-is_underline_of.true)) }

pub returns-then-is_underline_of-2 : goal.returns-then-is_underline_of-2
returns-then-is_underline_of-2 c = record { underline = grind (arith, common_steps, underline_two (drop c.args.at c.args.text.now) (sym c.is_underline_of.ensures.underline ∙ c.if-is_underline_of.false) (sym c.is_underline_of-2.ensures.underline ∙ c.if-is_underline_of-2.true)) }

pub returns : goal.returns
returns c = record { underline = grind (arith, common_steps, underline_none (drop c.args.at c.args.text.now) (sym c.is_underline_of.ensures.underline ∙ c.if-is_underline_of.false) (sym c.is_underline_of-2.ensures.underline ∙ c.if-is_underline_of-2.false)) }
