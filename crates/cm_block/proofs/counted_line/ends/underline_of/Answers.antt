use Rattle.std.proofs.Common.{◌∙◌, sym, arith}
use Rattle.cm_text.specs.Views.{seen_view}
use Rattle.cm_block.proofs.lemmas.NextLineLemmas.{underline_lazy, underline_far, underline_none, underline_some}
use Rattle.cm_block.proofs.lemmas.StartLemmas.{text_underlines}
use Rattle.cm_block.proofs.counted_line.ends.underline_of.Goals as goal

pub returns-then-line : goal.returns-then-line
returns-then-line c = underline_lazy (seen_view c.args.line.now) c.if-line.true

pub returns-then-begins_with_letter : goal.returns-then-begins_with_letter
returns-then-begins_with_letter c = sym (text_underlines c.args.line.now (c.begins_with_letter.ensures.text c.if-begins_with_letter.true) c.if-line.false)

pub returns-then-indent_of-gt3 : goal.returns-then-indent_of-gt3
returns-then-indent_of-gt3 c = underline_far (seen_view c.args.line.now) (omega (arith, c.indent_of.ensures, c.if-indent_of-gt3.true))

pub returns-in_err-level : goal.returns-in_err-level
returns-in_err-level c =
    c.from_residual.ensures
    ∙ underline_none (seen_view c.args.line.now) c.content.result.now _ c.if-line.false (omega (arith, c.indent_of.ensures, c.if-indent_of-gt3.false)) c.content.ensures.content c.in_err-level.ensures.underline

pub returns : goal.returns
returns c =
    underline_some (seen_view c.args.line.now) c.content.result.now _ c.in_ok-level.level _ c.if-line.false (omega (arith, c.indent_of.ensures, c.if-indent_of-gt3.false)) c.content.ensures.content c.in_ok-level.ensures.underline
