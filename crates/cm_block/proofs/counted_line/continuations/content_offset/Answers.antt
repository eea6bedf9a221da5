use Rattle.std.proofs.Common.{◌∙◌, sym, arith}
use Rattle.cm_text.specs.Views.{seen_view}
use Rattle.cm_block.proofs.lemmas.ContinuationLemmas.{offset_blank, offset_far, offset_near}
use Rattle.cm_block.proofs.counted_line.continuations.content_offset.Goals as goal

pub returns-then-is_blank-clause-value : goal.returns-then-is_blank-clause-value
returns-then-is_blank-clause-value c = offset_blank (seen_view c.args.beyond.now) (sym c.is_blank.ensures ∙ c.if-is_blank.true)

pub returns-then-indent-gt4-clause-value : goal.returns-then-indent-gt4-clause-value
returns-then-indent-gt4-clause-value c =
    offset_far (seen_view c.args.beyond.now) (sym c.is_blank.ensures ∙ c.if-is_blank.false) (omega (arith, c.if-indent-gt4.true, c.indent-indent.ensures))

pub returns-clause-value : goal.returns-clause-value
returns-clause-value c =
    c.indent-indent.ensures
    ∙ offset_near (seen_view c.args.beyond.now) (sym c.is_blank.ensures ∙ c.if-is_blank.false) (omega (arith, c.if-indent-gt4.false, c.indent-indent.ensures))
