use Rattle.std.proofs.Common.{not, ap, sym, ◌∙◌}
use Rattle.cm_scan.specs.Words.{is_blank_text}
use Rattle.cm_scan.specs.blocks.HtmlKinds.{kind_of}
use Rattle.cm_source.proofs.lemmas.refusals.HtmlAlone.{fits-blank, fits-end, ends-as}
use Rattle.cm_source.proofs.html_alone.fits.Goals as goal

pub returns-then-ends_at_blank_line : goal.returns-then-ends_at_blank_line
returns-then-ends_at_blank_line c =
    ap not (c.is_blank_text.ensures.blank ∙ ap is_blank_text c.as_bytes.ensures.value) ∙ sym (fits-blank (kind_of c.args.kind) c.args.line.now c.args.last (sym c.ends_at_blank_line.ensures ∙ c.if-ends_at_blank_line.true))

pub returns : goal.returns
returns c =
    ends-as (kind_of c.args.kind) c.args.line.now c.args.last c.html_end.result c.is_some.result c.html_end.ensures.end c.is_some.ensures
    ∙ sym (fits-end (kind_of c.args.kind) c.args.line.now c.args.last (sym c.ends_at_blank_line.ensures ∙ c.if-ends_at_blank_line.false))
