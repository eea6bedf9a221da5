use Rattle.std.proofs.Common.{◌∙◌, sym}
use Rattle.cm_text.specs.Views.{seen_view}
use Rattle.cm_scan.specs.blocks.HtmlKinds.{kind_of}
use Rattle.cm_block.proofs.lemmas.LeafLemmas.{html_ends, no_html_end}
use Rattle.cm_block.proofs.counted_line.ends.ends_html.Goals as goal

pub returns-then-ends_at_blank_line : goal.returns-then-ends_at_blank_line
returns-then-ends_at_blank_line c =
    no_html_end (kind_of c.args.kind) (seen_view c.args.line.now).text (sym c.ends_at_blank_line.ensures ∙ c.if-ends_at_blank_line.true)

pub returns : goal.returns
returns c = c.is_some.ensures ∙ html_ends (kind_of c.args.kind) c.args.line.now.spaces c.args.line.now.rest.now c.html_end.result _ c.html_end.ensures.end
