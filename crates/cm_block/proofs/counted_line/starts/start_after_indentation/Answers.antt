use Rattle.std.proofs.Common.{◌∙◌, arith}
use Rattle.cm_text.specs.Views.{seen_view}
use Rattle.cm_block.proofs.lemmas.StartLemmas.{starts_code, starts_near}
use Rattle.cm_block.proofs.counted_line.starts.start_after_indentation.Goals as goal

pub returns-then-indent-ge4 : goal.returns-then-indent-ge4
returns-then-indent-ge4 c = starts_code _ (seen_view c.args.line.now) c.requires (omega (arith, c.indent-indent.ensures, c.if-indent-ge4.true))

pub returns : goal.returns
returns c =
    let line = seen_view c.args.line.now in
    c.start_of_content.ensures
    ∙ starts_near _ line c.indent-indent.result c.strip.result c.requires c.indent-indent.ensures (omega (arith, c.if-indent-ge4.false)) c.strip.ensures.line
    (c.strip.ensures.bare (omega (arith, c.indent-indent.ensures)))
