use Rattle.std.proofs.Common.{◌∙◌, sym, ap, arith}
use Rattle.cm_text.specs.Views.{seen_view}
use Rattle.cm_scan.specs.blocks.Starts.{start_of_content}
use Rattle.cm_block.proofs.lemmas.StartLemmas.{starts_lazy, starts_content}
use Rattle.cm_block.proofs.lemmas.PlainItems.{plain_content, plain_indent}
use Rattle.cm_block.proofs.counted_line.starts.start_of.Goals as goal

pub returns-then-line : goal.returns-then-line
returns-then-line c = starts_lazy _ (seen_view c.args.line.now) c.if-line.true

pub returns-then-begins_plain : goal.returns-then-begins_plain
returns-then-begins_plain c =
    let line = c.args.line.now in
    let plain = sym c.begins_plain.ensures ∙ c.if-begins_plain.true in
    let indent = plain_indent line.spaces line.column line.rest.now plain in
    c.start_of_content.ensures
    ∙ ap (start_of_content c.args.rules) (plain_content line.spaces line.rest.now plain)
    ∙ starts_content c.args.rules (seen_view line) c.if-line.false (omega (arith, indent, c.if-line-le3.true))
