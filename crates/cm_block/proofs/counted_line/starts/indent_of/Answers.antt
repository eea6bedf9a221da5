use Rattle.std.proofs.Common.{◌∙◌, sym}
use Rattle.cm_block.proofs.lemmas.PlainItems.{plain_indent}
use Rattle.cm_block.proofs.counted_line.starts.indent_of.Goals as goal

pub returns-then-begins_plain : goal.returns-then-begins_plain
returns-then-begins_plain c =
    let line = c.args.line.now in
    sym (plain_indent line.spaces line.column line.rest.now (sym c.begins_plain.ensures ∙ c.if-begins_plain.true))
