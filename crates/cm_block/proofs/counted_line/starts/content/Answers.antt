use Rattle.std.proofs.Common.{◌∙◌, sym, arith}
use Rattle.cm_text.specs.Views.{seen_view}
use Rattle.cm_block.proofs.lemmas.StartLemmas.{content_left}
use Rattle.cm_block.proofs.lemmas.PlainItems.{plain_content}
use Rattle.cm_block.proofs.counted_line.starts.content.Goals as goal

pub returns-then-begins_plain-clause-content : goal.returns-then-begins_plain-clause-content
returns-then-begins_plain-clause-content c = plain_content c.args.line.now.spaces c.args.line.now.rest.now (sym c.begins_plain.ensures ∙ c.if-begins_plain.true)

pub returns-clause-content : goal.returns-clause-content
returns-clause-content c =
    content_left (seen_view c.args.line.now) c.indent.result c.strip.result c.indent.ensures c.strip.ensures.line
    (c.strip.ensures.bare (omega (arith, c.indent.ensures)))
