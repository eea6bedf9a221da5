use Rattle.std.proofs.Common.{sym, ◌∙◌}
use Rattle.cm_json.specs.Mdast.{text_node}
use Rattle.cm_json.specs.Printing.{text}
use Rattle.cm_json.proofs.lemmas.InlineKinds.{line_feed-written, other_text-written}
use Rattle.cm_json.proofs.lemmas.Pushed.{in_full}
use Rattle.cm_json.proofs.inlines.push_text.Goals as goal

pub returns-then-has_line_feed : goal.returns-then-has_line_feed
returns-then-has_line_feed c =
    in_full c.push_literal.result _ _ _ (text (text_node c.args.value.now)) c.push_literal.ensures
    (line_feed-written c.args.value.now (sym c.has_line_feed.ensures ∙ c.if-has_line_feed.true))

pub returns : goal.returns
returns c =
    in_full c.push_literal-2.result _ _ _ (text (text_node c.args.value.now)) c.push_literal-2.ensures
    (other_text-written c.args.value.now (sym c.has_line_feed.ensures ∙ c.if-has_line_feed.false))
