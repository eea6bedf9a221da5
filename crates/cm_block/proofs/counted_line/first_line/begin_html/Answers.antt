use Rattle.std.proofs.Common.{◌≡◌, [], ◌++◌, Some, ap, ◌∙◌}
use Rattle.cm_text.specs.Views.{seen_view}
use Rattle.cm_scan.specs.blocks.HtmlKinds.{kind_of}
use Rattle.cm_block.proofs.lemmas.FeedLemmas.{feeds_of_first}
use Rattle.cm_block.proofs.lemmas.LeafLemmas.{no_text, html_begins, html_whole}
use Rattle.cm_block.proofs.counted_line.first_line.begin_html.Goals as goal

pub returns-then-ends_html : goal.returns-then-ends_html
returns-then-ends_html c by =
    let line = seen_view c.args.line.now in
    let text = c.args.leaf.now.text in
    let empty : text ≡ [] = no_text c.args.leaf.now c.requires in
    ap Some (html_whole by (kind_of c.args.kind) c.push_line.new.text line
    (c.in_ok-push_line.ensures ∙ ap (λ t. t ++ line.text) empty)
    (feeds_of_first c.push_line.new.text text c.args.line.now.spaces c.args.line.now.rest.now
    empty c.in_ok-push_line.ensures c.args.line.now.one_line)
    c.if-ends_html.ensures)

pub returns : goal.returns
returns c by =
    let line = seen_view c.args.line.now in
    let text = c.args.leaf.now.text in
    let empty : text ≡ [] = no_text c.args.leaf.now c.requires in
    ap Some (html_begins by (kind_of c.args.kind) c.push_line.new.text line
    (c.in_ok-push_line.ensures ∙ ap (λ t. t ++ line.text) empty)
    (feeds_of_first c.push_line.new.text text c.args.line.now.spaces c.args.line.now.rest.now
    empty c.in_ok-push_line.ensures c.args.line.now.one_line)
    c.if-ends_html.ensures)
