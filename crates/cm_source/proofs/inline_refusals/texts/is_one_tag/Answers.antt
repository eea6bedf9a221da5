use Rattle.std.proofs.Common.{sym, ◌∙◌}
use Rattle.std.proofs.lemmas.Str.{IsCharBoundary-start}
use Rattle.cm_source.proofs.lemmas.refusals.RefusalLemmas.{some-read, none-read, link-no_tag, no-tag, one-tag, at-end}
use Rattle.cm_source.proofs.inline_refusals.texts.is_one_tag.Goals as goal

pub autolink_by-requires : goal.autolink_by-requires
autolink_by-requires c = IsCharBoundary-start c.args.text.now c.utf8.text

pub raw_html_by-requires : goal.raw_html_by-requires
raw_html_by-requires c = IsCharBoundary-start c.args.text.now c.utf8.text

pub returns-then-is_some : goal.returns-then-is_some
returns-then-is_some c =
    let link = some-read _ c.autolink_by.result _ c.autolink_by.ensures.read (sym c.is_some.ensures ∙ c.if-is_some.true) in
    sym (link-no_tag c.args.rules c.args.text.now link.0 link.1)

pub returns-in-Some : goal.returns-in-Some
returns-in-Some c =
    let none = none-read _ c.autolink_by.result _ c.autolink_by.ensures.read (sym c.is_some.ensures ∙ c.if-is_some.false) in
    at-end c.args.text.now c.in-Some.end c.in-Some.ensures.boundary.0 ∙ sym (one-tag c.args.rules c.args.text.now _ none c.in-Some.ensures.read)

pub returns-in-None : goal.returns-in-None
returns-in-None c =
    let none = none-read _ c.autolink_by.result _ c.autolink_by.ensures.read (sym c.is_some.ensures ∙ c.if-is_some.false) in
    sym (no-tag c.args.rules c.args.text.now none c.in-None.ensures.read)
