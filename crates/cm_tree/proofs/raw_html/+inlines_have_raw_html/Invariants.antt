use Rattle.std.proofs.Common.{◌≡◌, ◌||◌, drop}
use Rattle.cm_tree.specs.RawHtml.{inlines_have_raw}
use Rattle.cm_tree.proofs.raw_html.+inlines_have_raw_html.Given as goal

-- what was found and what is left have the answer of all
abbrev pub invariant-inlines_have_raw_html-loop-inline : goal.invariant-inlines_have_raw_html-loop-inline
invariant-inlines_have_raw_html-loop-inline l = (l.found || inlines_have_raw (drop l.inline-index l.inlines)) ≡ inlines_have_raw l.inlines
