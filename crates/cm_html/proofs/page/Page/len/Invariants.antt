use Rattle.std.proofs.Common.{◌≡◌, ◌+◌, drop}
use Rattle.cm_html.proofs.lemmas.PageLemmas.{lengths}
use Rattle.cm_html.proofs.page.Page.len.Given as goal

-- what was counted and what is left are all
abbrev pub invariant-loop-insertion : goal.invariant-loop-insertion
invariant-loop-insertion l = l.len + lengths (drop l.insertion-index l.insertions) ≡ l.initial.len + lengths l.insertions
