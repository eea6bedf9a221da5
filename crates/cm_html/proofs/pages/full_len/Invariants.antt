use Rattle.std.proofs.Common.{◌≡◌, ◌+◌, drop, length}
use Rattle.std.specs.List.{concat}
use Rattle.cm_html.proofs.pages.full_len.Given as goal

-- what was counted and what is left are all
abbrev pub invariant-loop-page : goal.invariant-loop-page
invariant-loop-page l = l.len + length (concat (drop l.page-index l.pages)) ≡ length (concat l.pages)
