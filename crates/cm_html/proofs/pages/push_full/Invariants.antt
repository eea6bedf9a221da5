use Rattle.std.proofs.Common.{◌≡◌, ◌++◌, drop, string_bytes}
use Rattle.std.specs.List.{concat}
use Rattle.cm_html.proofs.pages.push_full.Given as goal

-- what was added and what is left are all
abbrev pub invariant-loop-page : goal.invariant-loop-page
invariant-loop-page l = string_bytes l.out ++ concat (drop l.page-index l.pages) ≡ string_bytes l.fn.out ++ concat l.pages
