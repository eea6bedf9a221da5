-- How many emphasis, strong emphasis and strikethrough inlines there are, at every depth (CommonMark 0.31.2,
-- 6.2 Emphasis and strong emphasis).
use Rattle.std.specs.Prelude.{ℕ, ◌+◌, List, [], ◌∷◌, map}
use Rattle.cm_tree.specs.declared.tree.Inline.{Inline, Inline-F}
use Rattle.cm_tree.specs.declared.tree.Inline.TheOpen.{Emph, Strong, Strike, Link, Image}
use Rattle.cm_tree.specs.declared.tree.Inline.TheFolds.{fold-Inline}

abbrev pub sum : List ℕ → ℕ
sum [] = 0
sum (n ∷ ns) = n + sum ns

-- one inline, given the number in each inline of its content
abbrev pub emphases_step : Inline-F ℕ → ℕ
emphases_step (Emph content) = sum content + 1
emphases_step (Strong content) = sum content + 1
emphases_step (Strike content) = sum content + 1
emphases_step (Link dest title content) = sum content
emphases_step (Image dest title content) = sum content
emphases_step _ = 0

-- how many of these an inline is or contains, at every depth
abbrev pub emphases_of : Inline → ℕ
emphases_of = fold-Inline ℕ emphases_step

-- how many emphasis, strong emphasis and strikethrough inlines there are, at every depth
abbrev pub emphases : List Inline → ℕ
emphases inlines = sum (map emphases_of inlines)
