-- The looks for which items pay, and the emphasis that they hold, one after another.
use Rattle.cm_inline.proofs.lemmas.Words.{◌≡◌, ℕ, ◌+◌, List, [], ◌∷◌, ◌++◌, ap, ◌∙◌, arith, sum_by-append, sum_by-cons, Item}
use Rattle.cm_inline.specs.steps.Pairs.{AreOf, allowed, allowance, item_emphases, items_emphases}
use Rattle.cm_inline.proofs.lemmas.EmphasisLemmas.{both-hold}

pub allowance-both : (kinds : ℕ) (items more : List Item) → allowance kinds (items ++ more) ≡ allowance kinds items + allowance kinds more
allowance-both kinds items more = sum_by-append (allowed kinds) items more

pub allowance-one : (kinds : ℕ) (item : Item) → allowance kinds (item ∷ []) ≡ allowed kinds item
allowance-one kinds item = omega (arith, sum_by-cons (allowed kinds) item [])

pub allowance-more : (kinds : ℕ) (items : List Item) (item : Item) → allowance kinds (items ++ item ∷ []) ≡ allowance kinds items + allowed kinds item
allowance-more kinds items item = allowance-both kinds items (item ∷ []) ∙ ap (λ n. allowance kinds items + n) (allowance-one kinds item)

pub emphases-more : (items : List Item) (item : Item) → items_emphases (items ++ item ∷ []) ≡ items_emphases items + item_emphases item
emphases-more items item = omega (arith, both-hold items (item ∷ []))

pub of-append : (kinds : ℕ) (items more : List Item) → AreOf kinds items → AreOf kinds more → AreOf kinds (items ++ more)
of-append kinds [] more is others = others
of-append kinds (item ∷ items) more is others = (is.0, of-append kinds items more is.1 others)

pub of-split : (kinds : ℕ) (items more : List Item) → AreOf kinds (items ++ more) → AreOf kinds items × AreOf kinds more
of-split kinds [] more is = (tt, is)
of-split kinds (item ∷ items) more is = let rest = of-split kinds items more is.1 in ((is.0, rest.0), rest.1)
