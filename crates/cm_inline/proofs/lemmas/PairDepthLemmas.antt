-- How deep items nest that a pass makes pairs of: none becomes less deep, and a pair is deeper than what it wraps.
use Rattle.cm_inline.proofs.lemmas.Words.{◌≡◌, ℕ, zero, suc, ◌-◌, ◌<◌, ◌≤◌, Bool, true, false, cond, nat_le, List, [], ◌∷◌, reverse, Option, Some, None, refl, sym, ap}
use Rattle.cm_inline.proofs.lemmas.Words.{◌∙◌, arith, append-nil, reverse-append, inlines_depth, Run, Item, Delimiters, Opened, nearest_opener, without, used, settled}
use Rattle.cm_inline.proofs.lemmas.Words.{up_to_pair, passed, pass_from, nearest-splits, closed_by-gone, closed_by-more, rules, nat_tests}
use Rattle.cm_scan.specs.inlines.OnePass.{closer_left, closed_within}
use Rattle.cm_scan.proofs.lemmas.inlines.PairingLemmas.{together}
use Rattle.cm_scan.proofs.lemmas.inlines.OnePassLemmas.{closed-none, closed-gone, closed-more}
use Rattle.cm_inline.specs.steps.Depths.{items_depth}
use Rattle.cm_inline.proofs.lemmas.InlineDepthLemmas.{emphasised-depth, both, settled-after-depth}
use Rattle.cm_inline.proofs.lemmas.CloserLemmas.{pass-closer, pass-other}

pub reverse-depth : (items : List Item) → items_depth (reverse items) ≡ items_depth items
reverse-depth [] = refl
reverse-depth (item ∷ items) = ap items_depth (reverse-append (item ∷ []) items) ∙ omega (arith, both (reverse items) (item ∷ []), reverse-depth items)

pub settled-items : (items : List Item) → inlines_depth (settled items) ≡ items_depth items
settled-items items = settled-after-depth [] items

without-depth : (n : ℕ) (run : Run) → items_depth (without n run) ≡ 0
without-depth n run = elim (nat_le run.left n) as (λ b. items_depth (cond b [] (Delimiters (record run { left = run.left - n }) ∷ [])) ≡ 0) [ true ↦ refl | false ↦ omega arith ]

-- a pair nests deeper than what is between its runs, and no less deep than what is before
pub pair-deeper : (found : Opened) (closer : Run) → (items_depth found.inside < items_depth (up_to_pair found closer)) × (items_depth (together found) ≤ items_depth (up_to_pair found closer))
pair-deeper found closer = search (rules, emphasised-depth, settled-items, both, without-depth)

split-depth : (before : List Item) (closer : Run) (found : Opened) → nearest_opener closer before [] ≡ Some found → items_depth before ≤ items_depth (up_to_pair found closer)
split-depth before closer found s =
    let whole : items_depth before ≡ items_depth (together found) = sym (reverse-depth before) ∙ ap items_depth (sym (append-nil (reverse before)) ∙ nearest-splits closer before [] found s) in
    omega (arith, whole, (pair-deeper found closer).1)

closed-deeper : (n : ℕ) (before : List Item) (closer : Run) → items_depth before ≤ items_depth (closed_within n before closer)
unfolding closed_within
closed-deeper zero before closer = omega arith
closed-deeper (suc n) before closer = go (nearest_opener closer before []) refl (λ items run. closed-deeper n items run)
  where
    go : (o : Option Opened) → nearest_opener closer before [] ≡ o → ((items : List Item) (run : Run) → items_depth items ≤ items_depth (closed_within n items run)) → items_depth before ≤ items_depth (closed_within (suc n) before closer)
    go None s further = omega (arith, ap items_depth (closed-none n before closer s))
    go (Some found) s further = part (nat_le closer.left (used found.opener closer)) refl
      where
        part : (b : Bool) → nat_le closer.left (used found.opener closer) ≡ b → items_depth before ≤ items_depth (closed_within (suc n) before closer)
        part true k = omega (arith, split-depth before closer found s, reverse-depth (up_to_pair found closer), ap items_depth (closed-gone n before closer found s k))
        part false k =
            omega (arith, split-depth before closer found s, reverse-depth (up_to_pair found closer), ap items_depth (closed-more n before closer found s k), further (reverse (up_to_pair found closer)) (closer_left found closer))

-- what a closer comes to nests deeper than what is between it and its opener
pub closer-deeper : (before : List Item) (closer : Run) (found : Opened) → closer.closes ≡ true → nearest_opener closer before [] ≡ Some found → items_depth found.inside < items_depth (passed before (Delimiters closer))
closer-deeper before closer found h s = go (nat_le closer.left (used found.opener closer)) refl
  where
    more : items_depth found.inside < items_depth (reverse (up_to_pair found closer))
    more = omega (arith, (pair-deeper found closer).0, reverse-depth (up_to_pair found closer))

    go : (b : Bool) → nat_le closer.left (used found.opener closer) ≡ b → items_depth found.inside < items_depth (passed before (Delimiters closer))
    go true k = omega (arith, more, ap items_depth (pass-closer before closer h ∙ closed_by-gone before closer found s k))
    go false k =
        omega (arith, more, ap items_depth (pass-closer before closer h ∙ closed_by-more before closer found s k), closed-deeper (suc (closer_left found closer).left) (reverse (up_to_pair found closer)) (closer_left found closer))

pub passed-deeper : (before : List Item) (item : Item) → items_depth before ≤ items_depth (passed before item)
passed-deeper before item = grind (arith, nat_tests, pass-closer, closed-deeper, pass-other)

-- the items that follow take nothing of it
pub pass-deeper : (before after : List Item) → items_depth before ≤ items_depth (pass_from before after)
unfolding pass_from
pass-deeper before [] = omega (arith, reverse-depth before)
pass-deeper before (item ∷ after) = omega (arith, passed-deeper before item, pass-deeper (passed before item) after)
