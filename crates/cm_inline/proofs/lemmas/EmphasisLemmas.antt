-- How many of emphasis, strong emphasis and strikethrough items hold, and what is made of them.
use Rattle.cm_inline.proofs.lemmas.Words.{◌≡◌, ℕ, ◌+◌, ◌-◌, Bool, true, false, nat_le, ◌==◌, List, [], ◌∷◌, ◌++◌, reverse, Some, refl, ap, arith, sym, ◌∙◌}
use Rattle.cm_inline.proofs.lemmas.Words.{if◌then◌else◌, reverse-append, Inline, Text, Code, Html, Soft, Hard, Emph, Strong, Strike, Image, outs-Text, outs-Code}
use Rattle.cm_inline.proofs.lemmas.Words.{outs-Html, outs-Soft, outs-Hard, outs-Emph, outs-Strong, outs-Strike, outs-Link, outs-Image, fold_out-Inline, Autolink}
use Rattle.cm_inline.proofs.lemmas.Words.{link_of, Run, Item, Finished, Linked, Delimiters, Opened, text_before, settled_after, settled, emphasis_of, emphasised, used}
use Rattle.cm_inline.proofs.lemmas.Words.{without, nearest_opener, made, up_to_pair, nearest-splits, nat_tests, rules}
use Rattle.std.proofs.Common.{zero-add}
use Rattle.cm_tree.specs.declared.tree.Inline.TheVariants.{Link}
use Rattle.cm_inline.specs.Emphases.{emphases_step, emphases_of, emphases}
use Rattle.cm_inline.specs.steps.Pairs.{items_emphases}

-- more items, or the last first

pub both-hold : (xs ys : List Item) → items_emphases (xs ++ ys) ≡ items_emphases xs + items_emphases ys
both-hold [] ys = omega arith
both-hold (x ∷ xs) ys = omega (arith, both-hold xs ys)

pub reversed-hold : (items : List Item) → items_emphases (reverse items) ≡ items_emphases items
reversed-hold [] = refl
reversed-hold (item ∷ items) = omega (arith, ap items_emphases (reverse-append (item ∷ []) items), both-hold (reverse items) (item ∷ []), reversed-hold items)

-- what is made of items

text-holds : (text : List ℕ) → emphases_of (Text text) ≡ 0
text-holds text = simp (fold_out-Inline ℕ emphases_step, outs-Text)

pub code-holds : (text : List ℕ) → emphases_of (Code text) ≡ 0
code-holds text = simp (fold_out-Inline ℕ emphases_step, outs-Code)

pub html-holds : (text : List ℕ) → emphases_of (Html text) ≡ 0
html-holds text = simp (fold_out-Inline ℕ emphases_step, outs-Html)

pub soft-holds : emphases_of Soft ≡ 0
soft-holds = simp (fold_out-Inline ℕ emphases_step, outs-Soft)

pub hard-holds : emphases_of Hard ≡ 0
hard-holds = simp (fold_out-Inline ℕ emphases_step, outs-Hard)

link-holds : (dest title : List ℕ) (content : List Inline) → emphases_of (Link dest title content) ≡ emphases content
link-holds dest title content = simp (fold_out-Inline ℕ emphases_step, outs-Link)

pub autolink-holds : (link : Autolink) → emphases_of (link_of link) ≡ 0
autolink-holds link = omega (arith, link-holds link.destination [] (Text link.text ∷ []), text-holds link.text)

image-holds : (dest title : List ℕ) (content : List Inline) → emphases_of (Image dest title content) ≡ emphases content
image-holds dest title content = simp (fold_out-Inline ℕ emphases_step, outs-Image)

emphasised-holds : (character count : ℕ) (content : List Inline) → emphases_of (emphasised character count content) ≡ emphases content + 1
emphasised-holds character count content = go (character == 126) (count == 2)
  where
    go : (tilde two : Bool) → emphases_of (if tilde then Strike content else (if two then Strong content else Emph content)) ≡ emphases content + 1
    go true two = simp (fold_out-Inline ℕ emphases_step, outs-Strike)
    go false true = simp (fold_out-Inline ℕ emphases_step, outs-Strong)
    go false false = simp (fold_out-Inline ℕ emphases_step, outs-Emph)

text-first : (text : List ℕ) (inlines : List Inline) → emphases (text_before text inlines) ≡ emphases inlines
text-first text inlines = grind (arith, nat_tests, text-holds)

settled-after : (text : List ℕ) (items : List Item) → emphases (settled_after text items) ≡ items_emphases items
unfolding settled_after
settled-after text [] = text-first text []
settled-after text (Finished inline ∷ items) = omega (arith, text-first text (inline ∷ settled_after [] items), settled-after [] items)
settled-after text (Linked inline ∷ items) = omega (arith, text-first text (inline ∷ settled_after [] items), settled-after [] items)
settled-after text (_ ∷ items) = settled-after _ items ∙ sym (zero-add (items_emphases items))

pub settled-holds : (items : List Item) → emphases (settled items) ≡ items_emphases items
settled-holds items = settled-after [] items

-- a pair makes one more

rest-holds : (n : ℕ) (run : Run) → items_emphases (without n run) ≡ 0
rest-holds n run = elim (nat_le run.left n) as (λ b. items_emphases (if b then [] else Delimiters (record run { left = run.left - n }) ∷ []) ≡ 0) [ true ↦ refl | false ↦ refl ]

pub pair-holds : (before : List Item) (closer : Run) (found : Opened) → nearest_opener closer before [] ≡ Some found → items_emphases (up_to_pair found closer) ≡ items_emphases before + 1
pair-holds before closer found is =
    let n = used found.opener closer in
    let inside = emphasised closer.character n (settled found.inside) in
    let whole = ap items_emphases (nearest-splits closer before [] found is) in
    search (rules, both-hold, reversed-hold, rest-holds, emphasised-holds, settled-holds)

-- a link or an image holds what its content holds
pub made-holds : (image : Bool) (dest title : List ℕ) (inside : List Item) → items_emphases (made image dest title inside ∷ []) ≡ emphases (emphasis_of inside)
made-holds image dest title inside = grind (arith, nat_tests, link-holds, image-holds)
