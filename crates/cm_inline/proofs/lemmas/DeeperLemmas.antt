-- What is finished among items stays, so that they never come to nest less deep.
use Rattle.cm_inline.proofs.lemmas.Words.{◌≡◌, ℕ, zero, suc, ◌+◌, ◌-◌, ◌<◌, ◌≤◌, Bool, List, [], ◌∷◌, length, reverse, Option, Some, None, refl, ap, arith, max}
use Rattle.cm_inline.proofs.lemmas.Words.{Result, IsErrAnd, same_Some, Rules, Inline, Image, outs-Link, outs-Image, fold_out-Inline, depth_step, depth_of}
use Rattle.cm_inline.proofs.lemmas.Words.{inlines_depth, Item, Characters, Finished, Linked, Delimiters, Opener, pair_all, emphasis_of, bracket_text, passed}
use Rattle.cm_inline.proofs.lemmas.Words.{pass_from, Atom, atom_at, Defined, OpenerFound, last_opener, made, Bracketed, bracket_is_text, brackets_are_text}
use Rattle.cm_inline.proofs.lemmas.Words.{closed_by_bracket, close_bracket, add_atom, item_step, items_after, pairs_in_one_pass, InlineFault, nat_tests, rules}
use Rattle.std.specs.Prelude.{Err}
use Rattle.std.proofs.lemmas.Option.{none-some}
use Rattle.cm_tree.specs.declared.tree.Inline.TheVariants.{Link}
use Rattle.cm_inline.specs.steps.Depths.{item_depth, items_depth}
use Rattle.cm_inline.proofs.lemmas.PairDepthLemmas.{reverse-depth, settled-items, pass-deeper}
use Rattle.cm_inline.proofs.lemmas.InlineDepthLemmas.{both}

-- a fault that is passed on
pub same-fault : {A : Type 0} (r : Result A InlineFault) (told fault : InlineFault) → IsErrAnd r (λ e. e ≡ told) → r ≡ Err fault → told ≡ fault
same-fault r told fault is e = grind (arith, nat_tests)

-- making all pairs makes nothing less deep

after-stays : (before after : List Item) → items_depth after ≤ items_depth (pass_from before after)
unfolding pass_from
after-stays before [] = omega arith
after-stays before (Characters text ∷ after) = omega (arith, after-stays (Characters text ∷ before) after)
after-stays before (Finished inline ∷ after) = omega (arith, pass-deeper (Finished inline ∷ before) after, after-stays (Finished inline ∷ before) after)
after-stays before (Linked inline ∷ after) = omega (arith, pass-deeper (Linked inline ∷ before) after, after-stays (Linked inline ∷ before) after)
after-stays before (Delimiters run ∷ after) = omega (arith, after-stays (passed before (Delimiters run)) after)
after-stays before (Opener image source ∷ after) = omega (arith, after-stays (Opener image source ∷ before) after)

pub emphasis-deeper : (items : List Item) → items_depth items ≤ inlines_depth (emphasis_of items)
emphasis-deeper items = omega (arith, after-stays [] items, settled-items (pair_all items), ap items_depth (pairs_in_one_pass items))

-- nor does a `]`

opener-parts : (items inside : List Item) (found : OpenerFound) → last_opener items inside ≡ Some found → max (items_depth items) (items_depth inside) ≡ max (items_depth found.before) (items_depth found.inside)
unfolding last_opener
opener-parts [] inside found e = absurd (none-some found e)
opener-parts (Characters text ∷ before) inside found e = omega (arith, opener-parts before (Characters text ∷ inside) found e)
opener-parts (Finished inline ∷ before) inside found e = omega (arith, opener-parts before (Finished inline ∷ inside) found e)
opener-parts (Linked inline ∷ before) inside found e = omega (arith, opener-parts before (Linked inline ∷ inside) found e)
opener-parts (Delimiters run ∷ before) inside found e = omega (arith, opener-parts before (Delimiters run ∷ inside) found e)
opener-parts (Opener image source ∷ before) inside found e = search (rules, same_Some)

pub link-depth : (dest title : List ℕ) (content : List Inline) → depth_of (Link dest title content) ≡ inlines_depth content + 1
link-depth dest title content = simp (fold_out-Inline ℕ depth_step, outs-Link)

pub image-depth : (dest title : List ℕ) (content : List Inline) → depth_of (Image dest title content) ≡ inlines_depth content + 1
image-depth dest title content = simp (fold_out-Inline ℕ depth_step, outs-Image)

-- a link or an image nests one deeper than its content
pub made-depth : (image : Bool) (dest title : List ℕ) (inside : List Item) → item_depth (made image dest title inside) ≡ inlines_depth (emphasis_of inside) + 1
made-depth image dest title inside = grind (arith, nat_tests, link-depth, image-depth)

-- and deeper than what is between its brackets
pub made-deeper : (image : Bool) (dest title : List ℕ) (inside : List Item) → items_depth inside < item_depth (made image dest title inside)
made-deeper image dest title inside = omega (arith, made-depth image dest title inside, emphasis-deeper inside)

texts-depth : (found : OpenerFound) → items_depth (brackets_are_text found) ≡ max (items_depth found.before) (items_depth found.inside)
texts-depth found = omega (arith, both (reverse found.inside) (Characters (bracket_text found.image) ∷ found.before), reverse-depth found.inside)

by_bracket-deeper : (rules : Rules) (defined : Defined) (found : OpenerFound) (rest : List ℕ) → max (items_depth found.before) (items_depth found.inside) ≤ items_depth (closed_by_bracket rules defined found rest).items
unfolding closed_by_bracket
by_bracket-deeper rules defined found rest = grind (arith, nat_tests, texts-depth, made-deeper)

pub bracket-deeper : (rules : Rules) (defined : Defined) (items : List Item) (rest : List ℕ) → items_depth items ≤ items_depth (close_bracket rules defined items rest).items
unfolding close_bracket
bracket-deeper rules defined items rest = go (last_opener items []) refl
  where
    go : (o : Option OpenerFound) → last_opener items [] ≡ o
        → items_depth items ≤ items_depth (elim o as (λ _. Bracketed) [ Some found ↦ closed_by_bracket rules defined found rest | None ↦ record { items = bracket_is_text items; rest = rest } ]).items
    go (Some found) e = omega (arith, opener-parts items [] found e, by_bracket-deeper rules defined found rest)
    go None e = omega arith

-- so nothing that is read further does

pub atom-deeper : (rules : Rules) (defined : Defined) (items : List Item) (atom : Atom) (rest : List ℕ) → items_depth items ≤ items_depth (add_atom rules defined items atom rest).items
unfolding add_atom
atom-deeper rules defined items atom rest = grind (arith, nat_tests, bracket-deeper)

step-deeper : (rules : Rules) (defined : Defined) (before : List ℕ) (b : ℕ) (bs : List ℕ) (items : List Item) → items_depth items ≤ items_depth (item_step rules defined before b bs items).items
unfolding item_step
step-deeper rules defined before b bs items = let a = atom_at rules before b bs in atom-deeper rules defined items a.atom a.rest

pub after-deeper : (rules : Rules) (defined : Defined) (n : ℕ) (before source : List ℕ) (items : List Item) → items_depth items ≤ items_depth (items_after rules defined n before source items)
unfolding items_after
after-deeper rules defined n before [] items = omega arith
after-deeper rules defined (suc n) before (b ∷ bs) items = after-deeper rules defined n (b ∷ before) bs items
after-deeper rules defined zero before (b ∷ bs) items =
    let next = item_step rules defined before b bs items in
    omega (arith, step-deeper rules defined before b bs items, after-deeper rules defined (length bs - length next.rest) (b ∷ before) bs next.items)
