-- How deep the inlines nest that are made of others.
use Rattle.cm_inline.proofs.lemmas.Words.{◌≡◌, ℕ, ◌+◌, true, false, List, [], ◌∷◌, arith, max, ◌++◌, sym, ◌∙◌, if◌then◌else◌, Inline, Text, Emph, Strong, Strike}
use Rattle.cm_inline.proofs.lemmas.Words.{outs-Text, outs-Emph, outs-Strong, outs-Strike, fold_out-Inline, depth_step, depth_of, inlines_depth, text_before}
use Rattle.cm_inline.proofs.lemmas.Words.{emphasised, Item, Finished, Linked, settled_after, nat_tests}
use Rattle.std.specs.Prelude.{◌==◌, Bool}
use Rattle.cm_inline.specs.steps.Depths.{items_depth}

pub text-depth : (text : List ℕ) → depth_of (Text text) ≡ 0
text-depth text = simp (fold_out-Inline ℕ depth_step, outs-Text)

pub emphasised-depth : (character count : ℕ) (content : List Inline) → depth_of (emphasised character count content) ≡ inlines_depth content + 1
emphasised-depth character count content = go (character == 126) (count == 2)
  where
    go : (tilde two : Bool) → depth_of (if tilde then Strike content else (if two then Strong content else Emph content)) ≡ inlines_depth content + 1
    go true two = simp (fold_out-Inline ℕ depth_step, outs-Strike)
    go false true = simp (fold_out-Inline ℕ depth_step, outs-Strong)
    go false false = simp (fold_out-Inline ℕ depth_step, outs-Emph)

pub text-first : (text : List ℕ) (inlines : List Inline) → inlines_depth (text_before text inlines) ≡ inlines_depth inlines
text-first text inlines = grind (arith, nat_tests, text-depth)

none-deeper : (n : ℕ) → max 0 n ≡ n
none-deeper n = omega arith

-- what is made of items nests as deep as they do
pub both : (xs ys : List Item) → items_depth (xs ++ ys) ≡ max (items_depth xs) (items_depth ys)
both [] ys = omega arith
both (x ∷ xs) ys = omega (arith, both xs ys)

pub settled-after-depth : (text : List ℕ) (items : List Item) → inlines_depth (settled_after text items) ≡ items_depth items
unfolding settled_after
settled-after-depth text [] = text-first text []
settled-after-depth text (Finished i ∷ items) = omega (arith, text-first text (i ∷ settled_after [] items), settled-after-depth [] items)
settled-after-depth text (Linked i ∷ items) = omega (arith, text-first text (i ∷ settled_after [] items), settled-after-depth [] items)
settled-after-depth text (_ ∷ items) = settled-after-depth _ items ∙ sym (none-deeper (items_depth items))
