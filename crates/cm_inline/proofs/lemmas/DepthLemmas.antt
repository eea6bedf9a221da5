-- How deep an inline nests that contains no other.
use Rattle.cm_inline.proofs.lemmas.Words.{◌≡◌, ℕ, ◌+◌, ◌≤◌, ◌++◌, Bool, List, [], ◌∷◌, ap, max, arith, Inline, Text, Code, Html, Soft, Hard, outs-Code, outs-Html}
use Rattle.cm_inline.proofs.lemmas.Words.{outs-Soft, outs-Hard, outs-Link, fold_out-Inline, depth_step, depth_of, inlines_depth, Kind, nat_tests}
use Rattle.cm_inline.specs.steps.Reads.{inline_in}
use Rattle.cm_inline.specs.steps.Standalone.{autolink}
use Rattle.cm_inline.proofs.lemmas.InlineDepthLemmas.{text-depth}

pub code-depth : (text : List ℕ) → depth_of (Code text) ≡ 0
code-depth text = simp (fold_out-Inline ℕ depth_step, outs-Code)

pub html-depth : (text : List ℕ) → depth_of (Html text) ≡ 0
html-depth text = simp (fold_out-Inline ℕ depth_step, outs-Html)

pub soft-depth : depth_of Soft ≡ 0
soft-depth = simp (fold_out-Inline ℕ depth_step, outs-Soft)

pub hard-depth : depth_of Hard ≡ 0
hard-depth = simp (fold_out-Inline ℕ depth_step, outs-Hard)

pub autolink-depth : (is_address : Bool) (text : List ℕ) → depth_of (autolink is_address text) ≡ 1
autolink-depth is_address text =
    let one : depth_of (autolink is_address text) ≡ inlines_depth (Text text ∷ []) + 1 = simp (fold_out-Inline ℕ depth_step, outs-Link) in
    omega (arith, one, text-depth text)

-- so it nests one deep at most
pub inline-shallow : (source : List ℕ) (at end : ℕ) (kind : Kind) → depth_of (inline_in source at end kind) ≤ 1
inline-shallow source at end kind = grind (arith, nat_tests, code-depth, html-depth, autolink-depth, hard-depth, soft-depth)

-- inlines with one more after them
pub one-more-depth : (inlines all : List Inline) (last : Inline) → all ≡ inlines ++ last ∷ [] → (inlines_depth inlines ≤ inlines_depth all) × (depth_of last ≤ inlines_depth all)
one-more-depth inlines all last is = let both = after inlines in let same = ap inlines_depth is in (omega (arith, both, same), omega (arith, both, same))
  where
    after : (inlines : List Inline) → inlines_depth (inlines ++ last ∷ []) ≡ max (inlines_depth inlines) (depth_of last)
    after [] = omega arith
    after (i ∷ is) = omega (arith, after is)
