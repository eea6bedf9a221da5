-- How often lines are read, one call after another.
use Rattle.std.proofs.Common.{◌≡◌, ℕ, suc, ◌+◌, ◌-◌, ◌*◌, ◌^◌, ◌<◌, ◌≤◌, min, Bool, true, false, Result, Ok, Err, refl, ◌∙◌, List, [], ◌∷◌, ◌++◌, length, length-append, ap, arith}
use Rattle.cm_block.specs.Frames.{Frame}
use Rattle.std.specs.Prelude.{nat_lt}
use Rattle.std.specs.Result.{OnOk}
use Rattle.cm_block.specs.Tests.{AllTested}
use Rattle.cm_block.specs.steps.LineTests.{Tested}

pub tested_then : (a b c d x y z : ℕ) → Tested a b x y → Tested c d y z → Tested (a + c) (b + d) x z
tested_then a b c d x y z first next = (
  λ below. let h = next.0 below in let g = first.0 (omega (arith, below, h)) in omega (arith, g, h),
  omega (arith, first.1, next.1),
)

-- fewer at least, and more at most
pub tested_within : (a b c d x y : ℕ) → c ≤ a → b ≤ d → Tested a b x y → Tested c d x y
tested_within a b c d x y fewer more h = (λ below. let g = h.0 below in omega (arith, fewer, g), omega (arith, more, h.1))

-- one for each of some containers and the next, and one where the line may be lazy
pub next_and_lazily : (count len x y z : ℕ) → count < len → Tested (suc count) (suc count) x y → Tested 1 1 y z → Tested 0 (suc len) x z
next_and_lazily count len x y z more before one =
    tested_within (suc count + 1) (suc count + 1) 0 (suc len) x z (omega arith) (omega (arith, more)) (tested_then (suc count) (suc count) 1 1 x y z before one)

-- containers that are opened one by one, each by one reading

pub one_more_frame : (old new : List Frame) (f : Frame) → new ≡ old ++ f ∷ [] → length new ≡ suc (length old)
one_more_frame old new f is = omega (arith, ap length is, length-append old (f ∷ []))

pub tested_one_deeper : (start depth next x y z : ℕ) → start ≤ depth → next ≡ suc depth → Tested (depth - start) (depth - start) x y → Tested 1 1 y z → Tested (next - start) (next - start) x z
tested_one_deeper start depth next x y z deeper is before one =
    tested_within (depth - start + 1) (depth - start + 1) (next - start) (next - start) x z (omega (arith, deeper, is)) (omega (arith, deeper, is))
    (tested_then (depth - start) (depth - start) 1 1 x y z before one)

-- a line

-- one of the open leaf, which stays in all of the containers
pub tested_leaf : (least len limit x y z : ℕ) → least ≤ 0 → len ≤ limit → Tested 0 (suc len) x y → Tested 0 4 y z → Tested least (limit + 5) x z
tested_leaf least len limit x y z none few before leaf =
    tested_within 0 (suc len + 4) least (limit + 5) x z none (omega (arith, few)) (tested_within (0 + 0) (suc len + 4) 0 (suc len + 4) x z (omega arith) (omega arith) (tested_then 0 (suc len) 0 4 x y z before leaf))

-- one that stays in the first of the containers, and opens others: with one further reading where it may be lazy, three of the open leaf
-- where it stays in all and isn't lazy, one where it starts no container, and one of the leaf that it opens
pub tested_line : (lazy : Bool) (least depth len next limit w x y z : ℕ) → least ≤ next - depth → depth ≤ len → depth ≤ next → next ≤ limit
    → Tested 0 (suc len) w x → x ≤ w + depth + 2 → (lazy ≡ false → len ≤ depth → x ≤ w + depth)
    → Tested 0 4 x y → y ≤ x + 3 → (lazy ≡ true → y ≤ x + 1) → (depth < len → y ≡ x) → Tested (next - depth) (next - depth + 2) y z → Tested least (limit + 5) w z
tested_line lazy least depth len next limit w x y z fewer within deeper few before stays plain leaf leaves lazily unread begins = (
  λ below. let h = begins.0 below in let g = leaf.0 (omega (arith, below, h)) in let f = before.0 (omega (arith, below, h, g)) in omega (arith, fewer, f, g, h),
  by-depth (nat_lt depth len) lazy refl refl,
)
  where
    by-depth : (b l : Bool) → nat_lt depth len ≡ b → lazy ≡ l → z ≤ w + (limit + 5)
    by-depth true l e is =
        let less : depth < len = grind (arith, e) in
        omega (arith, unread less, stays, deeper, few, begins.1)
    by-depth false true e is =
        let all : len ≤ depth = grind (arith, e) in
        omega (arith, before.1, lazily is, all, within, deeper, few, begins.1)
    by-depth false false e is =
        let all : len ≤ depth = grind (arith, e) in
        omega (arith, plain is all, leaves, within, deeper, few, begins.1)

pub both_ok : {T E : Type 0} (P Q : Type 0) (r : Result T E) → OnOk r P → OnOk r Q → OnOk r (P × Q)
both_ok P Q (Ok x) p q = (p, q)
both_ok P Q (Err e) p q = tt

-- after all lines so far, and one more
pub tested_lines : (before now limit lines next x n y : ℕ) → next ≡ lines + 1 → limit ≤ 500 → AllTested before ((limit + 5) * lines) 0 x
    → Tested (now - before) (limit + 5) 0 n → y ≡ min (x + n) (2 ^ 128 - 1) → AllTested now ((limit + 5) * next) 0 y
tested_lines before now limit lines next x n y is within so_far line sum =
    let all : (limit + 5) * next ≡ (limit + 5) * lines + (limit + 5) = ap (λ n. (limit + 5) * n) is ∙ distributed (limit + 5) lines in
    let few : n < 2 ^ 64 - 1 = omega (arith, within, line.1) in (
      λ below. let g = so_far.0 (omega (arith, below, sum)) in omega (arith, below, sum, g, line.0 few),
      omega (arith, all, so_far.1, line.1, sum),
    )
  where
    distributed : (a n : ℕ) → a * (n + 1) ≡ a * n + a
    distributed a n = grind arith

-- the count of so few lines, within so few containers, is below the greatest
pub tested_all : (count limit lines x : ℕ) → limit ≤ 500 → lines ≤ 2 ^ 96 → AllTested count ((limit + 5) * lines) 0 x → (count ≤ x) × (x ≤ (limit + 5) * lines)
tested_all count limit lines x within few h =
    let most : (limit + 5) * lines ≤ 505 * lines = grind (arith, within) in
    let below : x < 2 ^ 128 - 1 = omega (arith, most, few, h.1) in
    (omega (arith, h.0 below), omega (arith, h.1))
