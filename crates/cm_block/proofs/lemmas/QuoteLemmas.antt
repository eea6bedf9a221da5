-- The number of quotes among the open containers.
use Rattle.std.proofs.Common.{◌≡◌, ℕ, ◌+◌, ◌-◌, ◌≤◌, ◌++◌, true, false, List, [], ◌∷◌, length, refl, sym, ap, ◌∙◌, arith, rules}
use Rattle.std.specs.Prelude.{nat_lt}
use Rattle.std.proofs.lemmas.Bool.{lt-ltb}
use Rattle.cm_tree.specs.RawBlocks.{Raw}
use Rattle.cm_tree.specs.declared.tree.ListKind.{ListKind}
use Rattle.cm_block.specs.declared.stack.Frame as code
use Rattle.cm_block.specs.Frames.{Container, a_quote, an_item}
use Rattle.cm_block.specs.Level.{Level}
use Rattle.cm_block.specs.steps.FrameSteps.{quoted_in, quoted_by, is_continued_by}
use Rattle.cm_block.specs.steps.FrameViews.{container_of, frames_in, quotes_of, quotes_in}
use Rattle.cm_block.proofs.lemmas.Matching.{quoted_true}

-- the quotes that a container is
abbrev of_frame : code.Frame → ℕ
of_frame f = quotes_of (container_of f.container)

quotes-more : (fs : List code.Frame) (f : code.Frame) → quotes_in (fs ++ f ∷ []) ≡ quotes_in fs + of_frame f
quotes-more [] f = omega arith
quotes-more (g ∷ fs) f = omega (arith, quotes-more fs f)

few : (c : Container) → quotes_of c ≤ 1
few a_quote = omega arith
few (an_item kind column) = omega arith

quotes-few : (fs : List code.Frame) → quotes_in fs ≤ length fs
quotes-few [] = omega arith
quotes-few (f ∷ fs) = omega (arith, quotes-few fs, few (container_of f.container))

-- one more is no more than the containers
pub quotes-fit : (fs : List code.Frame) (c : Container) → quotes_in fs + quotes_of c ≤ length fs + 1
quotes-fit fs c = omega (arith, quotes-few fs, few c)

pub quotes-pushed : (fs gs : List code.Frame) (f : code.Frame) (n k : ℕ) → gs ≡ fs ++ f ∷ [] → n ≡ quotes_in fs → k ≡ of_frame f → n + k ≡ quotes_in gs
quotes-pushed fs gs f n k more before one = omega (arith, ap quotes_in more, quotes-more fs f, before, one)

pub quotes-left : (fs gs : List code.Frame) (f : code.Frame) (n k : ℕ) → fs ≡ gs ++ f ∷ [] → n ≡ quotes_in fs → k ≡ of_frame f → (k ≤ n) × (n - k ≡ quotes_in gs)
quotes-left fs gs f n k more before one =
    let all : n ≡ quotes_in gs + k = omega (arith, ap quotes_in more, quotes-more gs f, before, one) in
    (omega (arith, all), omega (arith, all))

pub quotes-replaced : (fs gs front : List code.Frame) (f g : code.Frame) (n : ℕ) → fs ≡ front ++ f ∷ [] → gs ≡ front ++ g ∷ [] → of_frame f ≡ of_frame g → n ≡ quotes_in fs → n ≡ quotes_in gs
quotes-replaced fs gs front f g n old new same before =
    omega (arith, ap quotes_in old, ap quotes_in new, quotes-more front f, quotes-more front g, same, before)

-- an item, whose list goes on, is no quote
pub continued-item : (kind : ListKind) (c : Container) (level : Level) → is_continued_by kind c level ≡ true → quotes_of c ≡ 0
continued-item kind a_quote level h = search rules
continued-item kind (an_item k column) level h = refl

pub quoted-counted : (raw : Raw) (fs : List code.Frame) → quoted_by false (frames_in raw fs) ≡ nat_lt 0 (quotes_in fs)
unfolding quoted_by
quoted-counted raw [] = refl
quoted-counted raw (f ∷ fs) = inside (container_of f.container) (quoted-counted raw fs)
  where
    inside : (c : Container) → quoted_by false (frames_in raw fs) ≡ nat_lt 0 (quotes_in fs)
        → quoted_by (quoted_in c false) (frames_in raw fs) ≡ nat_lt 0 (quotes_of c + quotes_in fs)
    inside a_quote rest = sym (quoted_true (frames_in raw fs)) ∙ sym (lt-ltb 0 (1 + quotes_in fs) (omega arith))
    inside (an_item kind column) rest = let same : quotes_in fs ≡ 0 + quotes_in fs = omega arith in rest ∙ ap (nat_lt 0) same
