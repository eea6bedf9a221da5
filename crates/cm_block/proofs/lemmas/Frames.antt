-- A row of open containers is the stack in which each is in the one before.
use Rattle.std.specs.Prelude.{length, take, drop, ◌==◌}
use Rattle.std.proofs.Common.{◌≡◌, ℕ, suc, Bool, true, false, ◌&&◌, List, [], ◌∷◌, refl, ◌∙◌, sym, ap, ap₂, arith, Option, Some, None}
use Rattle.cm_text.specs.Rules.{Rules}
use Rattle.cm_text.specs.Lines.{LineView}
use Rattle.cm_scan.specs.blocks.Starts.{continuation_in_quote, continuation_in_item}
use Rattle.cm_scan.specs.laws.PartLaws.{goes_inward}
use Rattle.cm_block.specs.OpenLeaf.{OpenLeaf, is_open_text, LeafLine, line_of_leaf}
use Rattle.cm_block.specs.Machine.{Open, in_leaf, has_open_text}
use Rattle.cm_block.specs.Level.{Level}
use Rattle.cm_block.specs.Stack.{Owned, Stack, stack, close_open, own_open, push_leaf_line, push_begin, push_after, push_to_leaf, push_in}
use Rattle.cm_block.specs.Frames.{Container, a_quote, an_item, Frame, opened, is_last, nest}
use Rattle.cm_block.specs.steps.FrameSteps.{within, inward, matching, quoted_in, quoted_by, close_container, close_frames}

pub open_text_of : (bare : Bool) (fs : List Frame) (v : Level) (x : OpenLeaf) → has_open_text (nest bare fs v x).1 ≡ is_open_text x
unfolding has_open_text nest
open_text_of bare [] v x = refl
open_text_of bare (f ∷ fs) v x = go f.container ∙ open_text_of bare fs v x
  where
    go : (c : Container) → has_open_text (opened c (bare && is_last fs) (nest bare fs v x).0 (nest bare fs v x).1) ≡ has_open_text (nest bare fs v x).1
    go a_quote = refl
    go (an_item kind column) = refl

-- closing

pub closes : (bare : Bool) (fs : List Frame) (v : Level) (x : OpenLeaf)
    → close_open (nest bare fs v x).0 (nest bare fs v x).1 ≡ close_frames fs (close_open v (in_leaf x))
unfolding close_open nest close_frames
closes bare [] v x = refl
closes bare (f ∷ fs) v x = go f.container ∙ ap (close_container f.container f.level) (closes bare fs v x)
  where
    go : (c : Container) → close_open f.level (opened c (bare && is_last fs) (nest bare fs v x).0 (nest bare fs v x).1)
        ≡ close_container c f.level (close_open (nest bare fs v x).0 (nest bare fs v x).1)
    go a_quote = refl
    go (an_item kind column) = refl

pub owns : (bare q : Bool) (fs : List Frame) (s : Owned) (v : Level) (x : OpenLeaf)
    → own_open q s (nest bare fs v x).1 ≡ own_open (quoted_by q fs) s (in_leaf x)
unfolding own_open nest quoted_by
owns bare q [] s v x = refl
owns bare q (f ∷ fs) s v x = go f.container (λ p. owns bare p fs s v x)
  where
    go : (c : Container) → ((p : Bool) → own_open p s (nest bare fs v x).1 ≡ own_open (quoted_by p fs) s (in_leaf x))
        → own_open q s (opened c (bare && is_last fs) (nest bare fs v x).0 (nest bare fs v x).1) ≡ own_open (quoted_by (quoted_in c q) fs) s (in_leaf x)
    go a_quote rest = rest true
    go (an_item kind column) rest = rest q

-- one more line

-- the last containers are closed, and the line starts something in the first ones
unfoldable pub pushed_after : Rules → (q : Bool) → List Frame → Level → OpenLeaf → Owned → ℕ × LineView → Stack
pushed_after rules q fs v x s m =
    within (take m.0 fs) (push_begin rules (quoted_by q (take m.0 fs)) (own_open (quoted_by q fs) s (in_leaf x)) (close_frames (drop m.0 fs) (close_open v (in_leaf x))) m.1)

-- the line stays in all of them, and perhaps in the leaf
unfoldable pub pushed_to_leaf : Rules → (q : Bool) → List Frame → Level → OpenLeaf → Owned → ℕ × LineView → Option LeafLine → Stack
pushed_to_leaf rules q fs v x s m (Some l) = within fs (push_leaf_line s v l)
pushed_to_leaf rules q fs v x s m None = pushed_after rules q fs v x s m

unfoldable pub pushed : Rules → (q : Bool) → List Frame → Level → OpenLeaf → Owned → ℕ × LineView → Stack
pushed rules q fs v x s m = elim (m.0 == length fs) [
  | true ↦ pushed_to_leaf rules q fs v x s m (line_of_leaf rules x m.1)
  | false ↦ pushed_after rules q fs v x s m
]

same-count : (n m : ℕ) → (suc n == suc m) ≡ (n == m)
same-count n m = grind arith

-- what a container around a stack makes of it
abbrev round : Frame → Stack → Stack
round f i = stack f.level (opened f.container false i.level i.now) i.owned

pushed-inside : (rules : Rules) (q : Bool) (f : Frame) (fs : List Frame) (v : Level) (x : OpenLeaf) (s : Owned) (m : ℕ × LineView)
    → round f (pushed rules (quoted_in f.container q) fs v x s m) ≡ pushed rules q (f ∷ fs) v x s (suc m.0, m.1)
unfolding within quoted_by close_frames pushed_to_leaf pushed_after pushed
pushed-inside rules q f fs v x s m = go (m.0 == length fs) (line_of_leaf rules x m.1) ∙ ap by_count (sym (same-count m.0 (length fs)))
  where
    by_count : Bool → Stack
    by_count b = elim b [
      | true ↦ pushed_to_leaf rules q (f ∷ fs) v x s (suc m.0, m.1) (line_of_leaf rules x m.1)
      | false ↦ pushed_after rules q (f ∷ fs) v x s (suc m.0, m.1)
    ]

    leaf : (l : Option LeafLine) → round f (pushed_to_leaf rules (quoted_in f.container q) fs v x s m l) ≡ pushed_to_leaf rules q (f ∷ fs) v x s (suc m.0, m.1) l
    leaf (Some l) = refl
    leaf None = refl

    go : (b : Bool) (l : Option LeafLine) → round f (elim b as (λ _. Stack) [
      | true ↦ pushed_to_leaf rules (quoted_in f.container q) fs v x s m l
      | false ↦ pushed_after rules (quoted_in f.container q) fs v x s m
    ]) ≡ elim b as (λ _. Stack) [
      | true ↦ pushed_to_leaf rules q (f ∷ fs) v x s (suc m.0, m.1) l
      | false ↦ pushed_after rules q (f ∷ fs) v x s (suc m.0, m.1)
    ]
    go true l = leaf l
    go false l = refl

pub pushed-left : (rules : Rules) (q : Bool) (fs : List Frame) (v : Level) (x : OpenLeaf) (s : Owned) (m : ℕ × LineView)
    → (m.0 == length fs) ≡ false → pushed rules q fs v x s m ≡ pushed_after rules q fs v x s m
unfolding pushed
pushed-left rules q fs v x s m e = grind (arith, e)

pub pushed-all : (rules : Rules) (q : Bool) (fs : List Frame) (v : Level) (x : OpenLeaf) (s : Owned) (m : ℕ × LineView)
    → (m.0 == length fs) ≡ true → pushed rules q fs v x s m ≡ pushed_to_leaf rules q fs v x s m (line_of_leaf rules x m.1)
unfolding pushed
pushed-all rules q fs v x s m e = grind (arith, e)

not-more : (n : ℕ) → (0 == suc n) ≡ false
not-more n = grind arith

pub pushes : (rules : Rules) (bare q : Bool) (fs : List Frame) (v : Level) (x : OpenLeaf) (s : Owned) (line : LineView)
    → push_in rules q s (nest bare fs v x).0 (nest bare fs v x).1 line ≡ pushed rules q fs v x s (matching rules bare (is_open_text x) fs line)
unfolding push_in nest matching inward close_frames within quoted_by own_open close_open pushed_to_leaf pushed_after
pushes rules bare q [] v x s line = go (line_of_leaf rules x line) ∙ sym (pushed-all rules q [] v x s (0, line) refl)
  where
    go : (l : Option LeafLine) → push_to_leaf rules q s v x line l ≡ pushed_to_leaf rules q [] v x s (0, line) l
    go (Some l) = refl
    go None = refl
pushes rules bare q (f ∷ fs) v x s line =
    go f.level f.container (open_text_of bare fs v x) (λ p inner. pushes rules bare p fs v x s inner)
    (closes bare (f ∷ fs) v x) (owns bare q (f ∷ fs) s v x)
  where
    b : Bool
    b = bare && is_last fs

    inside : Level × Open Level
    inside = nest bare fs v x

    frame : Level → Container → Frame
    frame lev c = record { level = lev; container = c }

    after : (lev : Level) (c : Container) → close_open lev (opened c b inside.0 inside.1) ≡ close_frames (frame lev c ∷ fs) (close_open v (in_leaf x))
        → own_open q s (opened c b inside.0 inside.1) ≡ own_open (quoted_by q (frame lev c ∷ fs)) s (in_leaf x)
        → push_after rules q s lev (opened c b inside.0 inside.1) line ≡ pushed_after rules q (frame lev c ∷ fs) v x s (0, line)
    after lev c closed owned = ap₂ (λ t w. push_begin rules q t w line) owned closed

    into : Level → Container → Option LineView → Stack
    into lev c o = elim o [
      | Some inner ↦ round (frame lev c) (push_in rules (quoted_in c q) s inside.0 inside.1 inner)
      | None ↦ push_after rules q s lev (opened c b inside.0 inside.1) line
    ]

    found : Option LineView → ℕ × LineView
    found o = elim o [ Some inner ↦ let i = matching rules bare (is_open_text x) fs inner in (suc i.0, i.1) | None ↦ (0, line) ]

    by_continuation : (lev : Level) (c : Container) (o : Option LineView)
        → ((p : Bool) (inner : LineView) → push_in rules p s inside.0 inside.1 inner ≡ pushed rules p fs v x s (matching rules bare (is_open_text x) fs inner))
        → push_after rules q s lev (opened c b inside.0 inside.1) line ≡ pushed_after rules q (frame lev c ∷ fs) v x s (0, line)
        → into lev c o ≡ pushed rules q (frame lev c ∷ fs) v x s (found o)
    by_continuation lev c None inner closed = closed ∙ sym (pushed-left rules q (frame lev c ∷ fs) v x s (0, line) (not-more (length fs)))
    by_continuation lev c (Some l) inner closed =
        ap (round (frame lev c)) (inner (quoted_in c q) l) ∙ pushed-inside rules q (frame lev c) fs v x s (matching rules bare (is_open_text x) fs l)

    go : (lev : Level) (c : Container) → has_open_text inside.1 ≡ is_open_text x
        → ((p : Bool) (inner : LineView) → push_in rules p s inside.0 inside.1 inner ≡ pushed rules p fs v x s (matching rules bare (is_open_text x) fs inner))
        → close_open lev (opened c b inside.0 inside.1) ≡ close_frames (frame lev c ∷ fs) (close_open v (in_leaf x))
        → own_open q s (opened c b inside.0 inside.1) ≡ own_open (quoted_by q (frame lev c ∷ fs)) s (in_leaf x)
        → push_in rules q s lev (opened c b inside.0 inside.1) line ≡ pushed rules q (frame lev c ∷ fs) v x s (found (inward rules c b (is_open_text x) line))
    go lev a_quote same inner closed owned =
        ap (λ o. into lev a_quote (goes_inward (continuation_in_quote rules line) o)) same
        ∙ by_continuation lev a_quote (inward rules a_quote b (is_open_text x) line) inner (after lev a_quote closed owned)
    go lev (an_item kind column) same inner closed owned =
        ap (λ o. into lev (an_item kind column) (goes_inward (continuation_in_item rules column b line) o)) same
        ∙ by_continuation lev (an_item kind column) (inward rules (an_item kind column) b (is_open_text x) line) inner (after lev (an_item kind column) closed owned)
