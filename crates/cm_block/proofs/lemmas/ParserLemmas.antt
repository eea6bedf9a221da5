-- A parser, line by line.
use Rattle.std.proofs.Common.{◌≡◌, ℕ, zero, suc, ◌+◌, ◌-◌, ◌*◌, ◌^◌, min, ◌<◌, ◌≤◌, Bool, true, false, ◌&&◌, List, [], ◌∷◌, ◌++◌, length, length-append, take, drop, refl, ◌∙◌, sym, ap, ap₂, subst, arith, le_refl, Option, Some, None}
use Rattle.std.specs.Prelude.{nat_le, nat_lt, if◌then◌else◌}
use Rattle.cm_text.specs.Rules.{Rules}
use Rattle.cm_text.specs.Lines.{LineView}
use Rattle.cm_text.specs.LineText.{is_line}
use Rattle.cm_scan.specs.blocks.Lines.{size}
use Rattle.cm_scan.specs.blocks.Parts.{LeafPart, depths_of}
use Rattle.cm_scan.specs.blocks.Blocks.{parts_within, parts_of, blocks_of, owners_of, reference_table, first_too_deep}
use Rattle.cm_scan.specs.laws.PartLaws.{AreLines}
use Rattle.cm_block.specs.OpenLeaf.{OpenLeaf, no_leaf, is_open_text, closed_leaves, blank_lines_after, LeafLine, stays_open, is_last, line_of_leaf}
use Rattle.cm_block.specs.Machine.{in_leaf}
use Rattle.cm_block.specs.Level.{Level, empty_level, closed_blocks, push_blank}
use Rattle.cm_block.specs.Stack.{Owned, Stack, empty_stack, close_leaves, push_blanks, close_open, own_leaves, own_blanks, own_open, close_stack, push_leaf_line, push_line, push_lines}
use Rattle.cm_block.specs.Depths.{nesting}
use Rattle.cm_block.specs.Frames.{Frame, Row, is_last as is_last_frame, stack_with, nest}
use Rattle.cm_block.specs.steps.FrameSteps.{within, inward, matching, quoted_by, close_frames}
use Rattle.cm_block.specs.declared.fault.BlockFault.{BlockFault}
use Rattle.cm_block.specs.declared.fault.BlockFault.TheVariants.{BlocksTooDeep, NoMemory}
use Rattle.cm_block.specs.steps.FrameStarts.{begun_in, DeepIn}
use Rattle.cm_block.specs.declared.parser.BlockParser as parser
use Rattle.cm_text.specs.Limits.{LimitsView}
use Rattle.cm_block.specs.LeafViews.{leaf_of}
use Rattle.cm_block.specs.Parser.{stack_of, HasTaken, TellsDepth}
use Rattle.cm_block.specs.steps.ParserSteps.{Deep, TakenToLeaf}
use Rattle.cm_block.specs.Tests.{AllTested, count_in, count_of}
use Rattle.cm_block.specs.steps.LineTests.{Tested}
use Rattle.cm_block.proofs.lemmas.ContainerLemmas.{count-nest, count-closing-leaf, count-close-frames, count_taken, count_begun}
use Rattle.cm_block.proofs.lemmas.TestLemmas.{tested_lines}
use Rattle.cm_block.proofs.lemmas.Frames.{closes, owns, pushed, pushed_after, pushed_to_leaf, pushed-left, pushed-all, pushes}
use Rattle.cm_block.proofs.lemmas.FrameStartLemmas.{nest-within, nest-nesting}
use Rattle.cm_block.proofs.lemmas.Depths.{too_deep_next, are-push, push_lines-append}
use Rattle.cm_block.proofs.lemmas.Stacks.{stack_blocks, stack_owners, stack_table, one_owner_each}

-- closing a leaf

blanks-more : (n : ℕ) (v : Level) → push_blanks (suc n) v ≡ push_blank v
unfolding push_blanks
blanks-more zero v = refl
blanks-more (suc n) v = blanks-more n (push_blank v)

module _ (x : OpenLeaf) (xs : List (LeafPart × ℕ)) (n : ℕ) (leaves : xs ≡ closed_leaves x) (blanks : n ≡ blank_lines_after x) where
  pub level_with_blanks : (v w : Level) → 0 < n → w ≡ close_leaves v xs → push_blank w ≡ close_open v (in_leaf x)
  unfolding close_open
  level_with_blanks v w some is = go n some blanks
    where
      go : (k : ℕ) → 0 < k → k ≡ blank_lines_after x → push_blank w ≡ push_blanks (blank_lines_after x) (close_leaves v (closed_leaves x))
      go zero some e = absurd (omega arith)
      go (suc k) some e = ap push_blank (is ∙ ap (close_leaves v) leaves) ∙ sym (blanks-more k (close_leaves v (closed_leaves x))) ∙ ap (λ m. push_blanks m (close_leaves v (closed_leaves x))) e

  pub level_without : (v w : Level) → n ≤ 0 → w ≡ close_leaves v xs → w ≡ close_open v (in_leaf x)
  unfolding close_open push_blanks
  level_without v w none is =
      let z : 0 ≡ n = omega (arith, none) in
      is ∙ ap (close_leaves v) leaves ∙ ap (λ m. push_blanks m (close_leaves v (closed_leaves x))) (z ∙ blanks)

  pub owners_with_blanks : (q p : Bool) (s t u : Owned) → u ≡ own_blanks p n t → p ≡ q → t ≡ own_leaves s xs → u ≡ own_open q s (in_leaf x)
  unfolding own_open
  owners_with_blanks q p s t u made same is =
      made ∙ ap (λ b. own_blanks b n t) same ∙ ap (λ m. own_blanks q m t) blanks ∙ ap (own_blanks q (blank_lines_after x)) (is ∙ ap (own_leaves s) leaves)

  pub owners_without : (q : Bool) (s t : Owned) → n ≤ 0 → t ≡ own_leaves s xs → t ≡ own_open q s (in_leaf x)
  unfolding own_open own_blanks
  owners_without q s t none is =
      let z : 0 ≡ n = omega (arith, none) in
      is ∙ ap (own_leaves s) leaves ∙ ap (λ m. own_blanks q m (own_leaves s (closed_leaves x))) (z ∙ blanks)

-- where no leaf is open, nothing is closed

pub nothing_closed : (v : Level) (x : OpenLeaf) → x ≡ no_leaf → v ≡ close_open v (in_leaf x)
unfolding close_open close_leaves closed_leaves push_blanks
nothing_closed v x e = ap (λ y. close_open v (in_leaf y)) (sym e)

pub nothing_owned : (q : Bool) (s : Owned) (x : OpenLeaf) → x ≡ no_leaf → s ≡ own_open q s (in_leaf x)
unfolding own_open own_leaves closed_leaves own_blanks
nothing_owned q s x e = ap (λ y. own_open q s (in_leaf y)) (sym e)

-- a line of a leaf in the innermost container

pub stack_stays : (bare : Bool) (fs gs : List Frame) (v w : Level) (y : OpenLeaf) (s : Owned) → bare ≡ false → gs ≡ fs → w ≡ v
    → stack_with bare gs w y s ≡ within fs (push_leaf_line s v (stays_open y))
stack_stays bare fs gs v w y s plain frames level = ap₂ (λ b u. stack_with b gs u y s) plain level ∙ ap (λ hs. stack_with false hs v y s) frames ∙ nest-within fs v y s

pub stack_ends : (bare : Bool) (fs gs : List Frame) (v u : Level) (y : OpenLeaf) (s t : Owned) (leaves : List (LeafPart × ℕ)) → bare ≡ false → gs ≡ fs → y ≡ no_leaf
    → u ≡ close_leaves v leaves → t ≡ own_leaves s leaves → stack_with bare gs u y t ≡ within fs (push_leaf_line s v (is_last leaves))
stack_ends bare fs gs v u y s t leaves plain frames none level owners =
    ap₂ (λ b z. stack_with b gs u z t) plain none ∙ ap (λ hs. stack_with false hs u no_leaf t) frames ∙ ap₂ (λ w o. stack_with false fs w no_leaf o) level owners
    ∙ nest-within fs (close_leaves v leaves) no_leaf (own_leaves s leaves)

-- a new parser

pub new_holds : (rules : Rules) (s : Row) (o : Owned) → s.frames ≡ [] → s.bare ≡ false → s.level ≡ empty_level → o ≡ record { owners = []; leaves = 0; table = [] }
    → stack_with s.bare s.frames s.level no_leaf o ≡ push_lines rules empty_stack []
unfolding push_lines nest
new_holds rules s o frames bare level owners =
    ap₂ (λ b (fs : List Frame). stack_with b fs s.level no_leaf o) bare frames
    ∙ ap₂ (λ v w. stack_with false [] v no_leaf w) level owners

pub new_within : (rules : Rules) (limit : ℕ) → first_too_deep rules limit [] ≡ None
unfolding first_too_deep depths_of parts_of parts_within size
new_within rules limit = refl

-- the outline

module _ (rules : Rules) (bare : Bool) (fs : List Frame) (v : Level) (x : OpenLeaf) (o : Owned) (lines : List LineView) (holds : stack_with bare fs v x o ≡ push_lines rules empty_stack lines) where
  pub all_blocks : (w : Level) → w ≡ close_frames fs (close_open v (in_leaf x)) → closed_blocks w ≡ blocks_of rules lines
  unfolding close_stack
  all_blocks w is =
      ap closed_blocks (is ∙ sym (closes bare fs v x)) ∙ ap (λ s. (close_stack s).blocks) holds ∙ stack_blocks rules lines

  pub all_owners : (p : Owned) → p ≡ own_open (quoted_by false fs) o (in_leaf x) → p.owners ≡ owners_of rules lines
  unfolding close_stack
  all_owners p is =
      ap (λ (t : Owned). t.owners) (is ∙ sym (owns bare false fs o v x)) ∙ ap (λ s. (close_stack s).owners) holds ∙ stack_owners rules lines

  pub all_lines : AreLines lines → (p : Owned) → p ≡ own_open (quoted_by false fs) o (in_leaf x) → length p.owners ≡ length lines
  all_lines are p is =
      ap length (all_owners p is) ∙ sym (ap length (stack_owners rules lines)) ∙ one_owner_each rules lines are

  pub all_containers : (w : Level) → w ≡ close_frames fs (close_open v (in_leaf x)) → count_in w ≤ count_of (stack_with bare fs v x o)
  all_containers w is =
      omega (arith, ap count_in is, count-close-frames fs (close_open v (in_leaf x)), count-closing-leaf v x, count-nest bare fs v x o)

  pub all_definitions : (p : Owned) → p ≡ own_open (quoted_by false fs) o (in_leaf x) → p.table ≡ reference_table rules lines
  unfolding close_stack
  all_definitions p is =
      ap (λ (t : Owned). t.table) (is ∙ sym (owns bare false fs o v x)) ∙ ap (λ s. (close_stack s).definitions) holds ∙ stack_table rules lines

-- one more line after those so far

module _ (limits : LimitsView) (st : Stack) (lines : List LineView) (line l : LineView) (same : l ≡ line) (so_far : AreLines lines) (one_line : is_line line.text ≡ true)
    (holds : st ≡ push_lines limits.rules empty_stack lines) (within_limit : first_too_deep limits.rules limits.blocks lines ≡ None) where
  pub lines_next : AreLines (lines ++ line ∷ [])
  lines_next = are-push lines line so_far one_line

  pub holds_next : push_line limits.rules st l ≡ push_lines limits.rules empty_stack (lines ++ line ∷ [])
  unfolding push_lines
  holds_next = ap₂ (push_line limits.rules) holds same ∙ sym (push_lines-append limits.rules empty_stack lines (line ∷ []))

  by_depth : (deep : Bool) → nat_lt limits.blocks (nesting (push_line limits.rules st l).now) ≡ deep
      → first_too_deep limits.rules limits.blocks (lines ++ line ∷ []) ≡ (if deep then Some (suc (length lines)) else None)
  by_depth deep e =
      too_deep_next limits.rules limits.blocks lines line lines_next within_limit
      ∙ ap (λ b. if b then Some (suc (length lines)) else None) (ap (λ (s : Stack). nat_lt limits.blocks (nesting s.now)) (sym holds_next) ∙ e)

  pub within_next : nesting (push_line limits.rules st l).now ≤ limits.blocks → first_too_deep limits.rules limits.blocks (lines ++ line ∷ []) ≡ None
  within_next few = by_depth false (grind (arith, few))

  pub tells_deep : (fault : BlockFault) → Deep fault limits st l → TellsDepth fault limits (lines ++ line ∷ [])
  tells_deep NoMemory h = tt
  tells_deep (BlocksTooDeep n) h =
      by_depth true (grind (arith, h.0))
      ∙ ap Some (sym (h.1 ∙ ap suc (ap (λ s. length (close_stack s).owners) holds ∙ one_owner_each limits.rules lines so_far)))

-- a line, by how far it stays in the containers

abbrev pub after : Rules → List Frame → Level → OpenLeaf → Owned → ℕ × LineView → Stack
after rules fs v x s m = begun_in rules (take m.0 fs) (close_frames (drop m.0 fs) (close_open v (in_leaf x))) m.1 (own_open (quoted_by false fs) s (in_leaf x))

module _ (rules : Rules) (bare : Bool) (fs : List Frame) (v : Level) (x : OpenLeaf) (s : Owned) (line : LineView) (m : ℕ × LineView)
    (found : m ≡ matching rules bare (is_open_text x) fs line) where
  pushed-as : push_line rules (stack_with bare fs v x s) line ≡ pushed rules false fs v x s m
  unfolding push_line
  pushed-as = pushes rules bare false fs v x s line ∙ ap (pushed rules false fs v x s) (sym found)

  pub pushed_to : (l : LeafLine) → m.0 ≡ length fs → line_of_leaf rules x m.1 ≡ Some l → push_line rules (stack_with bare fs v x s) line ≡ within fs (push_leaf_line s v l)
  unfolding pushed_to_leaf
  pushed_to l all is =
      pushed-as ∙ pushed-all rules false fs v x s m (grind (arith, all)) ∙ ap (pushed_to_leaf rules false fs v x s m) is

  pub pushed_no_leaf : m.0 ≡ length fs → line_of_leaf rules x m.1 ≡ None → push_line rules (stack_with bare fs v x s) line ≡ after rules fs v x s m
  unfolding pushed_to_leaf pushed_after
  pushed_no_leaf all is =
      pushed-as ∙ pushed-all rules false fs v x s m (grind (arith, all)) ∙ ap (pushed_to_leaf rules false fs v x s m) is

  pub pushed_left : (m.0 ≡ length fs → ⊥) → push_line rules (stack_with bare fs v x s) line ≡ after rules fs v x s m
  unfolding pushed_after
  pushed_left fewer = pushed-as ∙ pushed-left rules false fs v x s m (grind (arith, fewer))

  pub owners_closed : (close_stack (stack_with bare fs v x s)).owners ≡ (own_open (quoted_by false fs) s (in_leaf x)).owners
  unfolding close_stack
  owners_closed = ap (λ (t : Owned). t.owners) (owns bare false fs s v x)

pub matched_few : (rules : Rules) (bare open_text : Bool) (fs : List Frame) (line : LineView) → (matching rules bare open_text fs line).0 ≤ length fs
unfolding matching
matched_few rules bare open_text [] line = le_refl 0
matched_few rules bare open_text (f ∷ fs) line = go (inward rules f.container (bare && is_last_frame fs) open_text line) (λ inner. matched_few rules bare open_text fs inner)
  where
    go : (o : Option LineView) → ((inner : LineView) → (matching rules bare open_text fs inner).0 ≤ length fs)
        → (elim o as (λ _. ℕ × LineView) [ Some inner ↦ let inside = matching rules bare open_text fs inner in (suc inside.0, inside.1) | None ↦ (0, line) ]).0 ≤ suc (length fs)
    go None h = omega arith
    go (Some inner) h = omega (arith, h inner)

-- what was started, of what was closed
pub deep_after : (fault : BlockFault) (limits : LimitsView) (before now : Stack) (line : LineView) (o : Owned) → push_line limits.rules before line ≡ now → (close_stack before).owners ≡ o.owners
    → DeepIn fault limits.blocks now o → Deep fault limits before line
deep_after NoMemory limits before now line o is owners h = tt
deep_after (BlocksTooDeep n) limits before now line o is owners h =
    (subst (λ (s : Stack). limits.blocks < nesting s.now) (sym is) h.0, h.1 ∙ ap (λ os. suc (length os)) (sym owners))

-- the parser stands for one line more

pub stands_next : (old new : parser.BlockParser) (lines : List LineView) (line l : LineView) (tests : ℕ) → l ≡ line → is_line line.text ≡ true → HasTaken old lines
    → stack_of new ≡ push_line old.limits.rules (stack_of old) l → length new.stack.frames ≤ old.limits.blocks
    → old.limits.blocks ≤ 500 → Tested (count_of (stack_of new) - count_of (stack_of old)) (old.limits.blocks + 5) 0 tests
    → new.tests ≡ min (old.tests + tests) (2 ^ 128 - 1) → new.limits ≡ old.limits → new.fault ≡ old.fault
    → HasTaken new (lines ++ line ∷ [])
stands_next old new lines line l tests same one_line h is few within tested sum limits fault = record {
  going = fault ∙ h.going;
  are_lines = are-push lines line h.are_lines one_line;
  holds = subst (λ (k : LimitsView). stack_of new ≡ push_lines k.rules empty_stack (lines ++ line ∷ [])) (sym limits)
      (is ∙ holds_next old.limits (stack_of old) lines line l same h.are_lines one_line h.holds h.within);
  within = subst (λ (k : LimitsView). first_too_deep k.rules k.blocks (lines ++ line ∷ []) ≡ None) (sym limits)
      (within_next old.limits (stack_of old) lines line l same h.are_lines one_line h.holds h.within
      (omega (arith, few, depth)));
  few = omega (arith, few, blocks);
  tests = subst (λ limit. AllTested (count_of (stack_of new)) ((limit + 5) * length (lines ++ line ∷ [])) 0 new.tests) (sym blocks)
      (tested_lines (count_of (stack_of old)) (count_of (stack_of new)) old.limits.blocks (length lines) (length (lines ++ line ∷ [])) old.tests tests new.tests
      (length-append lines (line ∷ [])) within h.tests tested sum);
}
  where
    blocks : new.limits.blocks ≡ old.limits.blocks
    blocks = ap (λ (k : LimitsView). k.blocks) limits

    depth : nesting (push_line old.limits.rules (stack_of old) l).now ≡ length new.stack.frames
    depth =
        ap (λ (t : Stack). nesting t.now) (sym is)
        ∙ nest-nesting new.stack.bare new.stack.frames new.stack.level (leaf_of new.leaf)

-- a line that the parser accepts: one of the open leaf, or else what it starts

module _ (old before now : parser.BlockParser) (line : LineView) (m : ℕ × LineView) (frames : before.stack.frames ≡ old.stack.frames) (level : before.stack.level ≡ old.stack.level)
    (leaf : before.leaf ≡ old.leaf) (owners : before.owners ≡ old.owners) (limits : before.limits ≡ old.limits)
    (found : m ≡ matching old.limits.rules old.stack.bare (is_open_text (leaf_of old.leaf)) old.stack.frames line) where
  fs : List Frame
  fs = old.stack.frames

  v : Level
  v = old.stack.level

  x : OpenLeaf
  x = leaf_of old.leaf

  same-leaf : leaf_of before.leaf ≡ x
  unfolding x
  same-leaf = ap leaf_of leaf

  no-more : m.0 ≤ length fs
  unfolding fs
  no-more = subst (λ (k : ℕ × LineView). k.0 ≤ length old.stack.frames) (sym found) (matched_few old.limits.rules old.stack.bare (is_open_text (leaf_of old.leaf)) old.stack.frames line)

  at-all : length before.stack.frames ≤ m.0 → m.0 ≡ length fs
  unfolding fs
  at-all many = omega (arith, many, no-more, ap length frames)

  pub accept_taken : (taken : Bool) → taken ≡ true → TakenToLeaf taken m.0 before m.1 now → stack_of now ≡ push_line old.limits.rules (stack_of old) line
  unfolding fs v x
  accept_taken true e h =
      h.1.1.1
      ∙ ap₂ (λ (gs : List Frame) (w : Level). within gs (push_leaf_line before.owners w h.1.0)) frames level
      ∙ ap (λ o. within old.stack.frames (push_leaf_line o old.stack.level h.1.0)) owners
      ∙ sym (pushed_to _ old.stack.bare old.stack.frames old.stack.level (leaf_of old.leaf) old.owners line m found h.1.0 (at-all h.0)
      (ap₂ (λ (k : LimitsView) y. line_of_leaf k.rules y m.1) (sym limits) (sym same-leaf) ∙ h.1.1.0))
  accept_taken false e h = absurd (cc e)

  pub accept_left : (taken : Bool) → taken ≡ false → TakenToLeaf taken m.0 before m.1 now
      → (push_line old.limits.rules (stack_of old) line ≡ after old.limits.rules old.stack.frames old.stack.level (leaf_of old.leaf) old.owners m)
      × ((leaf_of now.leaf ≡ leaf_of old.leaf) × ((now.stack.frames ≡ old.stack.frames) × ((now.stack.level ≡ old.stack.level) × (now.owners ≡ old.owners))))
  unfolding fs v x
  accept_left true e h = absurd (cc e)
  accept_left false e h = (
    by-depth (nat_le (length before.stack.frames) m.0) refl,
    (h.1.0 ∙ same-leaf, (ap (λ (s : Row). s.frames) h.1.1.0 ∙ frames, (ap (λ (s : Row). s.level) h.1.1.0 ∙ level, h.1.1.1 ∙ owners))),
  )
    where
      by-depth : (b : Bool) → nat_le (length before.stack.frames) m.0 ≡ b
          → push_line old.limits.rules (stack_of old) line ≡ after old.limits.rules old.stack.frames old.stack.level (leaf_of old.leaf) old.owners m
      by-depth true le =
          let many : length before.stack.frames ≤ m.0 = grind (arith, le) in
          pushed_no_leaf _ old.stack.bare old.stack.frames old.stack.level (leaf_of old.leaf) old.owners line m found (at-all many)
          (ap₂ (λ (k : LimitsView) y. line_of_leaf k.rules y m.1) (sym limits) (sym same-leaf) ∙ h.0 many)
      by-depth false le =
          let fewer : m.0 < length before.stack.frames = grind (arith, le) in
          pushed_left _ old.stack.bare old.stack.frames old.stack.level (leaf_of old.leaf) old.owners line m found
          (λ all. absurd (omega (arith, fewer, all, ap length frames)))

-- what was closed, from what it was closed of
pub begun_after : (old mid closed : parser.BlockParser) (st : Row) (m : ℕ × LineView)
    → (leaf_of mid.leaf ≡ leaf_of old.leaf) × ((mid.stack.frames ≡ old.stack.frames) × ((mid.stack.level ≡ old.stack.level) × (mid.owners ≡ old.owners)))
    → closed.stack.level ≡ close_open mid.stack.level (in_leaf (leaf_of mid.leaf))
    → closed.owners ≡ own_open (quoted_by false mid.stack.frames) mid.owners (in_leaf (leaf_of mid.leaf))
    → closed.stack.frames ≡ mid.stack.frames
    → st.frames ≡ take m.0 closed.stack.frames
    → st.level ≡ close_frames (drop m.0 closed.stack.frames) closed.stack.level
    → begun_in old.limits.rules st.frames st.level m.1 closed.owners ≡ after old.limits.rules old.stack.frames old.stack.level (leaf_of old.leaf) old.owners m
begun_after old mid closed st m same level owners frames first rest =
    ap₂ (λ f w. begun_in old.limits.rules f w m.1 closed.owners) (first ∙ ap (λ g. take m.0 g) all)
    (rest ∙ ap₂ (λ g w. close_frames (drop m.0 g) w) all (level ∙ ap₂ (λ w y. close_open w (in_leaf y)) same.1.1.0 same.0))
    ∙ ap (begun_in old.limits.rules (take m.0 old.stack.frames) (close_frames (drop m.0 old.stack.frames) (close_open old.stack.level (in_leaf (leaf_of old.leaf)))) m.1)
    (owners ∙ ap₂ (λ g o. own_open (quoted_by false g) o (in_leaf (leaf_of mid.leaf))) same.1.0 same.1.1.1 ∙ ap (λ y. own_open (quoted_by false old.stack.frames) old.owners (in_leaf y)) same.0)
  where
    all : closed.stack.frames ≡ old.stack.frames
    all = frames ∙ same.1.0

pub owners_after : (old mid closed : parser.BlockParser)
    → (leaf_of mid.leaf ≡ leaf_of old.leaf) × ((mid.stack.frames ≡ old.stack.frames) × ((mid.stack.level ≡ old.stack.level) × (mid.owners ≡ old.owners)))
    → closed.owners ≡ own_open (quoted_by false mid.stack.frames) mid.owners (in_leaf (leaf_of mid.leaf))
    → (close_stack (stack_of old)).owners ≡ closed.owners.owners
unfolding close_stack
owners_after old mid closed same owners =
    ap (λ (t : Owned). t.owners)
    (owns old.stack.bare false old.stack.frames old.owners old.stack.level (leaf_of old.leaf)
    ∙ sym (owners ∙ ap₂ (λ g o. own_open (quoted_by false g) o (in_leaf (leaf_of mid.leaf))) same.1.0 same.1.1.1
    ∙ ap (λ y. own_open (quoted_by false old.stack.frames) old.owners (in_leaf y)) same.0))

-- how many more quotes and items there are after the line

pub taken_count : (old before now : parser.BlockParser) (depth : ℕ) (line : LineView) (taken : Bool) → before.stack.frames ≡ old.stack.frames → before.stack.level ≡ old.stack.level
    → taken ≡ true → TakenToLeaf taken depth before line now → count_of (stack_of now) - count_of (stack_of old) ≤ 0
taken_count old before now depth line true frames level e h =
    count_taken old.stack.bare old.stack.frames old.stack.level (leaf_of old.leaf) old.owners before.owners h.1.0 (stack_of now)
    (h.1.1.1 ∙ ap₂ (λ (gs : List Frame) w. within gs (push_leaf_line before.owners w h.1.0)) frames level)
taken_count old before now depth line false frames level e h = absurd (cc e)

pub begun_count : (old mid closed now : parser.BlockParser) (st : Row) (rules : Rules) (line : LineView) (depth : ℕ)
    → (leaf_of mid.leaf ≡ leaf_of old.leaf) × ((mid.stack.frames ≡ old.stack.frames) × ((mid.stack.level ≡ old.stack.level) × (mid.owners ≡ old.owners)))
    → closed.stack.level ≡ close_open mid.stack.level (in_leaf (leaf_of mid.leaf))
    → closed.stack.frames ≡ mid.stack.frames
    → st.frames ≡ take depth closed.stack.frames
    → st.level ≡ close_frames (drop depth closed.stack.frames) closed.stack.level
    → stack_of now ≡ begun_in rules st.frames st.level line closed.owners
    → count_of (stack_of now) - count_of (stack_of old) ≤ length now.stack.frames - length st.frames
begun_count old mid closed now st rules line depth same level frames first rest is =
    omega (
      arith,
      count_begun rules old.stack.bare old.stack.frames st.frames old.stack.level st.level (leaf_of old.leaf) old.owners closed.owners line depth (stack_of now)
          (first ∙ ap (λ g. take depth g) all)
          (rest ∙ ap₂ (λ g w. close_frames (drop depth g) w) all (level ∙ ap₂ (λ w y. close_open w (in_leaf y)) same.1.1.0 same.0)) is,
      nest-nesting now.stack.bare now.stack.frames now.stack.level (leaf_of now.leaf),
    )
  where
    all : closed.stack.frames ≡ old.stack.frames
    all = frames ∙ same.1.0
