-- What a line is, by the bytes that the scanners look at.
use Rattle.std.proofs.Common.{⊎_elim, bit_and, cond, eqb, ◌≡◌, ℕ, zero, suc, ◌-◌, ◌<◌, ◌≤◌, ◌==◌, Bool, true, false, ◌&&◌, ◌||◌, List, [], ◌∷◌, length, take, drop, get_or, Some, None, refl, sym, ap, ap₂, ◌∙◌, arith, drop-cons}
use Rattle.std.specs.Prelude.{not}
use Rattle.std.specs.List.{list_all, list_any, find}
use Rattle.std.proofs.lemmas.Bool.{cases_eq, cases_Bool, false_from_ne_true}
use Rattle.std.proofs.lemmas.Bool.{agree_below}
use Rattle.std.specs.Bool.{beq}
use Rattle.std.specs.Simd.Lanes.{top}
use Rattle.cm_text.specs.Search.{next_place}
use Rattle.cm_text.proofs.lemmas.SearchLemmas.{none-before-end}
use Rattle.cm_scan.specs.Words.{is_space_or_tab, run_length, after_run, trim, is_at_gap, is_blank_text, begins_with, given}
use Rattle.cm_scan.specs.steps.LineSteps.{is_plain, is_break_marker, is_in_break}
use Rattle.cm_scan.specs.blocks.LineForms.{is_break_of, is_thematic_break, without_closing, atx_heading, is_underline_of, underline, Fence, fence_of, opening_fence, is_closing_fence}

-- thematic breaks

twice-not : (p : ℕ → Bool) (bs : List ℕ) → list_all (λ b. not (not (p b))) bs ≡ list_all p bs
twice-not p [] = refl
twice-not p (b ∷ bs) = ap₂ (λ x y. x && y) (not-not (p b)) (twice-not p bs)
  where
    not-not : (x : Bool) → not (not x) ≡ x
    not-not true = refl
    not-not false = refl

pub all-to-the-end : (p : ℕ → Bool) (bs : List ℕ) → (next_place (λ b. not (p b)) bs 0 == length bs) ≡ list_all p bs
all-to-the-end p bs = none-before-end (λ b. not (p b)) bs ∙ twice-not p bs

-- three lanes, each of which is zero where a byte is one that a break has
abbrev pub unlike : ℕ → ℕ → ℕ
unlike x y = cond (not (eqb x y)) 255 0

three-lanes : (a b c : Bool) → top 7 (bit_and (cond (not a) 255 0) (bit_and (cond (not b) 255 0) (cond (not c) 255 0))) ≡ not (a || (b || c))
three-lanes true true true = refl
three-lanes true true false = refl
three-lanes true false true = refl
three-lanes true false false = refl
three-lanes false true true = refl
three-lanes false true false = refl
three-lanes false false true = refl
three-lanes false false false = refl

agree-everywhere : (f g : ℕ → Bool) (n : ℕ) → ((x : ℕ) → f x ≡ g x) → agree_below f g n ≡ true
agree-everywhere f g zero same = refl
agree-everywhere f g (suc n) same = ap₂ (λ x y. beq x (g n) && y) (same n) (agree-everywhere f g n same) ∙ ap (λ x. x && true) (beq-same (g n))
  where
    beq-same : (b : Bool) → beq b b ≡ true
    beq-same true = refl
    beq-same false = refl

pub outside-lanes : (marker : ℕ) → agree_below (λ x. top 7 (bit_and (unlike x marker) (bit_and (unlike x 32) (unlike x 9)))) (λ b. not (is_in_break marker b)) 256 ≡ true
outside-lanes marker =
    agree-everywhere (λ x. top 7 (bit_and (unlike x marker) (bit_and (unlike x 32) (unlike x 9)))) (λ b. not (is_in_break marker b)) 256
    (λ x. three-lanes (eqb x marker) (eqb x 32) (eqb x 9))

-- a space or tab at the start doesn't decide
break-blank : (m b : ℕ) (bs : List ℕ) → is_space_or_tab m ≡ false → is_space_or_tab b ≡ true → is_break_of m (b ∷ bs) ≡ is_break_of m bs
break-blank m b bs mark blank = grind arith

-- a break of one character holds no other
break-other : (m b : ℕ) (bs : List ℕ) → is_space_or_tab b ≡ false → (b ≡ m → ⊥) → is_break_of m (b ∷ bs) ≡ false
break-other m b bs plain other = grind arith

-- nothing but spaces and tabs is no break
pub no_break : (m : ℕ) (bs : List ℕ) → is_space_or_tab m ≡ false → find is_plain bs ≡ None → is_break_of m bs ≡ false
no_break m [] mark none = refl
no_break m (b ∷ bs) mark none = ⊎_elim
    (λ (e : is_space_or_tab b ≡ true). break-blank m b bs mark e ∙ no_break m bs mark (grind (arith, none, e)))
    (λ (e : is_space_or_tab b ≡ false). absurd (grind (arith, none, e)))
    (cases_Bool (is_space_or_tab b))

-- the first other byte is the one character
break-first : (m x : ℕ) (bs : List ℕ) → is_space_or_tab m ≡ false → find is_plain bs ≡ Some x → (x ≡ m → ⊥) → is_break_of m bs ≡ false
break-first m x [] mark found other = refl
break-first m x (b ∷ bs) mark found other = ⊎_elim
    (λ (e : is_space_or_tab b ≡ true). break-blank m b bs mark e ∙ break-first m x bs mark (grind (arith, found, e)) other)
    (λ (e : is_space_or_tab b ≡ false). break-other m b bs e (λ same. other (grind (arith, found, e, same))))
    (cases_Bool (is_space_or_tab b))

-- the one of three that may be true
or_first : (x y z : Bool) → y ≡ false → z ≡ false → (x || y || z) ≡ x
or_first x y z no_y no_z = grind arith

or_second : (x y z : Bool) → x ≡ false → z ≡ false → (x || y || z) ≡ y
or_second x y z no_x no_z = grind arith

or_third : (x y z : Bool) → x ≡ false → y ≡ false → (x || y || z) ≡ z
or_third x y z no_x no_y = grind arith

module _ (bs : List ℕ) where
  -- of nothing else there is no break
  pub no_thematic : find is_plain bs ≡ None → is_thematic_break bs ≡ false
  unfolding is_thematic_break
  no_thematic none = grind (arith, no_break 45 bs refl none, no_break 95 bs refl none, no_break 42 bs refl none)

  module _ (x : ℕ) (found : find is_plain bs ≡ Some x) where
    other : (m : ℕ) → is_space_or_tab m ≡ false → (x ≡ m → ⊥) → is_break_of m bs ≡ false
    other m mark differs = break-first m x bs mark found differs

    -- what starts with another byte is none
    pub thematic_unmarked : is_break_marker x ≡ false → is_thematic_break bs ≡ false
    unfolding is_thematic_break
    thematic_unmarked unmarked =
        grind (arith, other 45 refl (λ e. grind (arith, unmarked, e)), other 95 refl (λ e. grind (arith, unmarked, e)), other 42 refl (λ e. grind (arith, unmarked, e)))

    same : (m : ℕ) → x ≡ m → is_break_of m bs ≡ is_break_of x bs
    same m e = ap (λ y. is_break_of y bs) (sym e)

    -- what starts with one of the three is a break of that one or none
    pub thematic_marked : is_break_marker x ≡ true → is_thematic_break bs ≡ is_break_of x bs
    unfolding is_thematic_break
    thematic_marked marked =
        let dash : Bool = is_break_of 45 bs in
        let line : Bool = is_break_of 95 bs in
        let star : Bool = is_break_of 42 bs in
        ⊎_elim
        (λ e. or_first dash line star (other 95 refl (λ f. omega (arith, e, f))) (other 42 refl (λ f. omega (arith, e, f))) ∙ same 45 e)
        (λ no_dash. ⊎_elim
        (λ e. or_second dash line star (other 45 refl no_dash) (other 42 refl (λ f. omega (arith, e, f))) ∙ same 95 e)
        (λ no_line. or_third dash line star (other 45 refl no_dash) (other 95 refl no_line) ∙ same 42 (grind (arith, marked, no_dash, no_line)))
        (cases_eq x 95))
        (cases_eq x 45)

-- the end of a content without its closing sequence

-- the byte before a place, where p is before the text
abbrev pub byte_before : ℕ → ℕ → List ℕ → ℕ
byte_before p zero bs = p
byte_before p (suc e) [] = p
byte_before p (suc e) (b ∷ bs) = byte_before b e bs

pub before_first : (p : ℕ) (bs : List ℕ) → byte_before p 0 bs ≡ p
before_first p bs = refl

pub before_later : (p e : ℕ) (bs : List ℕ) → e < length bs → byte_before p (suc e) bs ≡ get_or bs e 0
before_later p e [] within = absurd (omega arith)
before_later p zero (b ∷ bs) within = refl
before_later p (suc e) (b ∷ bs) within = before_later b e bs (omega arith)

abbrev pub is_hash : ℕ → Bool
is_hash c = c == 35

-- a run of `#` after another byte than a space or tab stays
hashes : (bs : List ℕ) → list_all is_hash bs ≡ true → without_closing false bs ≡ bs
unfolding without_closing
hashes [] all = refl
hashes (b ∷ bs) all =
    let h : without_closing false bs ≡ bs = hashes bs (grind (arith, all)) in
    let e : b ≡ 35 = grind (arith, all) in
    grind (arith, h, e)

-- a run of `#` has no other byte
in_hashes : (p e : ℕ) (bs : List ℕ) → p ≡ 35 → list_all is_hash bs ≡ true → byte_before p e bs ≡ 35
in_hashes p zero bs hash all = hash
in_hashes p (suc e) [] hash all = hash
in_hashes p (suc e) (b ∷ bs) hash all = in_hashes b e bs (grind (arith, all)) (grind (arith, all))

-- a text that is no run of `#` keeps its first byte
closing-kept : (g : Bool) (b : ℕ) (bs : List ℕ) → list_all is_hash (b ∷ bs) ≡ false → without_closing g (b ∷ bs) ≡ b ∷ without_closing (is_space_or_tab b) bs
unfolding without_closing
closing-kept g b bs some = grind (arith, some)

-- a last run of `#` after a gap goes
pub closing_goes : (p e : ℕ) (bs : List ℕ) → list_all is_hash (drop e bs) ≡ true → (byte_before p e bs ≡ 35 → ⊥) → is_space_or_tab (byte_before p e bs) ≡ true
    → without_closing (is_space_or_tab p) bs ≡ take e bs
unfolding without_closing
closing_goes p zero [] all other gap = refl
closing_goes p zero (b ∷ bs) all other gap = grind (arith, all, gap)
closing_goes p (suc e) [] all other gap = refl
closing_goes p (suc e) (b ∷ bs) all other gap =
    closing-kept (is_space_or_tab p) b bs (false_from_ne_true (list_all is_hash (b ∷ bs)) (λ h. other (in_hashes b e bs (grind (arith, h)) (grind (arith, h)))))
    ∙ ap (λ rest. b ∷ rest) (closing_goes b e bs all other gap)

-- after another byte it stays
pub closing_stays : (p e : ℕ) (bs : List ℕ) → list_all is_hash (drop e bs) ≡ true → (byte_before p e bs ≡ 35 → ⊥) → is_space_or_tab (byte_before p e bs) ≡ false
    → without_closing (is_space_or_tab p) bs ≡ bs
unfolding without_closing
closing_stays p zero bs all other gap = ap (λ g. without_closing g bs) gap ∙ hashes bs all
closing_stays p (suc e) [] all other gap = refl
closing_stays p (suc e) (b ∷ bs) all other gap =
    closing-kept (is_space_or_tab p) b bs (false_from_ne_true (list_all is_hash (b ∷ bs)) (λ h. other (in_hashes b e bs (grind (arith, h)) (grind (arith, h)))))
    ∙ ap (λ rest. b ∷ rest) (closing_stays b e bs all other gap)

-- the byte before a place after the first
before_place : (p e : ℕ) (bs : List ℕ) → 0 < e → e ≤ length bs → byte_before p e bs ≡ get_or bs (e - 1) 0
before_place p e bs some within =
    let last : e ≡ suc (e - 1) = omega arith in
    ap (λ k. byte_before p k bs) last ∙ before_later p (e - 1) bs (omega arith)

module _ (bs : List ℕ) (e : ℕ) (all : list_all is_hash (drop e bs) ≡ true) where
  -- a content that is a run of `#`
  pub closing_whole : e ≡ 0 → without_closing true bs ≡ take e bs
  closing_whole none =
      let start : byte_before 32 e bs ≡ 32 = ap (λ k. byte_before 32 k bs) none in
      closing_goes 32 e bs all (λ h. omega (arith, h, start)) (ap is_space_or_tab start)

  module _ (some : 0 < e) (within : e ≤ length bs) where
    before : byte_before 32 e bs ≡ get_or bs (e - 1) 0
    before = before_place 32 e bs some within

    -- a run of `#` after a gap
    pub closing_after_gap : is_space_or_tab (get_or bs (e - 1) 0) ≡ true → without_closing true bs ≡ take e bs
    closing_after_gap gap = closing_goes 32 e bs all (λ h. grind (arith, sym before ∙ h, gap)) (ap is_space_or_tab before ∙ gap)

    -- a run of `#` after another byte, or none
    pub closing_after_other : (get_or bs (e - 1) 0 ≡ 35 → ⊥) → is_space_or_tab (get_or bs (e - 1) 0) ≡ false → without_closing true bs ≡ bs
    closing_after_other other plain = closing_stays 32 e bs all (λ h. other (sym before ∙ h)) (ap is_space_or_tab before ∙ plain)

-- ATX headings, by the run of `#` and what is after it

module _ (bs : List ℕ) where
  pub atx_none : run_length 35 bs ≡ 0 → atx_heading bs ≡ None
  unfolding atx_heading
  atx_none none = grind (arith, none)

  pub atx_many : 6 < run_length 35 bs → atx_heading bs ≡ None
  unfolding atx_heading
  atx_many many = grind (arith, many)

  pub atx_no_gap : is_at_gap (after_run 35 bs) ≡ false → atx_heading bs ≡ None
  unfolding atx_heading
  atx_no_gap other = grind (arith, other)

  pub atx_found : 1 ≤ run_length 35 bs → run_length 35 bs ≤ 6 → is_at_gap (after_run 35 bs) ≡ true
      → atx_heading bs ≡ Some (record { level = run_length 35 bs; content = trim (without_closing true (trim (after_run 35 bs))) })
  unfolding atx_heading
  atx_found some few gap = grind (arith, some, few, gap)

  -- underlines

  pub underline_one : is_underline_of 61 bs ≡ true → underline bs ≡ Some 1
  unfolding underline
  underline_one one = grind (arith, one)

  pub underline_two : is_underline_of 61 bs ≡ false → is_underline_of 45 bs ≡ true → underline bs ≡ Some 2
  unfolding underline
  underline_two one two = grind (arith, one, two)

  pub underline_none : is_underline_of 61 bs ≡ false → is_underline_of 45 bs ≡ false → underline bs ≡ None
  unfolding underline
  underline_none one two = grind (arith, one, two)

  -- fences

  pub fence_few : (m : ℕ) → run_length m bs < 3 → fence_of m bs ≡ None
  unfolding fence_of
  fence_few m few = grind (arith, few)

  pub fence_found : (m : ℕ) → 3 ≤ run_length m bs → fence_of m bs ≡ Some (record { marker = m; count = run_length m bs; info = trim (after_run m bs) })
  unfolding fence_of
  fence_found m some = grind (arith, some)

  pub opening_tildes : fence_of 96 bs ≡ None → opening_fence bs ≡ fence_of 126 bs
  unfolding opening_fence
  opening_tildes none = grind (arith, none)

  pub opening_backticks : (fence : Fence) → fence_of 96 bs ≡ Some fence → opening_fence bs ≡ given (not (list_any (λ b. b == 96) fence.info)) fence
  unfolding opening_fence
  opening_backticks fence found = grind (arith, found)

  pub closes : (fence : Fence) → fence.count ≤ run_length fence.marker bs → is_closing_fence fence bs ≡ is_blank_text (after_run fence.marker bs)
  unfolding is_closing_fence
  closes fence enough = grind (arith, enough)

  pub closes_not : (fence : Fence) → run_length fence.marker bs < fence.count → is_closing_fence fence bs ≡ false
  unfolding is_closing_fence
  closes_not fence few = grind (arith, few)

-- the byte at a place

pub begins-at : (c : ℕ) (bs : List ℕ) (i : ℕ) → i < length bs → begins_with c (drop i bs) ≡ (get_or bs i 0 == c)
begins-at c bs i within = rw (drop-cons bs i 0) refl
