-- The owners of lines are told by the lines of leaves and those of markers: each is found again.
use Rattle.std.proofs.Common.{◌≡◌, ℕ, zero, suc, ◌+◌, ◌≤◌, ◌<◌, ◌==◌, nat_lt, Bool, true, false, cond, if◌then◌else◌, ◌⊎◌, inl, inr, ◌&&◌, List, [], ◌∷◌, length, drop, Option, Some, None, option_map, refl, ap, ap₂, sym, subst, ◌∙◌, arith}
use Rattle.std.specs.List.{position_or_len}
use Rattle.std.proofs.lemmas.Bool.{eq-eqb, ne_eqb, eqb-true, lt-ltb, le-ltb}
use Rattle.cm_tree.specs.declared.tree.Owner.{Owner}
use Rattle.cm_tree.specs.declared.tree.Owner.TheVariants.{Leaf, Marker, Blank}
use Rattle.cm_scan.specs.laws.PartLaws.{LeavesNamed, name_lines, leaves_named}
use Rattle.cm_json.specs.Mdast.{has_leaf, is_not_of, run_length, leaf_start, leaf_end, is_marker}

-- ---- owners by lines

-- the numbers of the lines that have only markers
abbrev pub markers_of : ℕ → List Owner → List ℕ
markers_of passed [] = []
markers_of passed (owner ∷ owners) = cond (is_marker owner) (suc passed ∷ markers_of (suc passed) owners) (markers_of (suc passed) owners)

-- the owner of a line that is no leaf's, and the markers that are left
abbrev mark : ℕ → List ℕ → Owner × List ℕ
mark line [] = (Blank, [])
mark line (m ∷ ms) = cond (m == line) (Marker, ms) (Blank, m ∷ ms)

abbrev Spans : Type 0
Spans = List (ℕ × ℕ)

-- how many leaves are passed after a line of the next one, and the lines of those that are left
abbrev step : (line leaves s e : ℕ) → Spans → ℕ × Spans
step line leaves s e rest = cond (nat_lt line e) (leaves, (s, e) ∷ rest) (suc leaves, rest)

-- the owners of the given number of lines from this one on, after the given number of leaves
abbrev pub owners_back : (count line leaves : ℕ) → Spans → List ℕ → List Owner
owners_back zero line leaves spans ms = []
owners_back (suc count) line leaves [] ms = (mark line ms).0 ∷ owners_back count (suc line) leaves [] (mark line ms).1
owners_back (suc count) line leaves ((s, e) ∷ rest) ms =
    cond (nat_lt line s) ((mark line ms).0 ∷ owners_back count (suc line) leaves ((s, e) ∷ rest) (mark line ms).1)
    (Leaf (suc leaves) ∷ owners_back count (suc line) (step line leaves s e rest).0 (step line leaves s e rest).1 ms)

-- the lines of the given number of leaves, after the given number of lines
module _ (owners : List Owner) where
  abbrev pub runs : ℕ → ℕ → Spans
  runs zero passed = []
  runs (suc n) passed = (leaf_start owners passed + 1, leaf_end owners passed) ∷ runs n (leaf_end owners passed)

  abbrev pub run_end : ℕ → ℕ → ℕ
  run_end zero passed = passed
  run_end (suc n) passed = run_end n (leaf_end owners passed)

-- the leaves are in order, and the last one has this number
abbrev InOrder : Bool → ℕ → List Owner → ℕ → Type 0
InOrder inside leaves owners last = option_map (λ (named : LeavesNamed). named.count) (name_lines (Some (record { in_leaf = inside; count = leaves })) owners) ≡ Some last

abbrev starts_with : ℕ → List Owner → Bool
starts_with leaf [] = false
starts_with leaf (Leaf other ∷ owners) = leaf == other
starts_with leaf (_ ∷ owners) = false

-- ---- small facts

drop-tail : (n : ℕ) (xs ys : List Owner) (x : Owner) → drop n xs ≡ x ∷ ys → drop (suc n) xs ≡ ys
drop-tail zero xs ys x e = ap (drop 1) e
drop-tail (suc n) [] ys x e = cc
drop-tail (suc n) (z ∷ zs) ys x e = drop-tail n zs ys x e

nothing-named : (owners : List Owner) → name_lines None owners ≡ None
nothing-named [] = refl
nothing-named (owner ∷ owners) = nothing-named owners

out-of-order : (owners : List Owner) (last : ℕ) → option_map (λ (named : LeavesNamed). named.count) (name_lines None owners) ≡ Some last → ⊥
out-of-order owners last e = absurd (grind (arith, nothing-named owners))

some-is : (m n : ℕ) → Some m ≡ Some n → m ≡ n
some-is m n e = cc

both-true : (a b : Bool) → (a && b) ≡ true → (a ≡ true) × (b ≡ true)
both-true true b both = (refl, both)
both-true false b both = cc

-- a line of a leaf begins the next one, or goes on with the one before
abbrev Named : Bool → ℕ → ℕ → List Owner → ℕ → Type 0
Named inside leaves number owners last = ((number ≡ suc leaves) × InOrder true (suc leaves) owners last) ⊎ ((inside ≡ true) × (number ≡ leaves) × InOrder inside leaves owners last)

abbrev Counts : Option LeavesNamed → List Owner → ℕ → Type 0
Counts named owners last = option_map (λ (named : LeavesNamed). named.count) (name_lines named owners) ≡ Some last

goes-on : (inside : Bool) (leaves number : ℕ) (owners : List Owner) (last : ℕ) (b : Bool) → (inside && number == leaves) ≡ b
    → Counts (if b then Some (record { in_leaf = inside; count = leaves }) else None) owners last → Named inside leaves number owners last
goes-on inside leaves number owners last true e order = let (a, b) = both-true inside (number == leaves) e in inr (a, eqb-true number leaves b, order)
goes-on inside leaves number owners last false e order = absurd (out-of-order owners last order)

named : (inside : Bool) (leaves number : ℕ) (owners : List Owner) (last : ℕ) (b : Bool) → (number == suc leaves) ≡ b
    → Counts (if b then Some (record { in_leaf = true; count = suc leaves }) else (if inside && number == leaves then Some (record { in_leaf = inside; count = leaves }) else None)) owners last
    → Named inside leaves number owners last
named inside leaves number owners last true e order = inl (eqb-true number (suc leaves) e, order)
named inside leaves number owners last false e order = goes-on inside leaves number owners last (inside && number == leaves) refl order

named-as : (inside : Bool) (leaves number : ℕ) (owners : List Owner) (last : ℕ) → InOrder inside leaves (Leaf number ∷ owners) last → Named inside leaves number owners last
named-as inside leaves number owners last order = named inside leaves number owners last (number == suc leaves) refl order

-- leaves that have been named stay so
grows : (inside : Bool) (leaves : ℕ) (owners : List Owner) (last : ℕ) → InOrder inside leaves owners last → leaves ≤ last
grows inside leaves [] last order = omega (arith, some-is leaves last order)
grows inside leaves (Leaf number ∷ owners) last order = elim (named-as inside leaves number owners last order) [
  | inl next ↦ omega (arith, grows true (suc leaves) owners last next.1)
  | inr same ↦ grows inside leaves owners last same.2
]
grows inside leaves (Marker ∷ owners) last order = grows false leaves owners last order
grows inside leaves (Blank ∷ owners) last order = grows false leaves owners last order

-- no line before has a marker that is left
mark-later : (line passed : ℕ) (owners : List Owner) → line ≤ passed → mark line (markers_of passed owners) ≡ (Blank, markers_of passed owners)
mark-later line passed [] later = refl
mark-later line passed (Leaf n ∷ owners) later = mark-later line (suc passed) owners (omega arith)
mark-later line passed (Blank ∷ owners) later = mark-later line (suc passed) owners (omega arith)
mark-later line passed (Marker ∷ owners) later =
    ap (λ b. cond b (Marker, markers_of (suc passed) owners) (Blank, suc passed ∷ markers_of (suc passed) owners)) (ne_eqb (suc passed) line (λ e. omega arith))

mark-here : (line : ℕ) (ms : List ℕ) → mark line (line ∷ ms) ≡ (Marker, ms)
mark-here line ms = ap (λ b. cond b (Marker, ms) (Blank, line ∷ ms)) (eq-eqb line line refl)

place-zero : (leaf : ℕ) (owners : List Owner) → starts_with leaf owners ≡ false → position_or_len (is_not_of leaf) owners ≡ 0
place-zero leaf [] other = refl
place-zero leaf (Leaf number ∷ owners) other = grind arith
place-zero leaf (Marker ∷ owners) other = grind arith
place-zero leaf (Blank ∷ owners) other = grind arith

place-next : (leaf number : ℕ) (owners : List Owner) → (leaf == number) ≡ true → position_or_len (is_not_of leaf) (Leaf number ∷ owners) ≡ suc (position_or_len (is_not_of leaf) owners)
place-next leaf number owners same = grind arith

leaf-next : (owner : Owner) (owners : List Owner) → has_leaf owner ≡ false → position_or_len has_leaf (owner ∷ owners) ≡ suc (position_or_len has_leaf owners)
leaf-next owner owners other = grind arith

leaf-first : (number : ℕ) (owners : List Owner) → position_or_len has_leaf (Leaf number ∷ owners) ≡ 0
leaf-first number owners = grind arith

-- ---- line by line

module _ (owners : List Owner) where
  start-skip : (passed : ℕ) (os : List Owner) (x : Owner) → drop passed owners ≡ x ∷ os → has_leaf x ≡ false → leaf_start owners passed ≡ leaf_start owners (suc passed)
  start-skip passed os x here other =
      omega (arith, ap (position_or_len has_leaf) here, leaf-next x os other, ap (position_or_len has_leaf) (drop-tail passed owners os x here))

  skip : (passed more : ℕ) (os : List Owner) (x : Owner) → drop passed owners ≡ x ∷ os → has_leaf x ≡ false → runs owners more passed ≡ runs owners more (suc passed)
  skip passed zero os x here other = refl
  skip passed (suc more) os x here other =
      ap (λ s. (s + 1, s + run_length (drop s owners)) ∷ runs owners more (s + run_length (drop s owners))) (start-skip passed os x here other)

  gap-back : (passed leaves more count : ℕ) (ms : List ℕ)
      → owners_back (suc count) (suc passed) leaves (runs owners more (suc passed)) ms
      ≡ (mark (suc passed) ms).0 ∷ owners_back count (suc (suc passed)) leaves (runs owners more (suc passed)) (mark (suc passed) ms).1
  gap-back passed leaves zero count ms = refl
  gap-back passed leaves (suc more) count ms =
      let s = leaf_start owners (suc passed) + 1 in
      let e = leaf_end owners (suc passed) in
      let rest = runs owners more e in
      let before : suc passed < s = omega arith in
      ap (λ b. cond b ((mark (suc passed) ms).0 ∷ owners_back count (suc (suc passed)) leaves ((s, e) ∷ rest) (mark (suc passed) ms).1)
      (Leaf (suc leaves) ∷ owners_back count (suc (suc passed)) (step (suc passed) leaves s e rest).0 (step (suc passed) leaves s e rest).1 ms)) (lt-ltb (suc passed) s before)

  abbrev Outside : List Owner → Type 0
  Outside os = (passed leaves more : ℕ) (inside : Bool) → drop passed owners ≡ os → InOrder inside leaves os (leaves + more) → (inside && starts_with leaves os) ≡ false
      → owners_back (length os) (suc passed) leaves (runs owners more passed) (markers_of passed os) ≡ os

  -- what is left after a line of a leaf that goes on up to line `e`
  abbrev after : (passed leaves s more e : ℕ) → ℕ × Spans
  after passed leaves s more e = step passed leaves s e (runs owners more e)

  abbrev on : List Owner → (passed : ℕ) → ℕ × Spans → List Owner
  on os passed left = owners_back (length os) (suc passed) left.0 left.1 (markers_of passed os)

  abbrev Inside : List Owner → Type 0
  Inside os = (passed leaves more s : ℕ) → drop passed owners ≡ os → s ≤ passed → InOrder true (suc leaves) os (suc leaves + more)
      → on os passed (after passed leaves s more (passed + position_or_len (is_not_of (suc leaves)) os)) ≡ os

  -- a line that is no leaf's
  no-leaf : (os : List Owner) (x : Owner) → Outside os → has_leaf x ≡ false → (passed leaves more : ℕ) → drop passed owners ≡ x ∷ os → InOrder false leaves os (leaves + more)
      → (ms : List ℕ) → mark (suc passed) ms ≡ (x, markers_of (suc passed) os) → owners_back (suc (length os)) (suc passed) leaves (runs owners more passed) ms ≡ x ∷ os
  no-leaf os x outside other passed leaves more here order ms marks =
      ap (λ r. owners_back (suc (length os)) (suc passed) leaves r ms) (skip passed more os x here other)
      ∙ gap-back passed leaves more (length os) ms
      ∙ ap (λ (m : Owner × List ℕ). m.0 ∷ owners_back (length os) (suc (suc passed)) leaves (runs owners more (suc passed)) m.1) marks
      ∙ ap (λ t. x ∷ t) (outside (suc passed) leaves more false (drop-tail passed owners os x here) order refl)

  -- a line of the leaf that goes on
  same-leaf : (os : List Owner) (number : ℕ) → Inside os → (passed leaves more s e : ℕ) → drop passed owners ≡ Leaf number ∷ os → s ≤ suc passed → number ≡ suc leaves
      → e ≡ suc passed + position_or_len (is_not_of (suc leaves)) os → InOrder true (suc leaves) os (suc leaves + more)
      → owners_back (suc (length os)) (suc passed) leaves ((s, e) ∷ runs owners more e) (markers_of (suc passed) os) ≡ Leaf number ∷ os
  same-leaf os number inside passed leaves more s e here first is ends order =
      let ms = markers_of (suc passed) os in
      let rest = runs owners more e in
      let left = after (suc passed) leaves s more e in
      ap (λ b. cond b ((mark (suc passed) ms).0 ∷ owners_back (length os) (suc (suc passed)) leaves ((s, e) ∷ rest) (mark (suc passed) ms).1)
      (Leaf (suc leaves) ∷ on os (suc passed) left)) (le-ltb (suc passed) s first)
      ∙ ap (λ e. Leaf (suc leaves) ∷ on os (suc passed) (after (suc passed) leaves s more e)) ends
      ∙ ap₂ (λ l t. Leaf l ∷ t) (sym is) (inside (suc passed) leaves more s (drop-tail passed owners os (Leaf number) here) first order)

  -- the first line of the next leaf
  next-leaf : (os : List Owner) (number : ℕ) → Inside os → (passed leaves more : ℕ) → drop passed owners ≡ Leaf number ∷ os → number ≡ suc leaves
      → InOrder true (suc leaves) os (leaves + more)
      → owners_back (suc (length os)) (suc passed) leaves (runs owners more passed) (markers_of (suc passed) os) ≡ Leaf number ∷ os
  next-leaf os number inside passed leaves zero here is order = absurd (omega (arith, grows true (suc leaves) os (leaves + 0) order))
  next-leaf os number inside passed leaves (suc more) here is order =
      let start : leaf_start owners passed ≡ passed = omega (arith, ap (position_or_len has_leaf) here, leaf-first number os) in
      let run : run_length (drop passed owners) ≡ suc (position_or_len (is_not_of number) os) = ap run_length here in
      let end = passed + run_length (drop passed owners) in
      let ends : end ≡ suc passed + position_or_len (is_not_of (suc leaves)) os = omega (arith, run, ap (λ n. position_or_len (is_not_of n) os) is) in
      ap (λ s. owners_back (suc (length os)) (suc passed) leaves ((s + 1, s + run_length (drop s owners)) ∷ runs owners more (s + run_length (drop s owners))) (markers_of (suc passed) os)) start
      ∙ same-leaf os number inside passed leaves more (passed + 1) end here (omega arith) is ends (subst (InOrder true (suc leaves) os) (omega arith) order)

  outside-leaf : (os : List Owner) (number : ℕ) → Inside os → Outside (Leaf number ∷ os)
  outside-leaf os number inside passed leaves more within here order other = elim (named-as within leaves number os (leaves + more) order) [
    | inl next ↦ next-leaf os number inside passed leaves more here next.0 next.1
    | inr same ↦ absurd (grind (arith, same.0, same.1, other))
  ]

  -- a run that has ended
  leaves-it : (os : List Owner) → Outside os → (passed leaves more s : ℕ) → drop passed owners ≡ os → InOrder true (suc leaves) os (suc leaves + more) → starts_with (suc leaves) os ≡ false
      → on os passed (after passed leaves s more (passed + position_or_len (is_not_of (suc leaves)) os)) ≡ os
  leaves-it os outside passed leaves more s here order other =
      let ends : passed + position_or_len (is_not_of (suc leaves)) os ≡ passed = omega (arith, place-zero (suc leaves) os other) in
      ap (λ e. on os passed (after passed leaves s more e)) ends
      ∙ ap (on os passed) (ap (λ b. cond b (leaves, (s, passed) ∷ runs owners more passed) (suc leaves, runs owners more passed)) (le-ltb passed passed (omega arith)))
      ∙ outside passed (suc leaves) more true here order other

  still-inside : (passed leaves s more e : ℕ) → passed < e → after passed leaves s more e ≡ (leaves, (s, e) ∷ runs owners more e)
  still-inside passed leaves s more e within = ap (λ b. cond b (leaves, (s, e) ∷ runs owners more e) (suc leaves, runs owners more e)) (lt-ltb passed e within)

  inside-leaf : (os : List Owner) (number : ℕ) → Inside os → Inside (Leaf number ∷ os)
  inside-leaf os number inside passed leaves more s here first order = elim (suc leaves == number) as (λ b. (suc leaves == number) ≡ b
      → on (Leaf number ∷ os) passed (after passed leaves s more (passed + position_or_len (is_not_of (suc leaves)) (Leaf number ∷ os))) ≡ Leaf number ∷ os) [
        | true ↦ λ same.
            let is : number ≡ suc leaves = sym (eqb-true (suc leaves) number same) in
            let e = passed + position_or_len (is_not_of (suc leaves)) (Leaf number ∷ os) in
            let ends : e ≡ suc passed + position_or_len (is_not_of (suc leaves)) os = omega (arith, place-next (suc leaves) number os same) in
            let going : passed < e = omega (arith, ends) in
            let rest : InOrder true (suc leaves) os (suc leaves + more) = elim (named-as true (suc leaves) number os (suc leaves + more) order) [
              | inl next ↦ absurd (omega (arith, next.0, is))
              | inr same ↦ same.2
            ] in
            ap (on (Leaf number ∷ os) passed) (still-inside passed leaves s more e going)
            ∙ same-leaf os number inside passed leaves more s e here (omega (arith, first)) is ends rest
        | false ↦ λ other. leaves-it (Leaf number ∷ os) (outside-leaf os number inside) passed leaves more s here order other
      ] refl

  mutual
    outside-back : (os : List Owner) → Outside os
    outside-back [] passed leaves more inside here order other = refl
    outside-back (Leaf number ∷ os) passed leaves more inside here order other = outside-leaf os number (inside-back os) passed leaves more inside here order other
    outside-back (Marker ∷ os) passed leaves more inside here order other =
        no-leaf os Marker (outside-back os) refl passed leaves more here order (suc passed ∷ markers_of (suc passed) os) (mark-here (suc passed) (markers_of (suc passed) os))
    outside-back (Blank ∷ os) passed leaves more inside here order other =
        no-leaf os Blank (outside-back os) refl passed leaves more here order (markers_of (suc passed) os) (mark-later (suc passed) (suc passed) os (omega arith))

    inside-back : (os : List Owner) → Inside os
    inside-back [] passed leaves more s here first order = refl
    inside-back (Leaf number ∷ os) passed leaves more s here first order = inside-leaf os number (inside-back os) passed leaves more s here first order
    inside-back (Marker ∷ os) passed leaves more s here first order =
        leaves-it (Marker ∷ os) (λ p l m i h o x. no-leaf os Marker (outside-back os) refl p l m h o (suc p ∷ markers_of (suc p) os) (mark-here (suc p) (markers_of (suc p) os))) passed leaves more s here order refl
    inside-back (Blank ∷ os) passed leaves more s here first order =
        leaves-it (Blank ∷ os) (λ p l m i h o x. no-leaf os Blank (outside-back os) refl p l m h o (markers_of (suc p) os) (mark-later (suc p) (suc p) os (omega arith))) passed leaves more s here order refl

-- the owners of all lines
pub owners-back : (owners : List Owner) (leaves : ℕ) → leaves_named owners ≡ Some leaves → owners_back (length owners) 1 0 (runs owners leaves 0) (markers_of 0 owners) ≡ owners
owners-back owners leaves order = outside-back owners owners 0 0 leaves false refl (order ∙ ap Some (omega arith)) refl
