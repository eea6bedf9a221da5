-- What the lines of a sequence are read as: an empty line after a list is one of its deepest last item, except after a bare marker.
use Rattle.std.proofs.Common.{◌≡◌, ℕ, Bool, true, false, [], ◌∷◌, refl, sym, ◌∙◌, ap, None}
use Rattle.std.proofs.lemmas.Bool.{false≢true, and_parts}
use Rattle.std.specs.Prelude.{not, nat_lt, ◌&&◌, ◌||◌}
use Rattle.cm_text.specs.Rules.{Rules}
use Rattle.cm_tree.specs.declared.tree.Block.TheVariants.{Quote, List as ListBlock}
use Rattle.cm_tree.specs.declared.tree.ListKind.{ListKind}
use Rattle.cm_scan.specs.Words.{given}
use Rattle.cm_scan.specs.blocks.Starts.{starts_at_one}
use Rattle.cm_scan.specs.blocks.Parts.{leaf_block, Parts, none, blank, leaf, quote, list, ItemParts, last_item, item, is_open_leaf, leaves_open_after, items_leave_open, next_items, ends_blank_after, items_end_blank, is_separated, is_loose, blocks_of_parts, blocks_of_items}
use Rattle.cm_source.specs.steps.Sequences.{Sequence, is_none, no_blocks, leaf_then, quote_then, list_then, SequenceItems, last_one, one_and, tree, items_tree, gap_before, is_paragraph, is_code, first_inside, interrupts_alone, fits_tight, has_two_blocks, can_be_loose, begins_with_list, begins_with_kind}
use Rattle.cm_source.proofs.lemmas.blocks.SequenceFits.{leaf_size, FitAll, ItemsFit}

abbrev pub blank_if : Bool → Parts → Parts
blank_if true p = blank p
blank_if false p = p

-- what a container without blocks holds
abbrev pub or_blank : Sequence → Parts → Parts
or_blank no_blocks p = blank none
or_blank _ p = p

abbrev pub last_is_bare : SequenceItems → Bool
last_is_bare (last_one inside) = is_none inside
last_is_bare (one_and inside items) = last_is_bare items

abbrev pub one_if : Bool → ℕ
one_if true = 1
one_if false = 0

unfoldable mutual
  pub concrete : (apart beyond_last : Bool) → Sequence → Parts
  concrete a e no_blocks = none
  concrete a e (leaf_then x rest) = leaf x.part (leaf_size x.part) (blank_if (gap_before a e rest) (concrete a e rest))
  concrete a e (quote_then inside rest) = quote (or_blank inside (concrete true false inside)) (blank_if (gap_before a e rest) (concrete a e rest))
  concrete a e (list_then kind tight items rest) = list kind (concrete_items tight (gap_before a e rest) items) (blank_if (gap_before a e rest && last_is_bare items) (concrete a e rest))

  pub concrete_items : (tight beyond_last : Bool) → SequenceItems → ItemParts
  concrete_items tight e (last_one inside) = last_item (or_blank inside (concrete (not tight) e inside))
  concrete_items tight e (one_and inside items) = item (or_blank inside (concrete (not tight) (not tight) inside)) (one_if (not tight && is_none inside)) (concrete_items tight e items)

or-blank-is : (o : Sequence) (p : Parts) → is_none o ≡ false → or_blank o p ≡ p
or-blank-is no_blocks p h = absurd (false≢true (sym h))
or-blank-is (leaf_then x rest) p h = refl
or-blank-is (quote_then inside rest) p h = refl
or-blank-is (list_then k t is rest) p h = refl

-- With an empty line after them the blocks leave no paragraph open.

beyond-closed : (a b v : Bool) (rest : Sequence) → ((b : Bool) → is_none rest ≡ false → leaves_open_after b (concrete a true rest) ≡ false)
    → (is_none rest ≡ true → v ≡ false → b ≡ false) → leaves_open_after b (blank_if v (concrete a true rest)) ≡ false
unfolding concrete leaves_open_after
beyond-closed a b true no_blocks ih last = refl
beyond-closed a b false no_blocks ih last = last refl refl
beyond-closed a b true (leaf_then x rest) ih last = ih false refl
beyond-closed a b false (leaf_then x rest) ih last = ih b refl
beyond-closed a b true (quote_then inside rest) ih last = ih false refl
beyond-closed a b false (quote_then inside rest) ih last = ih b refl
beyond-closed a b true (list_then k t is rest) ih last = ih false refl
beyond-closed a b false (list_then k t is rest) ih last = ih b refl

gap-last : (a e : Bool) (rest : Sequence) → is_none rest ≡ true → gap_before a e rest ≡ e
gap-last a e no_blocks h = refl
gap-last a e (leaf_then x rest) h = absurd (false≢true h)
gap-last a e (quote_then inside rest) h = absurd (false≢true h)
gap-last a e (list_then k t is rest) h = absurd (false≢true h)

true-is : {A : Type 0} (v : Bool) → v ≡ true → v ≡ false → A
true-is v h k = absurd (false≢true (sym k ∙ h))

mutual
  unfolding concrete concrete_items leaves_open_after items_leave_open

  pub closed : (a b : Bool) (o : Sequence) → is_none o ≡ false → leaves_open_after b (concrete a true o) ≡ false
  closed a b no_blocks h = absurd (false≢true (sym h))
  closed a b (leaf_then x rest) h = beyond-closed a (is_open_leaf x.part) (gap_before a true rest) rest (λ b h. closed a b rest h) (λ n k. true-is _ (gap-last a true rest n) k)
  closed a b (quote_then inside rest) h =
      beyond-closed a (leaves_open_after false (or_blank inside (concrete true false inside))) (gap_before a true rest) rest (λ b h. closed a b rest h) (λ n k. true-is _ (gap-last a true rest n) k)
  closed a b (list_then kind tight items rest) h =
      beyond-closed a (items_leave_open (concrete_items tight (gap_before a true rest) items)) (gap_before a true rest && last_is_bare items) rest (λ b h. closed a b rest h)
      (λ n k. ap (λ g. items_leave_open (concrete_items tight g items)) (gap-last a true rest n)
      ∙ items-closed tight items (ap (λ g. g && last_is_bare items) (sym (gap-last a true rest n)) ∙ k))

  items-closed : (tight : Bool) (items : SequenceItems) → last_is_bare items ≡ false → items_leave_open (concrete_items tight true items) ≡ false
  items-closed tight (last_one inside) h = ap (leaves_open_after false) (or-blank-is inside (concrete (not tight) true inside) h) ∙ closed (not tight) false inside h
  items-closed tight (one_and inside items) h = items-closed tight items h

-- The last line is blank exactly if an empty line follows.

beyond-ends : (a e b v : Bool) (rest : Sequence) → ((b : Bool) → is_none rest ≡ false → ends_blank_after b (concrete a e rest) ≡ e)
    → (is_none rest ≡ true → v ≡ true → e ≡ true) → (is_none rest ≡ true → v ≡ false → b ≡ e) → ends_blank_after b (blank_if v (concrete a e rest)) ≡ e
unfolding concrete ends_blank_after
beyond-ends a e b true no_blocks ih known last = sym (known refl refl)
beyond-ends a e b false no_blocks ih known last = last refl refl
beyond-ends a e b true (leaf_then x rest) ih known last = ih true refl
beyond-ends a e b false (leaf_then x rest) ih known last = ih b refl
beyond-ends a e b true (quote_then inside rest) ih known last = ih true refl
beyond-ends a e b false (quote_then inside rest) ih known last = ih b refl
beyond-ends a e b true (list_then k t is rest) ih known last = ih true refl
beyond-ends a e b false (list_then k t is rest) ih known last = ih b refl

inside-ends : (a e : Bool) (o : Sequence) → ((b : Bool) → is_none o ≡ false → ends_blank_after b (concrete a e o) ≡ e) → items_end_blank (last_item (or_blank o (concrete a e o))) ≡ (e && not (is_none o))
unfolding items_end_blank ends_blank_after concrete
inside-ends a true no_blocks ih = refl
inside-ends a false no_blocks ih = refl
inside-ends a true (leaf_then x rest) ih = ih false refl
inside-ends a false (leaf_then x rest) ih = ih false refl
inside-ends a true (quote_then inside rest) ih = ih false refl
inside-ends a false (quote_then inside rest) ih = ih false refl
inside-ends a true (list_then k t is rest) ih = ih false refl
inside-ends a false (list_then k t is rest) ih = ih false refl

and-not : (e v : Bool) → (e && v) ≡ false → (e && not v) ≡ e
and-not true true h = absurd (false≢true (sym h))
and-not true false h = refl
and-not false v h = refl

mutual
  unfolding concrete concrete_items ends_blank_after items_end_blank

  pub ends : (a e b : Bool) (o : Sequence) → is_none o ≡ false → ends_blank_after b (concrete a e o) ≡ e
  ends a e b no_blocks h = absurd (false≢true (sym h))
  ends a e b (leaf_then x rest) h = beyond-ends a e false (gap_before a e rest) rest (λ b h. ends a e b rest h) (λ n k. sym (gap-last a e rest n) ∙ k) (λ n k. sym k ∙ gap-last a e rest n)
  ends a e b (quote_then inside rest) h = beyond-ends a e false (gap_before a e rest) rest (λ b h. ends a e b rest h) (λ n k. sym (gap-last a e rest n) ∙ k) (λ n k. sym k ∙ gap-last a e rest n)
  ends a e b (list_then kind tight items rest) h =
      beyond-ends a e (items_end_blank (concrete_items tight (gap_before a e rest) items)) (gap_before a e rest && last_is_bare items) rest (λ b h. ends a e b rest h)
      (λ n k. sym (gap-last a e rest n) ∙ (and_parts (gap_before a e rest) (last_is_bare items) k).0)
      (λ n k. ap (λ g. items_end_blank (concrete_items tight g items)) (gap-last a e rest n)
      ∙ items-end tight e items
      ∙ and-not e (last_is_bare items) (ap (λ g. g && last_is_bare items) (sym (gap-last a e rest n)) ∙ k))

  pub items-end : (tight e : Bool) (items : SequenceItems) → items_end_blank (concrete_items tight e items) ≡ (e && not (last_is_bare items))
  items-end tight e (last_one inside) = inside-ends (not tight) e inside (λ b h. ends (not tight) e b inside h)
  items-end tight e (one_and inside items) = items-end tight e items

-- Looseness

none-is : (o : Sequence) → is_none o ≡ true → o ≡ no_blocks
none-is no_blocks h = refl
none-is (leaf_then x rest) h = absurd (false≢true h)
none-is (quote_then inside rest) h = absurd (false≢true h)
none-is (list_then k t is rest) h = absurd (false≢true h)

-- one block is separated from nothing
alone : (e before : Bool) → is_separated true before (blank_if e none) ≡ false
unfolding is_separated
alone true before = refl
alone false before = refl

one-block : (e : Bool) (o : Sequence) → interrupts_alone o ≡ true → is_separated true false (concrete false e o) ≡ false
unfolding concrete is_separated
one-block e no_blocks h = absurd (false≢true h)
one-block e (leaf_then x rest) h = let k = none-is rest ((and_parts (is_none rest) (is_code x.part) h).0) in ap (λ o. is_separated true false (blank_if (gap_before false e o) (concrete false e o))) k ∙ alone e false
one-block e (quote_then inside rest) h = ap (λ o. is_separated true false (blank_if (gap_before false e o) (concrete false e o))) (none-is rest h) ∙ alone e false
one-block e (list_then k t is rest) h =
    let n = none-is rest (and_parts (is_none rest) (starts_at_one k) (and_parts (is_none rest && starts_at_one k) (not (is_none (first_inside is))) h).0).0 in
    ap (λ o. is_separated true (items_end_blank (concrete_items t (gap_before false e o) is)) (blank_if (gap_before false e o && last_is_bare is) (concrete false e o))) n
    ∙ alone (e && last_is_bare is) (items_end_blank (concrete_items t e is))

tight-inside : (e : Bool) (o : Sequence) → fits_tight o ≡ true → is_separated false false (or_blank o (concrete false e o)) ≡ false
unfolding concrete is_separated
tight-inside e no_blocks h = refl
tight-inside e (leaf_then x no_blocks) h = alone e false
tight-inside e (leaf_then x (leaf_then y rest)) h = one-block e (leaf_then y rest) (and_parts (is_paragraph x.part) (interrupts_alone (leaf_then y rest)) h).1
tight-inside e (leaf_then x (quote_then inside rest)) h = one-block e (quote_then inside rest) (and_parts (is_paragraph x.part) (interrupts_alone (quote_then inside rest)) h).1
tight-inside e (leaf_then x (list_then k t is rest)) h = one-block e (list_then k t is rest) (and_parts (is_paragraph x.part) (interrupts_alone (list_then k t is rest)) h).1
tight-inside e (quote_then inside rest) h = ap (λ o. is_separated true false (blank_if (gap_before false e o) (concrete false e o))) (none-is rest h) ∙ alone e false
tight-inside e (list_then k t is rest) h =
    ap (λ o. is_separated true (items_end_blank (concrete_items t (gap_before false e o) is)) (blank_if (gap_before false e o && last_is_bare is) (concrete false e o))) (none-is rest h)
    ∙ alone (e && last_is_bare is) (items_end_blank (concrete_items t e is))

second-block : (e before : Bool) (o : Sequence) → is_none o ≡ false → is_separated true true (concrete true e o) ≡ true
unfolding concrete is_separated
second-block e before no_blocks h = absurd (false≢true (sym h))
second-block e before (leaf_then x rest) h = refl
second-block e before (quote_then inside rest) h = refl
second-block e before (list_then k t is rest) h = refl

loose-beyond : (e : Bool) (rest : Sequence) → not (is_none rest) ≡ true → is_separated true false (blank_if (gap_before true e rest) (concrete true e rest)) ≡ true
unfolding is_separated
loose-beyond e no_blocks h = absurd (false≢true h)
loose-beyond e (leaf_then x rest) h = second-block e false (leaf_then x rest) refl
loose-beyond e (quote_then inside rest) h = second-block e false (quote_then inside rest) refl
loose-beyond e (list_then k t is rest) h = second-block e false (list_then k t is rest) refl

loose-inside : (e : Bool) (o : Sequence) → has_two_blocks o ≡ true → begins_with_list o ≡ false → is_separated false false (or_blank o (concrete true e o)) ≡ true
unfolding concrete is_separated
loose-inside e no_blocks h k = absurd (false≢true h)
loose-inside e (leaf_then x rest) h k = loose-beyond e rest h
loose-inside e (quote_then inside rest) h k = loose-beyond e rest h
loose-inside e (list_then kind t is rest) h k = absurd (false≢true (sym k))

or-third : (x y v z : Bool) → v ≡ true → (x || y || v || z) ≡ true
or-third true y v z h = refl
or-third false true v z h = refl
or-third false false v z h = ap (λ v. v || z) h

loose-first : (o : Sequence) (more : Bool) → (is_separated false false (or_blank o (concrete true true o)) || nat_lt 0 (one_if (is_none o)) || items_end_blank (last_item (or_blank o (concrete true true o))) || more) ≡ true
unfolding is_separated
loose-first no_blocks more = refl
loose-first (leaf_then x rest) more = or-third _ false _ more (inside-ends true true (leaf_then x rest) (λ b h. ends true true b (leaf_then x rest) h))
loose-first (quote_then inside rest) more = or-third _ false _ more (inside-ends true true (quote_then inside rest) (λ b h. ends true true b (quote_then inside rest) h))
loose-first (list_then k t is rest) more = or-third _ false _ more (inside-ends true true (list_then k t is rest) (λ b h. ends true true b (list_then k t is rest) h))

-- The tree of what is read is the tree that was spelled.

tree-blank_if : (v : Bool) (p : Parts) → blocks_of_parts (blank_if v p) ≡ blocks_of_parts p
unfolding blocks_of_parts
tree-blank_if true p = refl
tree-blank_if false p = refl

same-inside : (o : Sequence) (p : Parts) → blocks_of_parts p ≡ tree o → blocks_of_parts (or_blank o p) ≡ tree o
unfolding blocks_of_parts tree
same-inside no_blocks p h = refl
same-inside (leaf_then x rest) p h = h
same-inside (quote_then inside rest) p h = h
same-inside (list_then k t is rest) p h = h

module _ (rules : Rules) where
  pub loose : (e : Bool) (items : SequenceItems) → can_be_loose items ≡ true → ItemsFit rules false items → is_loose (concrete_items false e items) ≡ true
  unfolding concrete_items is_loose ItemsFit
  loose e (last_one inside) h fit = loose-inside e inside h fit.0
  loose e (one_and inside items) h fit = loose-first inside (is_loose (concrete_items false e items))

  pub tight-items : (e : Bool) (items : SequenceItems) → ItemsFit rules true items → is_loose (concrete_items true e items) ≡ false
  unfolding concrete_items is_loose ItemsFit
  tight-items e (last_one inside) fit = let h : fits_tight inside ≡ true = fit.1 in tight-inside e inside h
  tight-items e (one_and inside items) fit =
      let h : fits_tight inside ≡ true = fit.1 in
      ap (λ v. v || false || items_end_blank (last_item (or_blank inside (concrete false false inside))) || is_loose (concrete_items true e items)) (tight-inside false inside h)
      ∙ ap (λ v. v || is_loose (concrete_items true e items)) (inside-ends false false inside (λ b h. ends false false b inside h))
      ∙ tight-items e items fit.3

  pub looseness : (tight e : Bool) (items : SequenceItems) → (tight || can_be_loose items) ≡ true → ItemsFit rules tight items → not (is_loose (concrete_items tight e items)) ≡ tight
  looseness true e items h fit = ap not (tight-items e items fit)
  looseness false e items h fit = ap not (loose e items h fit)

  mutual
    unfolding concrete concrete_items blocks_of_parts blocks_of_items tree items_tree FitAll ItemsFit

    pub same-tree : (a e : Bool) (o : Sequence) → FitAll rules o → blocks_of_parts (concrete a e o) ≡ tree o
    same-tree a e no_blocks h = refl
    same-tree a e (leaf_then x rest) h = ap (λ bs. leaf_block x.part ∷ bs) (tree-blank_if (gap_before a e rest) (concrete a e rest) ∙ same-tree a e rest h.1)
    same-tree a e (quote_then inside rest) h =
        ap (λ bs. Quote bs ∷ blocks_of_parts (blank_if (gap_before a e rest) (concrete a e rest))) (same-inside inside (concrete true false inside) (same-tree true false inside h.0))
        ∙ ap (λ bs. Quote (tree inside) ∷ bs) (tree-blank_if (gap_before a e rest) (concrete a e rest) ∙ same-tree a e rest h.1)
    same-tree a e (list_then kind tight items rest) h =
        let g = gap_before a e rest in
        ap (λ t. ListBlock kind t (blocks_of_items (concrete_items tight g items)) ∷ blocks_of_parts (blank_if (g && last_is_bare items) (concrete a e rest))) (looseness tight g items h.2 h.1)
        ∙ ap (λ is. ListBlock kind tight is ∷ blocks_of_parts (blank_if (g && last_is_bare items) (concrete a e rest))) (same-items tight g items h.1)
        ∙ ap (λ bs. ListBlock kind tight (items_tree items) ∷ bs) (tree-blank_if (g && last_is_bare items) (concrete a e rest) ∙ same-tree a e rest h.4)

    same-items : (tight e : Bool) (items : SequenceItems) → ItemsFit rules tight items → blocks_of_items (concrete_items tight e items) ≡ items_tree items
    same-items tight e (last_one inside) h = ap (λ bs. bs ∷ []) (same-inside inside _ (same-tree (not tight) e inside h.2))
    same-items tight e (one_and inside items) h =
        ap (λ bs. bs ∷ blocks_of_items (concrete_items tight e items)) (same-inside inside _ (same-tree (not tight) (not tight) inside h.2))
        ∙ ap (λ is. tree inside ∷ is) (same-items tight e items h.3)

-- No list of the kind comes first.
next-none-now : (kind : ListKind) (n : ℕ) (a e : Bool) (o : Sequence) → begins_with_kind kind o ≡ false → next_items kind n (concrete a e o) ≡ None
unfolding next_items concrete
next-none-now kind n a e no_blocks h = refl
next-none-now kind n a e (leaf_then x rest) h = refl
next-none-now kind n a e (quote_then inside rest) h = refl
next-none-now kind n a e (list_then k t is rest) h = ap (λ v. given v (n, concrete_items t (gap_before a e rest) is, blank_if (gap_before a e rest && last_is_bare is) (concrete a e rest))) h

pub next-none : (kind : ListKind) (v a e : Bool) (o : Sequence) → begins_with_kind kind o ≡ false → next_items kind 0 (blank_if v (concrete a e o)) ≡ None
unfolding next_items
next-none kind true a e o h = next-none-now kind 1 a e o h
next-none kind false a e o h = next-none-now kind 0 a e o h
