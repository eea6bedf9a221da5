-- How deep each line is, from the left. That there is one depth for each line is known of the whole; so a leaf's lines needn't be counted.
use Rattle.std.specs.Prelude.{cond, not, ◌&&◌, nat_lt, replicate}
use Rattle.std.specs.List.{position, position_or_len}
use Rattle.std.specs.Option.{option_map}
use Rattle.std.proofs.Common.{◌≡◌, ℕ, zero, suc, ◌+◌, ◌<◌, Bool, true, false, List, [], ◌∷◌, ◌++◌, length, map, refl, ◌∙◌, sym, ap, ap₂, arith, Option, Some, None, le_refl, subst, length-append}
use Rattle.std.proofs.lemmas.List.{append_assoc, append-nil, map-append, length-map, length-replicate, length_push, replicate-append-replicate}
use Rattle.std.proofs.lemmas.List.Folds.{list_all-append}
use Rattle.cm_text.specs.LineText.{is_line}
use Rattle.cm_text.specs.Rules.{Rules}
use Rattle.cm_text.specs.Lines.{LineView}
use Rattle.cm_tree.specs.declared.tree.ListKind.{ListKind}
use Rattle.cm_scan.specs.blocks.Lines.{marks}
use Rattle.cm_scan.specs.blocks.LineForms.{is_same_kind}
use Rattle.cm_scan.specs.blocks.Starts.{continuation_in_quote, continuation_in_item}
use Rattle.cm_scan.specs.blocks.Parts.{LeafPart, Parts, none, blank, leaf, quote, list, ItemParts, last_item, item, next_items, put_before, put_item, line_owners, depths_of, item_depths_of}
use Rattle.cm_scan.specs.blocks.Blocks.{parts_of, owners_of, first_too_deep}
use Rattle.cm_scan.specs.laws.PartLaws.{goes_inward, AreLines}
use Rattle.cm_scan.specs.laws.Looseness.{line_total, items_total}
use Rattle.cm_scan.proofs.lemmas.blocks.OwnersOfLines.{one_owner_a_line}
use Rattle.cm_scan.proofs.lemmas.blocks.CountedLines.{one_owner}
use Rattle.cm_block.specs.OpenLeaf.{OpenLeaf, no_leaf, closed_leaves, blank_lines_after, LeafLine, stays_open, is_last, line_of_leaf, LineOpens, begins_nothing, begins_leaf, begins_quote, begins_item, begin_of}
use Rattle.cm_block.specs.Machine.{ClosedPart, closed_blank, closed_leaf, closed_quote, closed_item, put, put_all, Open, in_leaf, in_quote, in_item, has_open_text, Change, change, parts_of_leaves, closing, leaf_change, begin_by, begin_within, begin, after_closing, leaf_step, step, Machine, new_machine, take_line, take_lines, close, parts_in_one_pass}
use Rattle.cm_block.specs.Level.{Level, empty_level}
use Rattle.cm_block.specs.Stack.{Owned, Stack, empty_stack, push_line, push_lines}
use Rattle.cm_block.specs.Depths.{nesting, line_depths, DepthsOfLines, TooDeepAtOnce, TooDeepStays, TooDeepNext}
use Rattle.cm_block.proofs.lemmas.BeginCases.{OfInner, inner-less, of-less}
use Rattle.cm_block.proofs.lemmas.OpenEnd.{given-is, Fit, fit-new, fits-step}
use Rattle.cm_block.proofs.lemmas.OnePass.{one_pass, take_lines-append}
use Rattle.cm_block.proofs.lemmas.Owners.{replicate-push}
use Rattle.cm_block.proofs.lemmas.Stacks.{held, Follows, follows-line, follows-new}

-- the depths of closed parts

abbrev closed_part_depths : ClosedPart → List ℕ
closed_part_depths closed_blank = 0 ∷ []
closed_part_depths (closed_leaf x lines) = replicate lines 0
closed_part_depths (closed_quote c) = map suc (depths_of c)
closed_part_depths (closed_item kind c) = map suc (depths_of c)

abbrev pub closed_parts_depths : List ClosedPart → List ℕ
closed_parts_depths [] = []
closed_parts_depths (x ∷ ps) = closed_part_depths x ++ closed_parts_depths ps

depths-append : (ps qs : List ClosedPart) → closed_parts_depths (ps ++ qs) ≡ closed_parts_depths ps ++ closed_parts_depths qs
depths-append [] qs = refl
depths-append (x ∷ ps) qs = ap (λ ds. closed_part_depths x ++ ds) (depths-append ps qs) ∙ sym (append_assoc (closed_part_depths x) (closed_parts_depths ps) (closed_parts_depths qs))

abbrev zeros : ℕ → List ℕ
zeros n = replicate n 0

abbrev depths_on : ℕ × ItemParts × Parts → List ℕ
depths_on f = zeros f.0 ++ (item_depths_of f.1 ++ depths_of f.2)

next-depths : (kind : ListKind) (b : ℕ) (p : Parts) (f : ℕ × ItemParts × Parts) → next_items kind b p ≡ Some f → zeros b ++ depths_of p ≡ depths_on f
unfolding next_items depths_of
next-depths kind b none f e = grind (arith, e)
next-depths kind b (blank p) f e = sym (replicate-push b 0 (depths_of p)) ∙ next-depths kind (suc b) p f e
next-depths kind b (leaf x n p) f e = grind (arith, e)
next-depths kind b (quote c p) f e = grind (arith, e)
next-depths kind b (list other items p) f e = ap depths_on (given-is (is_same_kind kind other) (b, items, p) f e)

put-depths : (x : ClosedPart) (p : Parts) → depths_of (put x p) ≡ closed_part_depths x ++ depths_of p
unfolding put_item depths_of
put-depths closed_blank p = refl
put-depths (closed_leaf x m) p = refl
put-depths (closed_quote c) p = refl
put-depths (closed_item kind c) p = go (next_items kind 0 p) refl
  where
    first : List ℕ
    first = map suc (depths_of c)

    go : (v : Option (ℕ × ItemParts × Parts)) → next_items kind 0 p ≡ v → depths_of (put_before kind c p v) ≡ first ++ depths_of p
    go None e = refl
    go (Some f) e =
        append_assoc (first ++ zeros f.0) (item_depths_of f.1) (depths_of f.2)
        ∙ append_assoc first (zeros f.0) (item_depths_of f.1 ++ depths_of f.2)
        ∙ ap (λ ds. first ++ ds) (sym (next-depths kind 0 p f e))

depths-law : (ps : List ClosedPart) → depths_of (put_all ps none) ≡ closed_parts_depths ps
unfolding put_all depths_of
depths-law [] = refl
depths-law (x ∷ ps) = put-depths x (put_all ps none) ∙ ap (λ ds. closed_part_depths x ++ ds) (depths-law ps)

-- leaves are at no depth

leaf_total : List (LeafPart × ℕ) → ℕ
leaf_total [] = 0
leaf_total (x ∷ xs) = x.1 + leaf_total xs

leaf-zeros : (xs : List (LeafPart × ℕ)) → closed_parts_depths (parts_of_leaves xs) ≡ zeros (leaf_total xs)
unfolding leaf_total
leaf-zeros [] = refl
leaf-zeros (x ∷ xs) = ap (λ ds. zeros x.1 ++ ds) (leaf-zeros xs) ∙ replicate-append-replicate x.1 (leaf_total xs) 0

blank-zeros : (n : ℕ) → closed_parts_depths (replicate n closed_blank) ≡ zeros n
blank-zeros zero = refl
blank-zeros (suc n) = ap (λ ds. 0 ∷ ds) (blank-zeros n)

closing-zeros : (x : OpenLeaf) → closed_parts_depths (closing (in_leaf x)) ≡ zeros (leaf_total (closed_leaves x) + blank_lines_after x)
unfolding closing
closing-zeros x =
    depths-append (parts_of_leaves (closed_leaves x)) (replicate (blank_lines_after x) closed_blank)
    ∙ ap₂ (λ ds es. ds ++ es) (leaf-zeros (closed_leaves x)) (blank-zeros (blank_lines_after x))
    ∙ replicate-append-replicate (leaf_total (closed_leaves x)) (blank_lines_after x) 0

-- a container is around its lines

map-suc : (k d : ℕ) → map suc (replicate k d) ≡ replicate k (suc d)
map-suc zero d = refl
map-suc (suc k) d = ap (λ ds. suc d ∷ ds) (map-suc k d)

around : (qs rs : List ClosedPart) (common : List ℕ) (k d : ℕ) → closed_parts_depths rs ≡ common ++ replicate k d
    → map suc (depths_of (put_all (qs ++ rs) none)) ++ [] ≡ map suc (closed_parts_depths qs ++ common) ++ replicate k (suc d)
around qs rs common k d e =
    append-nil (map suc (depths_of (put_all (qs ++ rs) none)))
    ∙ ap (map suc) (depths-law (qs ++ rs) ∙ depths-append qs rs ∙ ap (λ ds. closed_parts_depths qs ++ ds) e ∙ sym (append_assoc (closed_parts_depths qs) common (replicate k d)))
    ∙ map-append suc (closed_parts_depths qs ++ common) (replicate k d)
    ∙ ap (λ ds. map suc (closed_parts_depths qs ++ common) ++ ds) (map-suc k d)

-- What a line adds to the depths at one level: the last ones, as deep as what is then open, are more or fewer.
record Grows (before : List ℕ) (c : Change) : Type 0 where
  common : List ℕ
  old_count : ℕ
  new_count : ℕ
  was : before ≡ common ++ replicate old_count (nesting c.now)
  became : closed_parts_depths (c.closed ++ closing c.now) ≡ common ++ replicate new_count (nesting c.now)

grows-leaf : (m : ℕ) (before : List ℕ) → before ≡ zeros m → (l : LeafLine) → Grows before (leaf_change l)
unfolding nesting
grows-leaf m before e (stays_open y) = record { common = []; old_count = m; new_count = _; was = e; became = closing-zeros y }
grows-leaf m before e (is_last leaves) = record {
  common = [];
  old_count = m;
  new_count = _;
  was = e;
  became = depths-append (parts_of_leaves leaves) (closing (in_leaf no_leaf)) ∙ ap₂ (λ ds es. ds ++ es) (leaf-zeros leaves) (closing-zeros no_leaf) ∙ replicate-append-replicate (leaf_total leaves) _ 0;
}

-- where nothing is before
abbrev Adds : Change → Type 0
Adds c = (k : ℕ) × (closed_parts_depths (c.closed ++ closing c.now) ≡ replicate k (nesting c.now))

adds-by : (begin : LineView → Change) (b : LineOpens) → OfInner (λ inner. Adds (begin inner)) b → Adds (begin_by begin b)
unfolding nesting closing closed_leaves
adds-by begin begins_nothing i = (1, refl)
adds-by begin (begins_leaf (stays_open y)) i = (_, closing-zeros y)
adds-by begin (begins_leaf (is_last leaves)) i = (_, ap closed_parts_depths (append-nil (parts_of_leaves leaves)) ∙ leaf-zeros leaves)
adds-by begin (begins_quote inner) i = (i.0, around [] ((begin inner).closed ++ closing (begin inner).now) [] i.0 (nesting (begin inner).now) i.1)
adds-by begin (begins_item kind column inner) i = (i.0, around [] ((begin inner).closed ++ closing (begin inner).now) [] i.0 (nesting (begin inner).now) i.1)

adds-within : (rules : Rules) (n : ℕ) (line : LineView) → marks line.text < n → Adds (begin_within rules n line)
unfolding begin_within
adds-within rules zero line less = absurd (omega arith)
adds-within rules (suc n) line less =
    adds-by (λ l. begin_within rules n l) (begin_of rules line)
    (of-less (λ l. marks l.text < marks line.text) _ (λ l fewer. adds-within rules n l (omega arith)) (begin_of rules line) (inner-less rules line))

adds-begin : (rules : Rules) (line : LineView) → Adds (begin rules line)
unfolding begin
adds-begin rules line = adds-within rules (suc (marks line.text)) line (le_refl _)

grows-after : (rules : Rules) (closed : List ClosedPart) (line : LineView) → Grows (closed_parts_depths closed) (after_closing rules closed line)
grows-after rules closed line =
    let c = begin rules line in
    let a : Adds c = adds-begin rules line in
    record {
      common = closed_parts_depths closed;
      old_count = 0;
      new_count = a.0;
      was = sym (append-nil (closed_parts_depths closed));
      became = ap closed_parts_depths (append_assoc closed c.closed (closing c.now)) ∙ depths-append closed (c.closed ++ closing c.now) ∙ ap (λ ds. closed_parts_depths closed ++ ds) a.1;
    }

-- inside a container: what it gave when it was closed, and gives now
grows-inside : (qs : List ClosedPart) (o : Open (List ClosedPart)) (c : Change) (now : Open (List ClosedPart)) → nesting now ≡ suc (nesting c.now)
    → closed_parts_depths (closing now) ≡ map suc (depths_of (put_all (qs ++ c.closed ++ closing c.now) none)) ++ []
    → Grows (closed_parts_depths (closing o)) c → Grows (map suc (depths_of (put_all (qs ++ closing o) none)) ++ []) (change [] now)
grows-inside qs o c now deeper closed g = record {
  common = map suc (closed_parts_depths qs ++ g.common);
  old_count = g.old_count;
  new_count = g.new_count;
  was = around qs (closing o) g.common g.old_count (nesting c.now) g.was ∙ ap (λ d. map suc (closed_parts_depths qs ++ g.common) ++ replicate g.old_count d) (sym deeper);
  became =
      closed
      ∙ ap (λ ps. map suc (depths_of (put_all ps none)) ++ []) (append_assoc qs c.closed (closing c.now))
      ∙ around qs (c.closed ++ closing c.now) g.common g.new_count (nesting c.now) g.became
      ∙ ap (λ d. map suc (closed_parts_depths qs ++ g.common) ++ replicate g.new_count d) (sym deeper);
}

grows-step : (rules : Rules) (o : Open (List ClosedPart)) (line : LineView) → Grows (closed_parts_depths (closing o)) (step rules o line)
unfolding step nesting closing
grows-step rules (in_leaf x) line = go (line_of_leaf rules x line)
  where
    go : (l : Option LeafLine) → Grows (closed_parts_depths (closing (in_leaf x))) (leaf_step rules x line l)
    go None = grows-after rules (closing (in_leaf x)) line
    go (Some l) = grows-leaf _ (closed_parts_depths (closing (in_leaf x))) (closing-zeros x) l
grows-step rules (in_quote qs o) line = go (goes_inward (continuation_in_quote rules line) (has_open_text o)) (λ inner. grows-step rules o inner)
  where
    go : (l : Option LineView) → ((inner : LineView) → Grows (closed_parts_depths (closing o)) (step rules o inner))
        → Grows (closed_parts_depths (closing (in_quote qs o))) (elim l as (λ _. Change) [
          | Some inner ↦ let c = step rules o inner in change [] (in_quote (qs ++ c.closed) c.now)
          | None ↦ after_closing rules (closing (in_quote qs o)) line
        ])
    go None f = grows-after rules (closing (in_quote qs o)) line
    go (Some inner) f = grows-inside qs o (step rules o inner) (in_quote (qs ++ (step rules o inner).closed) (step rules o inner).now) refl refl (f inner)
grows-step rules (in_item kind column bare qs o) line = go (goes_inward (continuation_in_item rules column bare line) (has_open_text o)) (λ inner. grows-step rules o inner)
  where
    go : (l : Option LineView) → ((inner : LineView) → Grows (closed_parts_depths (closing o)) (step rules o inner))
        → Grows (closed_parts_depths (closing (in_item kind column bare qs o))) (elim l as (λ _. Change) [
          | Some inner ↦ let c = step rules o inner in change [] (in_item kind column false (qs ++ c.closed) c.now)
          | None ↦ after_closing rules (closing (in_item kind column bare qs o)) line
        ])
    go None f = grows-after rules (closing (in_item kind column bare qs o)) line
    go (Some inner) f = grows-inside qs o (step rules o inner) (in_item kind column false (qs ++ (step rules o inner).closed) (step rules o inner).now) refl refl (f inner)

-- the depths of all lines so far

abbrev depths_so_far : Machine → List ℕ
depths_so_far m = closed_parts_depths (m.closed ++ closing m.now)

mutual
  unfolding depths_of line_total

  one_depth : (p : Parts) → length (depths_of p) ≡ line_total p
  one_depth none = refl
  one_depth (blank rest) = ap suc (one_depth rest)
  one_depth (leaf x lines rest) = omega (arith, length-append (zeros lines) (depths_of rest), length-replicate {A = ℕ} lines 0, one_depth rest)
  one_depth (quote inside rest) = omega (arith, length-append (map suc (depths_of inside)) (depths_of rest), length-map (depths_of inside) suc, one_depth inside, one_depth rest)
  one_depth (list kind items rest) = omega (arith, length-append (item_depths_of items) (depths_of rest), items_depth items, one_depth rest)

  items_depth : (items : ItemParts) → length (item_depths_of items) ≡ items_total items
  items_depth (last_item inside) = length-map (depths_of inside) suc ∙ one_depth inside
  items_depth (item inside blanks items) =
      omega (
        arith,
        one_depth inside,
        length-map (depths_of inside) suc,
        items_depth items,
        length-replicate {A = ℕ} blanks 0,
        length-append (map suc (depths_of inside) ++ zeros blanks) (item_depths_of items),
        length-append (map suc (depths_of inside)) (zeros blanks),
      )

pub are-push : (lines : List LineView) (line : LineView) → AreLines lines → is_line line.text ≡ true → AreLines (lines ++ line ∷ [])
are-push [] line h e = grind (arith, e)
are-push (l ∷ ls) line h e = let k : AreLines ls → AreLines (ls ++ line ∷ []) = λ h. are-push ls line h e in grind (arith, h, k)

are-first : (line : LineView) (lines : List LineView) → AreLines (line ∷ lines) → is_line line.text ≡ true
are-first line lines h = grind (arith, h)

are-rest : (line : LineView) (lines : List LineView) → AreLines (line ∷ lines) → AreLines lines
are-rest line lines h = grind (arith, h)

-- so much longer, then by one at the end
one-more : (common : List ℕ) (m n d k : ℕ) → length (common ++ replicate m d) ≡ k → length (common ++ replicate n d) ≡ suc k → common ++ replicate n d ≡ (common ++ replicate m d) ++ d ∷ []
one-more common m n d k e h =
    ap (λ n. common ++ replicate n d) the ∙ ap (λ ds. common ++ ds) (sym (replicate-append-replicate m 1 d)) ∙ sym (append_assoc common (replicate m d) (d ∷ []))
  where
    the : n ≡ m + 1
    the = omega (arith, e, h, length-append common (replicate m d), length-append common (replicate n d), length-replicate m d, length-replicate n d)

held-nesting : (o : Open (List ClosedPart)) → nesting (held o) ≡ nesting o
unfolding held nesting
held-nesting (in_leaf x) = refl
held-nesting (in_quote ps o) = ap suc (held-nesting o)
held-nesting (in_item kind column bare ps o) = ap suc (held-nesting o)

module _ (rules : Rules) where
  beyond : List LineView → Machine
  beyond done = take_lines rules new_machine done

  beyond-more : (done : List LineView) (line : LineView) → beyond (done ++ line ∷ []) ≡ take_line rules (beyond done) line
  unfolding beyond take_lines
  beyond-more done line = take_lines-append rules new_machine done (line ∷ [])

  so-far : (done : List LineView) → depths_of (parts_of rules done) ≡ depths_so_far (beyond done)
  unfolding beyond parts_in_one_pass close
  so-far done = ap depths_of (sym (one_pass rules done)) ∙ depths-law ((beyond done).closed ++ closing (beyond done).now)

  length-so-far : (done : List LineView) → AreLines done → length (depths_so_far (beyond done)) ≡ length done
  unfolding owners_of line_owners
  length-so-far done h = ap length (sym (so-far done)) ∙ one_depth (parts_of rules done) ∙ sym (one_owner_a_line 0 (parts_of rules done)) ∙ one_owner rules done h

  next-depth : (done : List LineView) (line : LineView) → AreLines done → is_line line.text ≡ true
      → depths_so_far (take_line rules (beyond done) line) ≡ depths_so_far (beyond done) ++ nesting (take_line rules (beyond done) line).now ∷ []
  unfolding take_line
  next-depth done line h e =
      became
      ∙ one-more (ds ++ g.common) g.old_count g.new_count (nesting c.now) (length done) (ap length (sym was) ∙ length-so-far done h)
      (ap length (sym became) ∙ ap (λ m. length (depths_so_far m)) (sym (beyond-more done line)) ∙ length-so-far (done ++ line ∷ []) (are-push done line h e) ∙ count)
      ∙ ap (λ ds. ds ++ nesting c.now ∷ []) (sym was)
    where
      m : Machine
      m = beyond done

      c : Change
      c = step rules m.now line

      g : Grows (closed_parts_depths (closing m.now)) c
      g = grows-step rules m.now line

      ds : List ℕ
      ds = closed_parts_depths m.closed

      was : depths_so_far m ≡ (ds ++ g.common) ++ replicate g.old_count (nesting c.now)
      was = depths-append m.closed (closing m.now) ∙ ap (λ es. ds ++ es) g.was ∙ sym (append_assoc ds g.common (replicate g.old_count (nesting c.now)))

      became : depths_so_far (change (m.closed ++ c.closed) c.now) ≡ (ds ++ g.common) ++ replicate g.new_count (nesting c.now)
      became =
          ap closed_parts_depths (append_assoc m.closed c.closed (closing c.now)) ∙ depths-append m.closed (c.closed ++ closing c.now)
          ∙ ap (λ es. ds ++ es) g.became ∙ sym (append_assoc ds g.common (replicate g.new_count (nesting c.now)))

      count : length (done ++ line ∷ []) ≡ suc (length done)
      count = omega (arith, length_push done line)

  fit-next : (m : Machine) (line : LineView) → Fit m.closed m.now → Fit (take_line rules m line).closed (take_line rules m line).now
  unfolding take_line
  fit-next m line h = (fits-step rules m.now line m.closed h).0

  all-depths : (done rest : List LineView) (s : Owned) (v : Level) (st : Stack) → AreLines done → AreLines rest → Fit (beyond done).closed (beyond done).now → Follows false s v (beyond done) st
      → depths_so_far (take_lines rules (beyond done) rest) ≡ depths_so_far (beyond done) ++ line_depths rules st rest
  unfolding take_lines line_depths push_line
  all-depths done [] s v st h k fit f = sym (append-nil (depths_so_far (beyond done)))
  all-depths done (line ∷ rest) s v st h k fit f =
      ap (λ m. depths_so_far (take_lines rules m rest)) (sym (beyond-more done line))
      ∙ all-depths (done ++ line ∷ []) rest s v (push_line rules st line) (are-push done line h (are-first line rest k)) (are-rest line rest k)
      (subst (λ (m : Machine). Fit m.closed m.now) (sym (beyond-more done line)) fits)
      (subst (λ m. Follows false s v m (push_line rules st line)) (sym (beyond-more done line)) follows)
      ∙ ap (λ m. depths_so_far m ++ line_depths rules (push_line rules st line) rest) (beyond-more done line)
      ∙ ap (λ ds. ds ++ line_depths rules (push_line rules st line) rest) (next-depth done line h (are-first line rest k))
      ∙ append_assoc (depths_so_far (beyond done)) (nesting next.now ∷ []) (line_depths rules (push_line rules st line) rest)
      ∙ ap (λ d. depths_so_far (beyond done) ++ d ∷ line_depths rules (push_line rules st line) rest) (sym (held-nesting next.now) ∙ ap nesting (sym follows.now))
    where
      next : Machine
      next = take_line rules (beyond done) line

      follows : Follows false s v next (push_line rules st line)
      follows = follows-line rules false s v (beyond done) st line fit f

      fits : Fit next.closed next.now
      fits = fit-next (beyond done) line fit

pub depths_of_lines : DepthsOfLines
unfolding beyond take_lines closing closed_leaves
depths_of_lines rules lines h = sym (all-depths rules [] lines empty_stack.owned empty_level empty_stack refl h fit-new (follows-new rules)) ∙ sym (so-far rules lines)

pub too_deep_at_once : TooDeepAtOnce
unfolding first_too_deep
too_deep_at_once rules limit lines h = ap (λ ds. option_map suc (position (λ depth. nat_lt limit depth) ds)) (sym (depths_of_lines rules lines h))

-- the first place in a list

pub position-cons : {A : Type 0} (p : A → Bool) (x : A) (xs : List A) → position p (x ∷ xs) ≡ cond (p x) (Some 0) (option_map suc (position p xs))
position-cons p x xs = by (p x)
  where
    by : (b : Bool) → cond (nat_lt (cond (not b) (1 + position_or_len p xs) 0) (suc (length xs))) (Some (cond (not b) (1 + position_or_len p xs) 0)) None
        ≡ cond b (Some 0) (option_map suc (position p xs))
    by true = grind (arith)
    by false = grind (arith)

-- it stays, whatever follows
position-stays : {A : Type 0} (p : A → Bool) (n : ℕ) (xs ys : List A) → position p xs ≡ Some n → position p (xs ++ ys) ≡ Some n
position-stays p n [] ys e = grind (arith, e)
position-stays p n (x ∷ xs) ys e = position-cons p x (xs ++ ys) ∙ by (p x) (position p xs) refl (λ m f. position-stays p m xs ys f) (sym (position-cons p x xs) ∙ e)
  where
    by : (b : Bool) (found : Option ℕ) → position p xs ≡ found → ((m : ℕ) → position p xs ≡ Some m → position p (xs ++ ys) ≡ Some m) → cond b (Some 0) (option_map suc found) ≡ Some n
        → cond b (Some 0) (option_map suc (position p (xs ++ ys))) ≡ Some n
    by true found f more e = e
    by false None f more e = grind (arith, e)
    by false (Some m) f more e = ap (option_map suc) (more m f) ∙ e

-- where there is none, the next is
position-next : {A : Type 0} (p : A → Bool) (xs : List A) (x : A) → position p xs ≡ None → position p (xs ++ x ∷ []) ≡ cond (p x) (Some (length xs)) None
position-next p [] x e = position-cons p x []
position-next p (y ∷ ys) x e = position-cons p y (ys ++ x ∷ []) ∙ by (p y) (position p ys) refl (λ f. position-next p ys x f) (sym (position-cons p y ys) ∙ e)
  where
    moved : (b : Bool) (n : ℕ) → option_map suc (cond b (Some n) None) ≡ cond b (Some (suc n)) None
    moved true n = refl
    moved false n = refl

    by : (b : Bool) (found : Option ℕ) → position p ys ≡ found → (position p ys ≡ None → position p (ys ++ x ∷ []) ≡ cond (p x) (Some (length ys)) None)
        → cond b (Some 0) (option_map suc found) ≡ None → cond b (Some 0) (option_map suc (position p (ys ++ x ∷ []))) ≡ cond (p x) (Some (suc (length ys))) None
    by true found f more e = grind (arith, e)
    by false None f more e = ap (option_map suc) (more f) ∙ moved (p x) (length ys)
    by false (Some m) f more e = grind (arith, e)

-- one more line, and more

pub push_lines-append : (rules : Rules) (st : Stack) (xs ys : List LineView) → push_lines rules st (xs ++ ys) ≡ push_lines rules (push_lines rules st xs) ys
unfolding push_lines
push_lines-append rules st [] ys = refl
push_lines-append rules st (x ∷ xs) ys = push_lines-append rules (push_line rules st x) xs ys

line_depths-append : (rules : Rules) (st : Stack) (xs ys : List LineView) → line_depths rules st (xs ++ ys) ≡ line_depths rules st xs ++ line_depths rules (push_lines rules st xs) ys
unfolding line_depths push_lines
line_depths-append rules st [] ys = refl
line_depths-append rules st (x ∷ xs) ys = ap (λ ds. nesting (push_line rules st x).now ∷ ds) (line_depths-append rules (push_line rules st x) xs ys)

length-line_depths : (rules : Rules) (st : Stack) (lines : List LineView) → length (line_depths rules st lines) ≡ length lines
unfolding line_depths
length-line_depths rules st [] = refl
length-line_depths rules st (line ∷ lines) = ap suc (length-line_depths rules (push_line rules st line) lines)

are-before : (lines more : List LineView) → AreLines (lines ++ more) → AreLines lines
are-before lines more h = first _ _ (sym (list_all-append (λ line. is_line line.text) lines more) ∙ h)
  where
    first : (a b : Bool) → (a && b) ≡ true → a ≡ true
    first true b e = refl
    first false b e = e

pub too_deep_stays : TooDeepStays
too_deep_stays rules limit n lines more h e =
    too_deep_at_once rules limit (lines ++ more) h ∙ ap (λ ds. option_map suc (position deep ds)) (line_depths-append rules empty_stack lines more)
    ∙ on (position deep (line_depths rules empty_stack lines)) refl (sym (too_deep_at_once rules limit lines (are-before lines more h)) ∙ e)
  where
    deep : ℕ → Bool
    deep depth = nat_lt limit depth

    on : (found : Option ℕ) → position deep (line_depths rules empty_stack lines) ≡ found → option_map suc found ≡ Some n
        → option_map suc (position deep (line_depths rules empty_stack lines ++ line_depths rules (push_lines rules empty_stack lines) more)) ≡ Some n
    on None f e = grind (arith, e)
    on (Some m) f e = ap (option_map suc) (position-stays deep m (line_depths rules empty_stack lines) _ f) ∙ e

pub too_deep_next : TooDeepNext
unfolding line_depths push_lines
too_deep_next rules limit lines line h e =
    too_deep_at_once rules limit (lines ++ line ∷ []) h ∙ ap (λ ds. option_map suc (position deep ds)) (line_depths-append rules empty_stack lines (line ∷ []))
    ∙ on (position deep (line_depths rules empty_stack lines)) refl (sym (too_deep_at_once rules limit lines (are-before lines (line ∷ []) h)) ∙ e)
    ∙ ap (λ (st : Stack). cond (nat_lt limit (nesting st.now)) (Some (suc (length lines))) None) (sym (push_lines-append rules empty_stack lines (line ∷ [])))
  where
    deep : ℕ → Bool
    deep depth = nat_lt limit depth

    next : Stack
    next = push_line rules (push_lines rules empty_stack lines) line

    moved : (b : Bool) (n : ℕ) → n ≡ length lines → option_map suc (cond b (Some n) None) ≡ cond b (Some (suc (length lines))) None
    moved true n e = ap (λ n. Some (suc n)) e
    moved false n e = refl

    on : (found : Option ℕ) → position deep (line_depths rules empty_stack lines) ≡ found → option_map suc found ≡ None
        → option_map suc (position deep (line_depths rules empty_stack lines ++ nesting next.now ∷ [])) ≡ cond (nat_lt limit (nesting next.now)) (Some (suc (length lines))) None
    on None f e =
        ap (option_map suc) (position-next deep (line_depths rules empty_stack lines) (nesting next.now) f)
        ∙ moved (nat_lt limit (nesting next.now)) (length (line_depths rules empty_stack lines)) (length-line_depths rules empty_stack lines)
    on (Some m) f e = grind (arith, e)

pub ruleset of_depths = (depths_of_lines, too_deep_at_once, too_deep_stays, too_deep_next)
