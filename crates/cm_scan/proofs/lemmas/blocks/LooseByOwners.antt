-- Loose lists by the owners of their lines.
use Rattle.std.proofs.Common.{◌≡◌, ℕ, zero, suc, ◌+◌, ◌<◌, Bool, true, false, ◌&&◌, ◌||◌, List, [], ◌∷◌, ◌++◌, length, drop, get_or, map, refl, sym, ◌∙◌, ap, arith, append_assoc, length-append}
use Rattle.std.specs.Prelude.{nat_lt, replicate}
use Rattle.std.specs.List.{list_any}
use Rattle.cm_tree.specs.declared.tree.Owner.{Owner}
use Rattle.cm_tree.specs.declared.tree.Owner.TheVariants.{Leaf, Marker, Blank}
use Rattle.cm_scan.specs.blocks.Parts.{Parts, none, blank, leaf, quote, list, ItemParts, last_item, item, leaf_count, item_leaf_count, marked, marked_first, owners_after, item_owners_after, line_owners, ends_blank_after, items_end_blank, is_separated, is_loose}
use Rattle.cm_scan.specs.laws.Looseness.{line_total, items_total, HaveLines, ItemsHaveLines, block_starts, item_starts, is_blank_line, is_after_blank, parted, parted_inside, LooseByOwners}
use Rattle.cm_scan.proofs.lemmas.blocks.OwnersOfLines.{one_owner_a_line, items_owners, length-first, length-replicate, length-marked}

-- whether the last line is blank; the mark is the answer for the lines before
abbrev last_blank : Bool → List Owner → Bool
last_blank before [] = before
last_blank before (owner ∷ owners) = last_blank (is_blank_line owner) owners

last-append : (before : Bool) (xs ys : List Owner) → last_blank before (xs ++ ys) ≡ last_blank (last_blank before xs) ys
last-append before [] ys = refl
last-append before (x ∷ xs) ys = last-append (is_blank_line x) xs ys

-- the lines of a leaf, of a quote, and blank ones
last-leaf : (n lines : ℕ) → last_blank false (replicate lines (Leaf n)) ≡ false
last-leaf n zero = refl
last-leaf n (suc lines) = last-leaf n lines

last-some_leaf : (before : Bool) (n lines : ℕ) → 0 < lines → last_blank before (replicate lines (Leaf n)) ≡ false
last-some_leaf before n zero some = absurd (omega arith)
last-some_leaf before n (suc lines) some = last-leaf n lines

marked-not_blank : (owner : Owner) → is_blank_line (marked owner) ≡ false
marked-not_blank (Leaf n) = refl
marked-not_blank Marker = refl
marked-not_blank Blank = refl

last-marked : (owners : List Owner) → last_blank false (map marked owners) ≡ false
last-marked [] = refl
last-marked (o ∷ os) = ap (λ b. last_blank b (map marked os)) (marked-not_blank o) ∙ last-marked os

last-some_marked : (before : Bool) (owners : List Owner) → 0 < length owners → last_blank before (map marked owners) ≡ false
last-some_marked before [] some = absurd (omega arith)
last-some_marked before (o ∷ os) some = ap (λ b. last_blank b (map marked os)) (marked-not_blank o) ∙ last-marked os

last-true : (blanks : ℕ) → last_blank true (replicate blanks Blank) ≡ true
last-true zero = refl
last-true (suc blanks) = last-true blanks

some_blank : (blanks : ℕ) → nat_lt 0 (suc blanks) ≡ true
some_blank blanks = grind arith

last-blanks : (before : Bool) (blanks : ℕ) → last_blank before (replicate blanks Blank) ≡ (nat_lt 0 blanks || before)
last-blanks before zero = refl
last-blanks before (suc blanks) = last-true blanks ∙ ap (λ b. b || before) (sym (some_blank blanks))

-- the last line of a block and what follows it, whose lines after that one are known

last-leaf_first : (before : Bool) (n lines : ℕ) (owners : List Owner) → 0 < lines → last_blank before (replicate lines (Leaf n) ++ owners) ≡ last_blank false owners
last-leaf_first before n lines owners some =
    last-append before (replicate lines (Leaf n)) owners ∙ ap (λ b. last_blank b owners) (last-some_leaf before n lines some)

last-quote_first : (before : Bool) (n : ℕ) (inside : Parts) (owners : List Owner) → 0 < line_total inside
    → last_blank before (map marked (owners_after n inside) ++ owners) ≡ last_blank false owners
last-quote_first before n inside owners some =
    let longer : 0 < length (owners_after n inside) = omega (arith, one_owner_a_line n inside, some) in
    last-append before (map marked (owners_after n inside)) owners ∙ ap (λ b. last_blank b owners) (last-some_marked before (owners_after n inside) longer)

mutual
  unfolding owners_after item_owners_after ends_blank_after items_end_blank HaveLines ItemsHaveLines line_total

  last-parts : (before : Bool) (n : ℕ) (p : Parts) → HaveLines p → last_blank before (owners_after n p) ≡ ends_blank_after before p
  last-parts before n none have = refl
  last-parts before n (blank rest) have = last-parts true n rest have
  last-parts before n (leaf x lines rest) have =
      last-leaf_first before (suc n) lines (owners_after (suc n) rest) have.0 ∙ last-parts false (suc n) rest have.1
  last-parts before n (quote inside rest) have =
      last-quote_first before n inside (owners_after (n + leaf_count inside) rest) have.0 ∙ last-parts false (n + leaf_count inside) rest have.2
  last-parts before n (list kind items rest) have =
      last-append before (item_owners_after n items) (owners_after (n + item_leaf_count items) rest)
      ∙ ap (λ b. last_blank b (owners_after (n + item_leaf_count items) rest)) (last-items before n items have.0)
      ∙ last-parts (items_end_blank items) (n + item_leaf_count items) rest have.1

  last-items : (before : Bool) (n : ℕ) (items : ItemParts) → ItemsHaveLines items → last_blank before (item_owners_after n items) ≡ items_end_blank items
  last-items before n (last_item inside) have = last-item before n inside have.0 have.1
  last-items before n (item inside blanks items) have =
      last-append before (marked_first inside (owners_after n inside) ++ replicate blanks Blank) (item_owners_after (n + leaf_count inside) items)
      ∙ last-items _ (n + leaf_count inside) items have.2

  -- of one item
  last-item : (before : Bool) (n : ℕ) (inside : Parts) → 0 < line_total inside → HaveLines inside
      → last_blank before (marked_first inside (owners_after n inside)) ≡ items_end_blank (last_item inside)
  last-item before n none some have = absurd (omega (arith, some))
  last-item before n (blank rest) some have = last-parts false n rest have
  last-item before n (leaf x lines rest) some have =
      last-leaf_first before (suc n) lines (owners_after (suc n) rest) have.0 ∙ last-parts false (suc n) rest have.1
  last-item before n (quote inside rest) some have =
      last-quote_first before n inside (owners_after (n + leaf_count inside) rest) have.0 ∙ last-parts false (n + leaf_count inside) rest have.2
  last-item before n (list kind items rest) some have =
      last-append before (item_owners_after n items) (owners_after (n + item_leaf_count items) rest)
      ∙ ap (λ b. last_blank b (owners_after (n + item_leaf_count items) rest)) (last-items before n items have.0)
      ∙ last-parts (items_end_blank items) (n + item_leaf_count items) rest have.1

-- the line before the first of the lines that follow
before-one : (owner : Owner) (front owners : List Owner) → is_blank_line (get_or (owner ∷ front ++ owners) (length front) Marker) ≡ last_blank (is_blank_line owner) front
before-one owner [] owners = refl
before-one owner (o ∷ front) owners = before-one o front owners

after-front : (front owners : List Owner) → is_after_blank (front ++ owners) (length front) ≡ last_blank false front
after-front [] owners = refl
after-front (o ∷ front) owners = before-one o front owners

-- starts that count, where a block is before or not
abbrev later : Bool → List ℕ → List ℕ
later true starts = starts
later false starts = drop 1 starts

-- blocks that follow a front, which start one after the other
abbrev gaps : Bool → List Owner → ℕ → Parts → Bool
gaps beyond front n p = list_any (is_after_blank (front ++ owners_after n p)) (later beyond (block_starts (length front) p))

-- one block more
one-more : (beyond blank_before : Bool) (owners : List Owner) (start : ℕ) (starts : List ℕ) → is_after_blank owners start ≡ blank_before
    → list_any (is_after_blank owners) (later beyond (start ∷ starts)) ≡ ((beyond && blank_before) || list_any (is_after_blank owners) starts)
one-more true blank_before owners start starts e = ap (λ b. b || list_any (is_after_blank owners) starts) e
one-more false blank_before owners start starts e = refl

-- a block of the given number of lines, and what follows it
next : (beyond : Bool) (front block : List Owner) (n : ℕ) (rest : Parts) (lines : ℕ) (ends : Bool) → length block ≡ lines → last_blank false (front ++ block) ≡ ends
    → is_separated true (last_blank false (front ++ block)) rest ≡ gaps true (front ++ block) n rest
    → ((beyond && last_blank false front) || is_separated true ends rest)
    ≡ list_any (is_after_blank (front ++ (block ++ owners_after n rest))) (later beyond (length front ∷ block_starts (length front + lines) rest))
next beyond front block n rest lines ends count last more =
    let owners = front ++ (block ++ owners_after n rest) in
    let far : length (front ++ block) ≡ length front + lines = omega (arith, length-append front block, count) in
    let same : (front ++ block) ++ owners_after n rest ≡ owners = append_assoc front block (owners_after n rest) in
    let tail : is_separated true ends rest ≡ list_any (is_after_blank owners) (block_starts (length front + lines) rest) =
    ap (λ b. is_separated true b rest) (sym last) ∙ more
    ∙ ap (λ os. list_any (is_after_blank os) (block_starts (length (front ++ block)) rest)) same
    ∙ ap (λ k. list_any (is_after_blank owners) (block_starts k rest)) far in
    ap (λ b. (beyond && last_blank false front) || b) tail
    ∙ sym (one-more beyond (last_blank false front) owners (length front) (block_starts (length front + lines) rest) (after-front front (block ++ owners_after n rest)))

-- whether blocks are parted, after a front of lines
separated : (beyond : Bool) (front : List Owner) (n : ℕ) (p : Parts) → HaveLines p
    → is_separated beyond (last_blank false front) p ≡ gaps beyond front n p
unfolding is_separated owners_after block_starts HaveLines
separated true front n none have = refl
separated false front n none have = refl
separated beyond front n (blank rest) have = go (last-append false front (Blank ∷ [])) (length-append front (Blank ∷ [])) (append_assoc front (Blank ∷ []) (owners_after n rest)) (separated beyond (front ++ Blank ∷ []) n rest have)
  where
    go : last_blank false (front ++ Blank ∷ []) ≡ true → length (front ++ Blank ∷ []) ≡ length front + 1
        → (front ++ Blank ∷ []) ++ owners_after n rest ≡ front ++ Blank ∷ owners_after n rest
        → is_separated beyond (last_blank false (front ++ Blank ∷ [])) rest ≡ gaps beyond (front ++ Blank ∷ []) n rest
        → is_separated beyond true rest ≡ list_any (is_after_blank (front ++ Blank ∷ owners_after n rest)) (later beyond (block_starts (suc (length front)) rest))
    go e l a h =
        let more : length (front ++ Blank ∷ []) ≡ suc (length front) = omega (arith, l) in
        ap (λ b. is_separated beyond b rest) (sym e) ∙ h
        ∙ ap (λ os. list_any (is_after_blank os) (later beyond (block_starts (length (front ++ Blank ∷ [])) rest))) a
        ∙ ap (λ k. list_any (is_after_blank (front ++ Blank ∷ owners_after n rest)) (later beyond (block_starts k rest))) more
separated beyond front n (leaf x lines rest) have =
    next beyond front (replicate lines (Leaf (suc n))) (suc n) rest lines false (length-replicate lines (Leaf (suc n))) (last-append false front _ ∙ last-some_leaf _ (suc n) lines have.0)
    (separated true (front ++ replicate lines (Leaf (suc n))) (suc n) rest have.1)
separated beyond front n (quote inside rest) have =
    let some : 0 < length (owners_after n inside) = omega (arith, one_owner_a_line n inside, have.0) in
    next beyond front (map marked (owners_after n inside)) (n + leaf_count inside) rest (line_total inside) false (length-marked (owners_after n inside) ∙ one_owner_a_line n inside)
    (last-append false front _ ∙ last-some_marked _ (owners_after n inside) some)
    (separated true (front ++ map marked (owners_after n inside)) (n + leaf_count inside) rest have.2)
separated beyond front n (list kind items rest) have =
    next beyond front (item_owners_after n items) (n + item_leaf_count items) rest (items_total items) (items_end_blank items) (items_owners n items)
    (last-append false front _ ∙ last-items _ n items have.0)
    (separated true (front ++ item_owners_after n items) (n + item_leaf_count items) rest have.1)

-- within an item
inside_separated : (p : Parts) → HaveLines p → is_separated false false p ≡ parted (line_owners p) (block_starts 0 p)
unfolding line_owners
inside_separated p have = separated false [] 0 p have

-- the first item starts where the list does
first_start : (before : ℕ) (items : ItemParts) → item_starts before items ≡ before ∷ drop 1 (item_starts before items)
unfolding item_starts
first_start before (last_item inside) = refl
first_start before (item inside blanks items) = refl

-- what is between items, and what they have inside, in either order
orders : (s b e g i : Bool) → (s || b || e || (g || i)) ≡ (b || e || g || (s || i))
orders true true e g i = refl
orders true false true g i = refl
orders true false false true i = refl
orders true false false false i = refl
orders false true e g i = refl
orders false false true g i = refl
orders false false false true i = refl
orders false false false false i = refl

loose : (front : List Owner) (n : ℕ) (items : ItemParts) → ItemsHaveLines items
    → is_loose items ≡ (parted (front ++ item_owners_after n items) (item_starts (length front) items) || parted_inside items)
unfolding is_loose item_owners_after item_starts parted_inside ItemsHaveLines
loose front n (last_item inside) have = inside_separated inside have.1
loose front n (item inside blanks items) have =
    let first = marked_first inside (owners_after n inside) in
    let m = n + leaf_count inside in
    let block = first ++ replicate blanks Blank in
    let owners = front ++ (block ++ item_owners_after m items) in
    let start = length front + (line_total inside + blanks) in
    let so_far = front ++ block in
    let count : length block ≡ line_total inside + blanks =
    omega (arith, length-append first (replicate blanks Blank), length-replicate blanks Blank, length-first inside (owners_after n inside), one_owner_a_line n inside) in
    let far : length so_far ≡ start = omega (arith, length-append front block, count) in
    let same : so_far ++ item_owners_after m items ≡ owners = append_assoc front block (item_owners_after m items) in
    let last : last_blank false so_far ≡ (nat_lt 0 blanks || items_end_blank (last_item inside)) =
    last-append false front block ∙ last-append _ first (replicate blanks Blank) ∙ last-blanks _ blanks
    ∙ ap (λ b. nat_lt 0 blanks || b) (last-item _ n inside have.0 have.1) in
    let before : is_after_blank owners start ≡ (nat_lt 0 blanks || items_end_blank (last_item inside)) =
    ap (λ k. is_after_blank owners k) (sym far) ∙ ap (λ os. is_after_blank os (length so_far)) (sym same)
    ∙ after-front so_far (item_owners_after m items) ∙ last in
    let further : is_loose items ≡ (parted owners (item_starts start items) || parted_inside items) =
    loose so_far m items have.2
    ∙ ap (λ os. parted os (item_starts (length so_far) items) || parted_inside items) same
    ∙ ap (λ k. parted owners (item_starts k items) || parted_inside items) far in
    let starts : list_any (is_after_blank owners) (item_starts start items) ≡ (nat_lt 0 blanks || items_end_blank (last_item inside) || parted owners (item_starts start items)) =
    ap (list_any (is_after_blank owners)) (first_start start items)
    ∙ ap (λ b. b || parted owners (item_starts start items)) before in
    ap (λ b. is_separated false false inside || nat_lt 0 blanks || items_end_blank (last_item inside) || b) further
    ∙ orders (is_separated false false inside) (nat_lt 0 blanks) (items_end_blank (last_item inside)) (parted owners (item_starts start items)) (parted_inside items)
    ∙ ap (λ b. b || (is_separated false false inside || parted_inside items)) (sym starts)
    ∙ ap (λ b. list_any (is_after_blank owners) (item_starts start items) || (b || parted_inside items)) (inside_separated inside have.1)

pub loose_by_owners : LooseByOwners
loose_by_owners items have = loose [] 0 items have
