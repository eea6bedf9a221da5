-- The owners of the lines of closed parts, and the table of the definitions in them, from the left.
use Rattle.std.specs.Prelude.{replicate}
use Rattle.std.proofs.Common.{◌≡◌, ℕ, zero, suc, ◌+◌, Bool, true, false, List, [], ◌∷◌, ◌++◌, map, refl, ◌∙◌, sym, ap, ap₂, arith, Option, Some, None}
use Rattle.std.proofs.lemmas.List.{append_assoc, append-nil}
use Rattle.cm_tree.specs.declared.tree.ListKind.{ListKind}
use Rattle.cm_tree.specs.declared.tree.Owner.{Owner}
use Rattle.cm_tree.specs.declared.tree.Owner.TheVariants.{Leaf, Marker, Blank}
use Rattle.cm_tree.specs.Definitions.{Target, Targets, add_first, add_all}
use Rattle.cm_text.specs.Labels.{fold_label}
use Rattle.cm_text.specs.Unescaping.{unescape}
use Rattle.cm_scan.specs.blocks.LineForms.{is_same_kind}
use Rattle.cm_scan.specs.blocks.Parts.{LeafPart, paragraph, heading, code, html, thematic_break, definition, Parts, none, blank, leaf, quote, list, ItemParts, next_items, put_before, put_item, leaf_count, item_leaf_count, marked, marked_first, owners_after, item_owners_after, definitions_in, item_definitions_in}
use Rattle.cm_block.specs.Machine.{ClosedPart, closed_blank, closed_leaf, closed_quote, closed_item, put, put_all, parts_of_leaves}
use Rattle.cm_block.proofs.lemmas.OpenEnd.{given-is}
use Rattle.cm_block.specs.Stack.{Owned, table_with, own_leaf, own_lines, own_leaves, own_blanks}

-- the owners of a closed part's lines, after the given number of leaves
abbrev pub closed_part_owners : ℕ → ClosedPart → List Owner
closed_part_owners n closed_blank = Blank ∷ []
closed_part_owners n (closed_leaf x lines) = replicate lines (Leaf (suc n))
closed_part_owners n (closed_quote c) = map marked (owners_after n c)
closed_part_owners n (closed_item kind c) = marked_first c (owners_after n c)

-- the number of leaves before what follows it
abbrev pub leaves_after : ℕ → ClosedPart → ℕ
leaves_after n closed_blank = n
leaves_after n (closed_leaf x lines) = suc n
leaves_after n (closed_quote c) = n + leaf_count c
leaves_after n (closed_item kind c) = n + leaf_count c

-- parts after a closed part

abbrev blanks : ℕ → List Owner
blanks n = replicate n Blank

pub replicate-push : {A : Type 0} (n : ℕ) (x : A) (xs : List A) → replicate (suc n) x ++ xs ≡ replicate n x ++ x ∷ xs
replicate-push zero x xs = refl
replicate-push (suc n) x xs = ap (λ ys. x ∷ ys) (replicate-push n x xs)

-- what follows an item, with blank lines before the next
abbrev owners_on : ℕ → ℕ × ItemParts × Parts → List Owner
owners_on n f = blanks f.0 ++ (item_owners_after n f.1 ++ owners_after (n + item_leaf_count f.1) f.2)

next-owners : (kind : ListKind) (b n : ℕ) (p : Parts) (f : ℕ × ItemParts × Parts) → next_items kind b p ≡ Some f → blanks b ++ owners_after n p ≡ owners_on n f
unfolding next_items owners_after
next-owners kind b n none f e = grind (arith, e)
next-owners kind b n (blank p) f e = sym (replicate-push b Blank (owners_after n p)) ∙ next-owners kind (suc b) n p f e
next-owners kind b n (leaf x m p) f e = grind (arith, e)
next-owners kind b n (quote c p) f e = grind (arith, e)
next-owners kind b n (list other items p) f e = ap (owners_on n) (given-is (is_same_kind kind other) (b, items, p) f e)

next-leaves : (kind : ListKind) (b : ℕ) (p : Parts) (f : ℕ × ItemParts × Parts) → next_items kind b p ≡ Some f → leaf_count p ≡ item_leaf_count f.1 + leaf_count f.2
unfolding next_items leaf_count
next-leaves kind b none f e = grind (arith, e)
next-leaves kind b (blank p) f e = next-leaves kind (suc b) p f e
next-leaves kind b (leaf x n p) f e = grind (arith, e)
next-leaves kind b (quote c p) f e = grind (arith, e)
next-leaves kind b (list other items p) f e = grind (arith, e)

put-owners : (x : ClosedPart) (n : ℕ) (p : Parts) → owners_after n (put x p) ≡ closed_part_owners n x ++ owners_after (leaves_after n x) p
unfolding put_item owners_after leaf_count
put-owners closed_blank n p = refl
put-owners (closed_leaf x m) n p = refl
put-owners (closed_quote c) n p = refl
put-owners (closed_item kind c) n p = go (next_items kind 0 p) refl
  where
    first : List Owner
    first = marked_first c (owners_after n c)

    go : (v : Option (ℕ × ItemParts × Parts)) → next_items kind 0 p ≡ v → owners_after n (put_before kind c p v) ≡ first ++ owners_after (n + leaf_count c) p
    go None e = refl
    go (Some f) e =
        append_assoc (first ++ blanks f.0) (item_owners_after (n + leaf_count c) f.1) (owners_after (n + (leaf_count c + item_leaf_count f.1)) f.2)
        ∙ append_assoc first (blanks f.0) _
        ∙ ap (λ m. first ++ (blanks f.0 ++ (item_owners_after (n + leaf_count c) f.1 ++ owners_after m f.2))) (plus (leaf_count c) (item_leaf_count f.1))
        ∙ ap (λ os. first ++ os) (sym (next-owners kind 0 (n + leaf_count c) p f e))
      where
        plus : (a b : ℕ) → n + (a + b) ≡ n + a + b
        plus a b = omega arith

put-leaves : (x : ClosedPart) (n : ℕ) (p : Parts) → n + leaf_count (put x p) ≡ leaves_after n x + leaf_count p
unfolding put_item leaf_count
put-leaves closed_blank n p = refl
put-leaves (closed_leaf x m) n p = omega arith
put-leaves (closed_quote c) n p = omega arith
put-leaves (closed_item kind c) n p = go (next_items kind 0 p) refl
  where
    go : (v : Option (ℕ × ItemParts × Parts)) → next_items kind 0 p ≡ v → n + leaf_count (put_before kind c p v) ≡ n + leaf_count c + leaf_count p
    go None e = omega arith
    go (Some f) e = omega (arith, next-leaves kind 0 p f e)

-- the definitions in a closed part

abbrev pub leaf_definitions : LeafPart → List (List ℕ × Target)
leaf_definitions (definition label dest title) = (label, (unescape dest, unescape title)) ∷ []
leaf_definitions _ = []

abbrev pub closed_part_definitions : ClosedPart → List (List ℕ × Target)
closed_part_definitions closed_blank = []
closed_part_definitions (closed_leaf x lines) = leaf_definitions x
closed_part_definitions (closed_quote c) = definitions_in c
closed_part_definitions (closed_item kind c) = definitions_in c

leaf-table : (t : Targets) (x : LeafPart) → table_with t x ≡ add_all t (leaf_definitions x)
leaf-table t (paragraph source) = refl
leaf-table t (heading level source) = refl
leaf-table t (code info text) = refl
leaf-table t (html text) = refl
leaf-table t thematic_break = refl
leaf-table t (definition label dest title) = refl

table-append : (t : Targets) (ds es : List (List ℕ × Target)) → add_all t (ds ++ es) ≡ add_all (add_all t ds) es
table-append t [] es = refl
table-append t (d ∷ ds) es = table-append (add_first t (fold_label d.0) d.1) ds es

next-definitions : (kind : ListKind) (b : ℕ) (p : Parts) (f : ℕ × ItemParts × Parts) → next_items kind b p ≡ Some f → definitions_in p ≡ item_definitions_in f.1 ++ definitions_in f.2
unfolding next_items definitions_in
next-definitions kind b none f e = grind (arith, e)
next-definitions kind b (blank p) f e = next-definitions kind (suc b) p f e
next-definitions kind b (leaf x n p) f e = grind (arith, e)
next-definitions kind b (quote c p) f e = grind (arith, e)
next-definitions kind b (list other items p) f e = ap (λ (f : ℕ × ItemParts × Parts). item_definitions_in f.1 ++ definitions_in f.2) (given-is (is_same_kind kind other) (b, items, p) f e)

put-definitions : (x : ClosedPart) (p : Parts) → definitions_in (put x p) ≡ closed_part_definitions x ++ definitions_in p
unfolding put_item definitions_in
put-definitions closed_blank p = refl
put-definitions (closed_leaf (paragraph source) m) p = refl
put-definitions (closed_leaf (heading level source) m) p = refl
put-definitions (closed_leaf (code info text) m) p = refl
put-definitions (closed_leaf (html text) m) p = refl
put-definitions (closed_leaf thematic_break m) p = refl
put-definitions (closed_leaf (definition label dest title) m) p = refl
put-definitions (closed_quote c) p = refl
put-definitions (closed_item kind c) p = go (next_items kind 0 p) refl
  where
    go : (v : Option (ℕ × ItemParts × Parts)) → next_items kind 0 p ≡ v → definitions_in (put_before kind c p v) ≡ definitions_in c ++ definitions_in p
    go None e = refl
    go (Some f) e = append_assoc (definitions_in c) (item_definitions_in f.1) (definitions_in f.2) ∙ ap (λ ds. definitions_in c ++ ds) (sym (next-definitions kind 0 p f e))

-- owners inside quotes

abbrev pub mark_as : (in_a_quote : Bool) → Owner → Owner
mark_as true o = marked o
mark_as false o = o

abbrev pub mark_all : (in_a_quote : Bool) → List Owner → List Owner
mark_all q [] = []
mark_all q (o ∷ os) = mark_as q o ∷ mark_all q os

mark-append : (q : Bool) (os ps : List Owner) → mark_all q (os ++ ps) ≡ mark_all q os ++ mark_all q ps
mark-append q [] ps = refl
mark-append q (o ∷ os) ps = ap (λ rs. mark_as q o ∷ rs) (mark-append q os ps)

mark-twice : (q : Bool) (os : List Owner) → mark_all q (map marked os) ≡ mark_all true os
mark-twice q [] = refl
mark-twice q (o ∷ os) = ap₂ (λ p ps. p ∷ ps) (once q o) (mark-twice q os)
  where
    once : (q : Bool) (o : Owner) → mark_as q (marked o) ≡ marked o
    once true (Leaf n) = refl
    once true Marker = refl
    once true Blank = refl
    once false o = refl

mark-marker : (q : Bool) → mark_as q Marker ≡ Marker
mark-marker true = refl
mark-marker false = refl

mark-leaf : (q : Bool) (lines n : ℕ) → mark_all q (replicate lines (Leaf n)) ≡ replicate lines (Leaf n)
mark-leaf q zero n = refl
mark-leaf true (suc k) n = ap (λ os. Leaf n ∷ os) (mark-leaf true k n)
mark-leaf false (suc k) n = ap (λ os. Leaf n ∷ os) (mark-leaf false k n)

pub mark-none : (os : List Owner) → mark_all false os ≡ os
mark-none [] = refl
mark-none (o ∷ os) = ap (λ ps. o ∷ ps) (mark-none os)

-- closed parts one by one

abbrev pub owned : List Owner → ℕ → Targets → Owned
owned os n t = record { owners = os; leaves = n; table = t }

same-owned : {os ps : List Owner} {m n : ℕ} {t u : Targets} → os ≡ ps → m ≡ n → t ≡ u → owned os m t ≡ owned ps n u
same-owned {ps = ps} {n = n} {t = t} e f g = ap₂ (λ os m. owned os m t) e f ∙ ap (owned ps n) g

abbrev pub own_closed_part : (in_a_quote : Bool) → Owned → ClosedPart → Owned
own_closed_part q s x = owned (s.owners ++ mark_all q (closed_part_owners s.leaves x)) (leaves_after s.leaves x) (add_all s.table (closed_part_definitions x))

unfoldable pub own_closed_parts : (in_a_quote : Bool) → Owned → List ClosedPart → Owned
own_closed_parts q s [] = s
own_closed_parts q s (x ∷ ps) = own_closed_parts q (own_closed_part q s x) ps

pub own-append : (q : Bool) (s : Owned) (ps qs : List ClosedPart) → own_closed_parts q s (ps ++ qs) ≡ own_closed_parts q (own_closed_parts q s ps) qs
unfolding own_closed_parts
own-append q s [] qs = refl
own-append q s (x ∷ ps) qs = own-append q (own_closed_part q s x) ps qs

-- the owners and the definitions that parts add
abbrev pub own_parts : (in_a_quote : Bool) → Owned → Parts → Owned
own_parts q s p = owned (s.owners ++ mark_all q (owners_after s.leaves p)) (s.leaves + leaf_count p) (add_all s.table (definitions_in p))

pub own-law : (q : Bool) (s : Owned) (ps : List ClosedPart) → own_closed_parts q s ps ≡ own_parts q s (put_all ps none)
unfolding own_closed_parts put_all owners_after leaf_count definitions_in
own-law q s [] = same-owned (sym (append-nil s.owners)) (omega arith) refl
own-law q s (x ∷ ps) =
    own-law q (own_closed_part q s x) ps
    ∙ same-owned
    (append_assoc s.owners (mark_all q (closed_part_owners s.leaves x)) (mark_all q (owners_after (leaves_after s.leaves x) (put_all ps none)))
    ∙ ap (λ os. s.owners ++ os)
    (sym (mark-append q (closed_part_owners s.leaves x) (owners_after (leaves_after s.leaves x) (put_all ps none))) ∙ ap (mark_all q) (sym (put-owners x s.leaves (put_all ps none)))))
    (sym (put-leaves x s.leaves (put_all ps none)))
    (sym (table-append s.table (closed_part_definitions x) (definitions_in (put_all ps none))) ∙ ap (add_all s.table) (sym (put-definitions x (put_all ps none))))

pub own-leaves : (q : Bool) (s : Owned) (xs : List (LeafPart × ℕ)) → own_leaves s xs ≡ own_closed_parts q s (parts_of_leaves xs)
unfolding own_leaves own_closed_parts
own-leaves q s [] = refl
own-leaves q s (x ∷ xs) =
    own-leaves q (own_leaf s x.0 x.1) xs
    ∙ ap₂ (λ os t. own_closed_parts q (owned (s.owners ++ os) (suc s.leaves) t) (parts_of_leaves xs)) (sym (mark-leaf q x.1 (suc s.leaves))) (leaf-table s.table x.0)

pub own-blanks : (q : Bool) (n : ℕ) (s : Owned) → own_blanks q n s ≡ own_closed_parts q s (replicate n closed_blank)
unfolding own_blanks own_closed_parts
own-blanks q zero s = refl
own-blanks true (suc n) s = own-blanks true n (own_closed_part true s closed_blank)
own-blanks false (suc n) s = own-blanks false n (own_closed_part false s closed_blank)

pub quote-owned : (q : Bool) (s : Owned) (ps : List ClosedPart) → own_closed_parts true s ps ≡ own_closed_parts q s (closed_quote (put_all ps none) ∷ [])
unfolding own_closed_parts
quote-owned q s ps = own-law true s ps ∙ same-owned (ap (λ os. s.owners ++ os) (sym (mark-twice q (owners_after s.leaves (put_all ps none))))) refl refl

-- the closed parts of an item: its own line, where that is blank, is a marker's

abbrev pub own_item : (in_a_quote : Bool) → Owned → List ClosedPart → Owned
own_item q s (closed_blank ∷ ps) = own_closed_parts q (own_lines s (Marker ∷ [])) ps
own_item q s ps = own_closed_parts q s ps

list-first : (kind : ListKind) (c p : Parts) (os : List Owner) → marked_first (put_item kind c p) os ≡ os
unfolding put_item
list-first kind c p os = go (next_items kind 0 p)
  where
    go : (v : Option (ℕ × ItemParts × Parts)) → marked_first (put_before kind c p v) os ≡ os
    go None = refl
    go (Some f) = refl

pub item-owned : (q : Bool) (s : Owned) (kind : ListKind) (ps : List ClosedPart) → own_item q s ps ≡ own_closed_parts q s (closed_item kind (put_all ps none) ∷ [])
unfolding own_closed_parts put_all owners_after leaf_count definitions_in
item-owned q s kind [] = own-law q s []
item-owned q s kind (closed_blank ∷ ps) =
    own-law q (own_lines s (Marker ∷ [])) ps
    ∙ same-owned
    (append_assoc s.owners (Marker ∷ []) (mark_all q (owners_after s.leaves (put_all ps none))) ∙ ap (λ o. s.owners ++ o ∷ mark_all q (owners_after s.leaves (put_all ps none))) (sym (mark-marker q)))
    refl refl
item-owned q s kind (closed_leaf x m ∷ ps) = own-law q s (closed_leaf x m ∷ ps)
item-owned q s kind (closed_quote c ∷ ps) = own-law q s (closed_quote c ∷ ps)
item-owned q s kind (closed_item k c ∷ ps) =
    own-law q s (closed_item k c ∷ ps)
    ∙ same-owned (ap (λ os. s.owners ++ mark_all q os) (sym (list-first k c (put_all ps none) (owners_after s.leaves (put_item k c (put_all ps none)))))) refl refl
