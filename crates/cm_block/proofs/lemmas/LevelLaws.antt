-- A level read from the left has the blocks, the separation and the last line that its parts have.
use Rattle.std.specs.Prelude.{not, ◌&&◌, ◌||◌, nat_lt}
use Rattle.std.proofs.Common.{◌≡◌, ℕ, suc, Bool, true, false, List, [], ◌∷◌, ◌++◌, refl, ◌∙◌, sym, ap, ap₂, arith, Option, Some, None}
use Rattle.std.proofs.lemmas.List.{append_assoc, append-nil}
use Rattle.std.proofs.Math.Bool.{or-false, or_assoc}
use Rattle.cm_tree.specs.declared.tree.ListKind.{ListKind}
use Rattle.cm_tree.specs.declared.tree.Block.{Block}
use Rattle.cm_tree.specs.declared.tree.Block.TheVariants.{Quote, List as ListBlock}
use Rattle.cm_scan.specs.Words.{given}
use Rattle.cm_scan.specs.blocks.LineForms.{is_same_kind}
use Rattle.cm_scan.specs.blocks.Parts.{Parts, none, blank, leaf, quote, list, ItemParts, last_item, item, leaf_block, is_separated, is_loose, items_end_blank, ends_blank_after, next_items, put_before, put_item, blocks_of_parts, blocks_of_items}
use Rattle.cm_block.specs.Machine.{ClosedPart, closed_blank, closed_leaf, closed_quote, closed_item, put, put_all}
use Rattle.cm_block.specs.Level.{OpenList, Item, Level, empty_level, closed_blocks, push_blank, list_opens, list_goes_on, item_opens_in, item_closes, push_block, push_item, item_of_parts, add, add_all, LevelOfParts}

-- an item that starts a list, and one that continues it
abbrev first_item : Level → ListKind → Item → Level
first_item v kind i = item_closes (list_opens v kind) i

abbrev next_item : Level → OpenList → Item → Level
next_item v o i = item_closes (list_goes_on v o) i

-- what a level and the parts that follow it come to
record Outcome : Type 0 where
  blocks : List Block
  separated : Bool
  ends_blank : Bool

abbrev outcome : List Block → Bool → Bool → Outcome
outcome bs s e = record { blocks = bs; separated = s; ends_blank = e }

abbrev Following : Type 0
Following = Option (ℕ × ItemParts × Parts)

-- where no item continues the list
abbrev plain : Level → Parts → Outcome
plain v p = outcome (closed_blocks v ++ blocks_of_parts p) (v.separated || is_separated v.has_block v.ends_blank p) (ends_blank_after v.ends_blank p)

-- where these do
abbrev longer : Level → OpenList → ℕ × ItemParts × Parts → Outcome
longer v o f =
    outcome (v.blocks ++ ListBlock o.kind (not (o.loose || nat_lt 0 f.0 || v.ends_blank || is_loose f.1)) (o.items ++ blocks_of_items f.1) ∷ blocks_of_parts f.2)
    (v.separated || is_separated true (items_end_blank f.1) f.2) (ends_blank_after (items_end_blank f.1) f.2)

by_next : Level → OpenList → Parts → Following → Outcome
by_next v o p None = plain v p
by_next v o p (Some f) = longer v o f

by_list : Level → Parts → Option OpenList → Outcome
by_list v p None = plain v p
by_list v p (Some o) = by_next v o p (next_items o.kind 0 p)

result : Level → Parts → Outcome
result v p = by_list v p v.open_list

result-none : (v : Level) → result v none ≡ outcome (closed_blocks v) (v.separated || false) v.ends_blank
unfolding result by_list by_next blocks_of_parts is_separated ends_blank_after next_items
result-none v = go v.open_list
  where
    go : (x : Option OpenList) → by_list v none x ≡ outcome (closed_blocks v) (v.separated || false) v.ends_blank
    go None = ap (λ bs. outcome bs (v.separated || false) v.ends_blank) (append-nil (closed_blocks v))
    go (Some o) = ap (λ bs. outcome bs (v.separated || false) v.ends_blank) (append-nil (closed_blocks v))

-- one blank line more
later : Following → Following
later None = None
later (Some f) = Some (suc f.0, f.1, f.2)

shift : (kind : ListKind) (n : ℕ) (p : Parts) → next_items kind (suc n) p ≡ later (next_items kind n p)
unfolding next_items later
shift kind n none = refl
shift kind n (blank p) = shift kind (suc n) p
shift kind n (leaf x m p) = refl
shift kind n (quote c p) = refl
shift kind n (list other items p) = go (is_same_kind kind other)
  where
    go : (b : Bool) → given b (suc n, items, p) ≡ later (given b (n, items, p))
    go true = refl
    go false = refl

loose-later : (a b c : Bool) (n : ℕ) → (a || nat_lt 0 (suc n) || b || c) ≡ (a || nat_lt 0 n || true || c)
loose-later true b c n = refl
loose-later false b c n = grind arith

blank-result : (v : Level) (p : Parts) → result v (blank p) ≡ result (push_blank v) p
unfolding result by_list by_next blocks_of_parts is_separated ends_blank_after later next_items
blank-result v p = go v.open_list
  where
    next : (o : OpenList) (x : Following) → by_next v o (blank p) (later x) ≡ by_next (push_blank v) o p x
    next o None = refl
    next o (Some f) =
        ap (λ b. outcome (v.blocks ++ ListBlock o.kind (not b) (o.items ++ blocks_of_items f.1) ∷ blocks_of_parts f.2)
        (v.separated || is_separated true (items_end_blank f.1) f.2) (ends_blank_after (items_end_blank f.1) f.2)) (loose-later o.loose v.ends_blank (is_loose f.1) f.0)

    go : (x : Option OpenList) → by_list v (blank p) x ≡ by_list (push_blank v) p x
    go None = refl
    go (Some o) = ap (by_next v o (blank p)) (shift o.kind 0 p) ∙ next o (next_items o.kind 0 p)

-- a block that is no item
plain-push : (v : Level) (b : Block) (p : Parts)
    → outcome (closed_blocks v ++ b ∷ blocks_of_parts p) (v.separated || (v.has_block && v.ends_blank || is_separated true false p)) (ends_blank_after false p) ≡ plain (push_block v b) p
plain-push v b p =
    ap₂ (λ bs s. outcome bs s (ends_blank_after false p)) (sym (append_assoc (closed_blocks v) (b ∷ []) (blocks_of_parts p)))
    (sym (or_assoc v.separated (v.has_block && v.ends_blank) (is_separated true false p)))

-- an item that starts a list
list-begins : (v : Level) (kind : ListKind) (c p : Parts) (x : Following)
    → plain v (put_before kind c p x) ≡ by_next (first_item v kind (item_of_parts c)) (record { kind = kind; loose = is_separated false false c; items = blocks_of_parts c ∷ [] }) p x
unfolding by_next blocks_of_parts is_separated ends_blank_after is_loose items_end_blank
list-begins v kind c p None =
    ap₂ (λ bs s. outcome bs s (ends_blank_after (items_end_blank (last_item c)) p))
    (sym (append_assoc (closed_blocks v) (ListBlock kind (not (is_separated false false c)) (blocks_of_parts c ∷ []) ∷ []) (blocks_of_parts p)))
    (sym (or_assoc v.separated (v.has_block && v.ends_blank) (is_separated true (items_end_blank (last_item c)) p)))
list-begins v kind c p (Some f) =
    ap (λ s. outcome (closed_blocks v ++ ListBlock kind (not (is_loose (item c f.0 f.1))) (blocks_of_parts c ∷ blocks_of_items f.1) ∷ blocks_of_parts f.2) s (ends_blank_after (items_end_blank f.1) f.2))
    (sym (or_assoc v.separated (v.has_block && v.ends_blank) (is_separated true (items_end_blank f.1) f.2)))

-- an item that continues a list
more-loose : (a b c d e f : Bool) → (a || false || b || (c || d || e || f)) ≡ (a || b || c || d || e || f)
more-loose true b c d e f = refl
more-loose false true c d e f = refl
more-loose false false c d e f = refl

last-loose : (a b c : Bool) → (a || false || b || c) ≡ (a || b || c)
last-loose true b c = refl
last-loose false b c = refl

goes_on : Level → OpenList → Parts → Parts → Following → Outcome
goes_on v o c p None = longer v o (0, last_item c, p)
goes_on v o c p (Some f) = longer v o (0, item c f.0 f.1, f.2)

list-goes-on : (v : Level) (o : OpenList) (c p : Parts) (x : Following)
    → goes_on v o c p x
    ≡ by_next (next_item v o (item_of_parts c)) (record { kind = o.kind; loose = o.loose || v.ends_blank || is_separated false false c; items = o.items ++ blocks_of_parts c ∷ [] }) p x
unfolding goes_on by_next blocks_of_parts is_separated is_loose items_end_blank
list-goes-on v o c p None =
    ap (λ b. outcome (v.blocks ++ ListBlock o.kind (not b) (o.items ++ blocks_of_parts c ∷ []) ∷ blocks_of_parts p) (v.separated || is_separated true (items_end_blank (last_item c)) p) (ends_blank_after (items_end_blank (last_item c)) p))
    (last-loose o.loose v.ends_blank (is_separated false false c))
    ∙ ap (λ bs. outcome bs (v.separated || is_separated true (items_end_blank (last_item c)) p) (ends_blank_after (items_end_blank (last_item c)) p))
    (sym (append_assoc v.blocks (ListBlock o.kind (not (o.loose || v.ends_blank || is_separated false false c)) (o.items ++ blocks_of_parts c ∷ []) ∷ []) (blocks_of_parts p)))
list-goes-on v o c p (Some f) =
    ap₂ (λ b js. outcome (v.blocks ++ ListBlock o.kind (not b) js ∷ blocks_of_parts f.2) (v.separated || is_separated true (items_end_blank f.1) f.2) (ends_blank_after (items_end_blank f.1) f.2))
    (more-loose o.loose v.ends_blank (is_separated false false c) (nat_lt 0 f.0) (items_end_blank (last_item c)) (is_loose f.1))
    (sym (append_assoc o.items (blocks_of_parts c ∷ []) (blocks_of_items f.1)))

-- items of one kind
same-kind : (i j k : ListKind) → is_same_kind i j ≡ true → is_same_kind i k ≡ is_same_kind j k
same-kind i j k e = grind (arith, e)

same-next : (i j : ListKind) (n : ℕ) (p : Parts) → is_same_kind i j ≡ true → next_items i n p ≡ next_items j n p
unfolding next_items
same-next i j n none e = refl
same-next i j n (blank p) e = same-next i j (suc n) p e
same-next i j n (leaf x m p) e = refl
same-next i j n (quote c p) e = refl
same-next i j n (list k items p) e = ap (λ b. given b (n, items, p)) (same-kind i j k e)

item-result : (v : Level) (kind : ListKind) (c p : Parts) → result v (put_item kind c p) ≡ result (push_item v kind (item_of_parts c)) p
unfolding result by_list put_item next_items by_next goes_on
item-result v kind c p = go v.open_list
  where
    i : Item
    i = item_of_parts c

    grown : OpenList → OpenList
    grown o = record { kind = o.kind; loose = o.loose || v.ends_blank || is_separated false false c; items = o.items ++ blocks_of_parts c ∷ [] }

    others : (o : OpenList) (x : Following) → is_same_kind o.kind kind ≡ false → by_next v o (put_before kind c p x) (next_items o.kind 0 (put_before kind c p x)) ≡ plain v (put_before kind c p x)
    others o None e = ap (λ b. by_next v o (put_before kind c p None) (given b (0, last_item c, p))) e
    others o (Some f) e = ap (λ b. by_next v o (put_before kind c p (Some f)) (given b (0, item c f.0 f.1, f.2))) e

    same : (o : OpenList) (x : Following) → is_same_kind o.kind kind ≡ true → by_next v o (put_before kind c p x) (next_items o.kind 0 (put_before kind c p x)) ≡ by_next (next_item v o i) (grown o) p x
    same o None e = ap (λ b. by_next v o (put_before kind c p None) (given b (0, last_item c, p))) e ∙ list-goes-on v o c p None
    same o (Some f) e = ap (λ b. by_next v o (put_before kind c p (Some f)) (given b (0, item c f.0 f.1, f.2))) e ∙ list-goes-on v o c p (Some f)

    level : OpenList → Bool → Level
    level o b = item_closes (elim b [ true ↦ list_goes_on v o | false ↦ list_opens v kind ]) i

    by_kind : (o : OpenList) (b : Bool) → is_same_kind o.kind kind ≡ b → by_next v o (put_item kind c p) (next_items o.kind 0 (put_item kind c p)) ≡ result (level o b) p
    by_kind o true e = same o (next_items kind 0 p) e ∙ ap (by_next (next_item v o i) (grown o) p) (sym (same-next o.kind kind 0 p e))
    by_kind o false e = others o (next_items kind 0 p) e ∙ list-begins v kind c p (next_items kind 0 p)

    go : (x : Option OpenList) → by_list v (put_item kind c p) x ≡ result (item_closes (item_opens_in v x kind) i) p
    go None = list-begins v kind c p (next_items kind 0 p)
    go (Some o) = by_kind o (is_same_kind o.kind kind) refl

put-add : (x : ClosedPart) (v : Level) (p : Parts) → result v (put x p) ≡ result (add v x) p
unfolding add result by_list by_next next_items blocks_of_parts is_separated ends_blank_after
put-add closed_blank v p = blank-result v p
put-add (closed_leaf x n) v p = go v.open_list ∙ plain-push v (leaf_block x) p
  where
    go : (y : Option OpenList) → by_list v (leaf x n p) y ≡ plain v (leaf x n p)
    go None = refl
    go (Some o) = refl
put-add (closed_quote c) v p = go v.open_list ∙ plain-push v (Quote (blocks_of_parts c)) p
  where
    go : (y : Option OpenList) → by_list v (quote c p) y ≡ plain v (quote c p)
    go None = refl
    go (Some o) = refl
put-add (closed_item kind c) v p = item-result v kind c p

put_all-add : (ps : List ClosedPart) (v : Level) → result v (put_all ps none) ≡ result (add_all v ps) none
unfolding put_all add_all
put_all-add [] v = refl
put_all-add (x ∷ ps) v = put-add x v (put_all ps none) ∙ put_all-add ps (add v x)

level-outcome : (ps : List ClosedPart) → outcome (blocks_of_parts (put_all ps none)) (is_separated false false (put_all ps none)) (ends_blank_after false (put_all ps none))
    ≡ (let v = add_all empty_level ps in outcome (closed_blocks v) (v.separated || false) v.ends_blank)
unfolding result by_list
level-outcome ps = put_all-add ps empty_level ∙ result-none (add_all empty_level ps)

pub level_of_parts : (ps : List ClosedPart) → LevelOfParts ps
level_of_parts ps = record {
  blocks = sym (ap (λ (r : Outcome). r.blocks) (level-outcome ps));
  separated = sym (or-false _) ∙ sym (ap (λ (r : Outcome). r.separated) (level-outcome ps));
  ends_blank = sym (ap (λ (r : Outcome). r.ends_blank) (level-outcome ps));
}
