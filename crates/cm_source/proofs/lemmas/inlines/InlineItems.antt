-- The items as which inlines are read, and what is made of them.
use Rattle.std.proofs.Common.{◌≡◌, ℕ, Bool, true, false, not, ◌&&◌, List, [], ◌∷◌, ◌++◌, reverse, Some, None, refl, sym, ap, subst, ◌∙◌, append_assoc, append-nil}
use Rattle.std.specs.Prelude.{⊤}
use Rattle.std.proofs.lemmas.Bool.{and_right, false≢true}
use Rattle.std.proofs.lemmas.List.{reverse-append, reverse-reverse}
use Rattle.cm_tree.specs.declared.tree.Inline.{Inline}
use Rattle.cm_tree.specs.declared.tree.Inline.TheVariants.{Text}
use Rattle.cm_scan.specs.Words.{is_empty}
use Rattle.cm_scan.specs.inlines.Delimiters.{Run, delimiters_match}
use Rattle.cm_scan.specs.inlines.Pairing.{Item, Characters, Finished, Linked, Delimiters, Opener, text_before, settled_after, settled, emphasised, paired, nearest_opener, pair_leftmost, pair_once, pair_all, emphasis_of}
use Rattle.cm_scan.specs.inlines.Pieces.{one_by_one}
use Rattle.cm_scan.proofs.lemmas.inlines.PairingInPieces.{settled-one_by_one}
use Rattle.cm_scan.proofs.lemmas.inlines.PairingLemmas.{reverse-first, nearest-found, leftmost-no_opener, leftmost-pairs, pair_all-once, pair_all-stop}
use Rattle.cm_scan.proofs.lemmas.inlines.OnePassLemmas.{leftmost-skips}
use Rattle.cm_source.specs.steps.ContentBack.{Mark, Star, TwoStars, TwoTildes, character_of, count_of}

-- neither a delimiter run nor a bracket
abbrev pub IsDone : Item → Type 0
IsDone (Delimiters run) = ⊥
IsDone (Opener image source) = ⊥
IsDone _ = ⊤

unfoldable pub AllDone : List Item → Type 0
AllDone [] = ⊤
AllDone (item ∷ items) = IsDone item × AllDone items

-- the runs before and after a content, which both have the length of a mark
abbrev pub opening : Mark → (closes : Bool) → Run
opening mark closes = record { character = character_of mark; whole = count_of mark; left = count_of mark; opens = true; closes = closes }

abbrev pub closing : Mark → (opens : Bool) → Run
closing mark opens = record { character = character_of mark; whole = count_of mark; left = count_of mark; opens = opens; closes = true }

abbrev pub emphasis : Mark → List Inline → Inline
emphasis mark content = emphasised (character_of mark) (count_of mark) content

-- The items of inlines, in which emphasis may be runs around items without runs. The mark says whether a text comes first.
pub data Shape : (runs text_first : Bool) → List Inline → List Item → Type 0 where
  Nothing : {runs : Bool} → Shape runs false [] []
  Bytes : {runs : Bool} {text : List ℕ} {inlines : List Inline} {items : List Item} → is_empty text ≡ false → Shape runs false inlines items
      → Shape runs true (Text text ∷ inlines) (one_by_one text ++ items)
  Whole : {runs text_first : Bool} {inline : Inline} {inlines : List Inline} {items : List Item} → Shape runs text_first inlines items
      → Shape runs false (inline ∷ inlines) (Finished inline ∷ items)
  Link : {runs text_first : Bool} {inline : Inline} {inlines : List Inline} {items : List Item} → Shape runs text_first inlines items
      → Shape runs false (inline ∷ inlines) (Linked inline ∷ items)
  Marked : {inner text_first : Bool} {content inlines : List Inline} {inside items : List Item} (mark : Mark) (opens closes : Bool) → Shape false inner content inside → Shape true text_first inlines items
      → Shape true false (emphasis mark content ∷ inlines) (Delimiters (opening mark closes) ∷ inside ++ Delimiters (closing mark opens) ∷ items)

-- ---- texts

nonempty_before : (text : List ℕ) (inlines : List Inline) → is_empty text ≡ false → text_before text inlines ≡ Text text ∷ inlines
nonempty_before [] inlines e = absurd (false≢true (sym e))
nonempty_before (b ∷ bs) inlines e = refl

-- where there are no runs, texts are put together from their bytes
settled_shape : {text_first : Bool} {inlines : List Inline} {items : List Item} (text : List ℕ) → Shape false text_first inlines items → (text_first && not (is_empty text)) ≡ false
    → settled_after text items ≡ text_before text inlines
unfolding settled_after
settled_shape text Nothing e = refl
settled_shape [] (Bytes {text = bytes} {inlines = inlines} {items = items} some more) e =
    settled-one_by_one [] bytes items ∙ settled_shape bytes more refl ∙ nonempty_before bytes inlines some
settled_shape (b ∷ bs) (Bytes some more) e = absurd (false≢true (sym e))
settled_shape text (Whole {text_first = text_first} {inline = inline} more) e = ap (λ t. text_before text (inline ∷ t)) (settled_shape [] more (and_right text_first false refl))
settled_shape text (Link {text_first = text_first} {inline = inline} more) e = ap (λ t. text_before text (inline ∷ t)) (settled_shape [] more (and_right text_first false refl))

pub settled_is : {text_first : Bool} {inlines : List Inline} {items : List Item} → Shape false text_first inlines items → settled items ≡ inlines
settled_is {text_first} shape = settled_shape [] shape (and_right text_first false refl)

-- ---- items that are done

done_append : (xs ys : List Item) → AllDone xs → AllDone ys → AllDone (xs ++ ys)
unfolding AllDone
done_append [] ys h k = k
done_append (x ∷ xs) ys h k = (h.0, done_append xs ys h.1 k)

done_bytes : (text : List ℕ) → AllDone (one_by_one text)
unfolding AllDone
done_bytes [] = tt
done_bytes (b ∷ bs) = (tt, done_bytes bs)

done_reverse : (xs : List Item) → AllDone xs → AllDone (reverse xs)
unfolding AllDone
done_reverse [] h = tt
done_reverse (x ∷ xs) h = subst AllDone (sym (reverse-append (x ∷ []) xs)) (done_append (reverse xs) (x ∷ []) (done_reverse xs h.1) (h.0, tt))

done_shape : {text_first : Bool} {inlines : List Inline} {items : List Item} → Shape false text_first inlines items → AllDone items
unfolding AllDone
done_shape Nothing = tt
done_shape (Bytes {text = text} {items = items} some more) = done_append (one_by_one text) items (done_bytes text) (done_shape more)
done_shape (Whole more) = (tt, done_shape more)
done_shape (Link more) = (tt, done_shape more)

-- no opener is among them, and no closer
no_opener : (closer : Run) (xs inside : List Item) → AllDone xs → nearest_opener closer xs inside ≡ None
unfolding nearest_opener AllDone
no_opener closer [] inside h = refl
no_opener closer (Characters text ∷ xs) inside h = no_opener closer xs (Characters text ∷ inside) h.1
no_opener closer (Finished inline ∷ xs) inside h = no_opener closer xs (Finished inline ∷ inside) h.1
no_opener closer (Linked inline ∷ xs) inside h = no_opener closer xs (Linked inline ∷ inside) h.1
no_opener closer (Delimiters run ∷ xs) inside h = absurd h.0
no_opener closer (Opener image source ∷ xs) inside h = absurd h.0

no_closer : (xs before : List Item) → AllDone xs → pair_leftmost before xs ≡ None
unfolding pair_leftmost AllDone
no_closer [] before h = refl
no_closer (Characters text ∷ xs) before h = no_closer xs (Characters text ∷ before) h.1
no_closer (Finished inline ∷ xs) before h = no_closer xs (Finished inline ∷ before) h.1
no_closer (Linked inline ∷ xs) before h = no_closer xs (Linked inline ∷ before) h.1
no_closer (Delimiters run ∷ xs) before h = absurd h.0
no_closer (Opener image source ∷ xs) before h = absurd h.0

-- the search for an opener passes them
opener_past : (closer : Run) (xs before inside : List Item) → AllDone xs → nearest_opener closer (xs ++ before) inside ≡ nearest_opener closer before (reverse xs ++ inside)
unfolding nearest_opener AllDone
opener_past closer [] before inside h = refl
opener_past closer (Characters text ∷ xs) before inside h = opener_past closer xs before (Characters text ∷ inside) h.1 ∙ ap (nearest_opener closer before) (sym (reverse-first (Characters text) xs inside))
opener_past closer (Finished inline ∷ xs) before inside h = opener_past closer xs before (Finished inline ∷ inside) h.1 ∙ ap (nearest_opener closer before) (sym (reverse-first (Finished inline) xs inside))
opener_past closer (Linked inline ∷ xs) before inside h = opener_past closer xs before (Linked inline ∷ inside) h.1 ∙ ap (nearest_opener closer before) (sym (reverse-first (Linked inline) xs inside))
opener_past closer (Delimiters run ∷ xs) before inside h = absurd h.0
opener_past closer (Opener image source ∷ xs) before inside h = absurd h.0

-- ---- pairing

-- the runs around a content match
runs_match : (mark : Mark) (opens closes : Bool) → (true && delimiters_match (closing mark opens) (opening mark closes)) ≡ true
unfolding delimiters_match
runs_match Star true true = refl
runs_match Star true false = refl
runs_match Star false true = refl
runs_match Star false false = refl
runs_match TwoStars true true = refl
runs_match TwoStars true false = refl
runs_match TwoStars false true = refl
runs_match TwoStars false false = refl
runs_match TwoTildes opens closes = refl

-- nothing is left of them
paired_is : (mark : Mark) (opens closes : Bool) (done inside after : List Item)
    → paired done (opening mark closes) inside (closing mark opens) after ≡ done ++ (Finished (emphasis mark (settled inside)) ∷ after)
unfolding paired
paired_is Star opens closes done inside after = ap (λ t. t ++ (Finished (emphasis Star (settled inside)) ∷ []) ++ after) (append-nil done) ∙ append_assoc done (Finished (emphasis Star (settled inside)) ∷ []) after
paired_is TwoStars opens closes done inside after = ap (λ t. t ++ (Finished (emphasis TwoStars (settled inside)) ∷ []) ++ after) (append-nil done) ∙ append_assoc done (Finished (emphasis TwoStars (settled inside)) ∷ []) after
paired_is TwoTildes opens closes done inside after = ap (λ t. t ++ (Finished (emphasis TwoTildes (settled inside)) ∷ []) ++ after) (append-nil done) ∙ append_assoc done (Finished (emphasis TwoTildes (settled inside)) ∷ []) after

-- the leftmost pair is that of the runs around the first content
pairs_first : (done inside after : List Item) (mark : Mark) (opens closes : Bool) → AllDone done → AllDone inside
    → pair_once (done ++ Delimiters (opening mark closes) ∷ inside ++ Delimiters (closing mark opens) ∷ after) ≡ Some (done ++ (Finished (emphasis mark (settled inside)) ∷ after))
pairs_first done inside after mark opens closes h k =
    let first = opening mark closes in
    let second = closing mark opens in
    let back : List Item = reverse done ++ [] in
    ap pair_once (append_assoc done (Delimiters first ∷ inside) (Delimiters second ∷ after))
    ∙ leftmost-skips done (Delimiters first ∷ inside ++ Delimiters second ∷ after) [] (no_closer done [] h)
    ∙ leftmost-no_opener first back (inside ++ Delimiters second ∷ after) (no_opener first back [] (subst AllDone (sym (append-nil (reverse done))) (done_reverse done h)))
    ∙ leftmost-skips inside (Delimiters second ∷ after) (Delimiters first ∷ back) (no_closer inside (Delimiters first ∷ back) k)
    ∙ leftmost-pairs second (reverse inside ++ Delimiters first ∷ back) after _ refl
    (opener_past second (reverse inside) (Delimiters first ∷ back) [] (done_reverse inside k) ∙ nearest-found second first back (reverse (reverse inside) ++ []) (runs_match mark opens closes))
    ∙ ap Some (ap (λ t. paired (reverse back) first t second after) (append-nil (reverse (reverse inside)) ∙ reverse-reverse inside)
    ∙ ap (λ t. paired t first inside second after) (ap reverse (append-nil (reverse done)) ∙ reverse-reverse done)
    ∙ paired_is mark opens closes done inside after)

-- once all pairs are made, no run is left
record Flat (text_first : Bool) (inlines : List Inline) (items : List Item) : Type 0 where
  flat : List Item
  shape : Shape false text_first inlines flat
  pairs : (done : List Item) → AllDone done → pair_all (done ++ items) ≡ done ++ flat

pushed : (done : List Item) (item : Item) → AllDone done → IsDone item → AllDone (done ++ item ∷ [])
unfolding AllDone
pushed done item h k = done_append done (item ∷ []) h (k, tt)

-- after one item more
after_item : {text_first : Bool} {inlines : List Inline} {items : List Item} (item : Item) → IsDone item → (rest : Flat text_first inlines items)
    → (done : List Item) → AllDone done → pair_all (done ++ item ∷ items) ≡ done ++ item ∷ rest.flat
after_item {items = items} item is rest done h =
    ap pair_all (sym (append_assoc done (item ∷ []) items)) ∙ rest.pairs (done ++ item ∷ []) (pushed done item h is) ∙ append_assoc done (item ∷ []) rest.flat

flattened : {text_first : Bool} {inlines : List Inline} {items : List Item} → Shape true text_first inlines items → Flat text_first inlines items
flattened Nothing = record {
  flat = [];
  shape = Nothing;
  pairs = λ done h. ap pair_all (append-nil done) ∙ pair_all-stop done (no_closer done [] h) ∙ sym (append-nil done);
}
flattened (Bytes {text = text} {items = items} some more) =
    let rest = flattened more in
    record {
      flat = one_by_one text ++ rest.flat;
      shape = Bytes some rest.shape;
      pairs = λ done h. ap pair_all (sym (append_assoc done (one_by_one text) items))
          ∙ rest.pairs (done ++ one_by_one text) (done_append done (one_by_one text) h (done_bytes text)) ∙ append_assoc done (one_by_one text) rest.flat;
    }
flattened (Whole {inline = inline} more) = let rest = flattened more in record { flat = Finished inline ∷ rest.flat; shape = Whole rest.shape; pairs = after_item (Finished inline) tt rest }
flattened (Link {inline = inline} more) = let rest = flattened more in record { flat = Linked inline ∷ rest.flat; shape = Link rest.shape; pairs = after_item (Linked inline) tt rest }
flattened (Marked {content = content} {inside = inside} {items = items} mark opens closes within more) =
    let rest = flattened more in
    let made = Finished (emphasis mark content) in
    record {
      flat = made ∷ rest.flat;
      shape = Whole rest.shape;
      pairs = λ done h. ap pair_all (sym (append_assoc done (Delimiters (opening mark closes) ∷ inside) (Delimiters (closing mark opens) ∷ items)))
          ∙ pair_all-once _ _ (pairs_first done inside items mark opens closes h (done_shape within))
          ∙ ap (λ t. pair_all (done ++ (Finished (emphasis mark t) ∷ items))) (settled_is within)
          ∙ after_item made tt rest done h;
    }

-- what is made of the items is the inlines
pub emphasis_is : {text_first : Bool} {inlines : List Inline} {items : List Item} → Shape true text_first inlines items → emphasis_of items ≡ inlines
unfolding AllDone
emphasis_is shape = let rest = flattened shape in ap settled (rest.pairs [] tt) ∙ settled_is rest.shape
