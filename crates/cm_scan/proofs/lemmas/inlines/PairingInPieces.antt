-- Emphasis of items whose texts are in pieces.
use Rattle.std.proofs.Common.{◌≡◌, ℕ, zero, suc, ◌-◌, Bool, true, false, ◌&&◌, List, [], ◌∷◌, ◌++◌, reverse, Option, Some, None, refl, sym, ap, ◌∙◌, arith, append_assoc, append-nil}
use Rattle.std.specs.Prelude.{sum_by, nat_le, option_map, if◌then◌else◌}
use Rattle.std.specs.List.{flat_map}
use Rattle.std.proofs.lemmas.List.{reverse-append, reverse-reverse}
use Rattle.std.proofs.lemmas.List.Concat.{flat_map-append}
use Rattle.std.proofs.lemmas.List.Sums.{sum_by-cons, sum_by-append}
use Rattle.cm_tree.specs.declared.tree.Inline.{Inline}
use Rattle.cm_scan.specs.inlines.Delimiters.{Run, delimiters_match}
use Rattle.cm_scan.specs.inlines.Pairing.{Item, Characters, Finished, Linked, Delimiters, Opener, text_before, settled_after, settled, used, emphasised, without, paired, Opened, nearest_opener, pair_leftmost, pair_once, pairs_within, room, pair_all}
use Rattle.cm_scan.specs.inlines.Pieces.{one_by_one, pieces_of, in_pieces, TextsInPieces}

-- the same with the last first
abbrev pub back_pieces : Item → List Item
back_pieces item = reverse (pieces_of item)

abbrev pub back : List Item → List Item
back items = flat_map back_pieces items

-- what comes of the items before an opener, and between it and its closer
opened_in_pieces : Opened → Opened
opened_in_pieces found = record { before = in_pieces found.before; opener = found.opener; inside = in_pieces found.inside }

pub back-forward : (items : List Item) → reverse (back items) ≡ in_pieces (reverse items)
back-forward [] = refl
back-forward (item ∷ items) =
    reverse-append (reverse (pieces_of item)) (back items)
    ∙ ap (λ t. t ++ reverse (reverse (pieces_of item))) (back-forward items) ∙ ap (λ t. in_pieces (reverse items) ++ t) (reverse-reverse (pieces_of item))
    ∙ sym (ap in_pieces (reverse-append (item ∷ []) items) ∙ flat_map-append pieces_of (reverse items) (item ∷ [])
    ∙ ap (λ t. in_pieces (reverse items) ++ t) (append-nil (pieces_of item)))

-- texts settle as they were

pub settled-one_by_one : (before text : List ℕ) (items : List Item) → settled_after before (one_by_one text ++ items) ≡ settled_after (before ++ text) items
unfolding settled_after
settled-one_by_one before [] items = ap (λ t. settled_after t items) (sym (append-nil before))
settled-one_by_one before (b ∷ bs) items = settled-one_by_one (before ++ b ∷ []) bs items ∙ ap (λ t. settled_after t items) (append_assoc before (b ∷ []) bs)

pub settled-pieces : (before : List ℕ) (items : List Item) → settled_after before (in_pieces items) ≡ settled_after before items
unfolding settled_after
settled-pieces before [] = refl
settled-pieces before (Characters text ∷ items) = settled-one_by_one before text (in_pieces items) ∙ settled-pieces (before ++ text) items
settled-pieces before (Finished inline ∷ items) = ap (λ made. text_before before (inline ∷ made)) (settled-pieces [] items)
settled-pieces before (Linked inline ∷ items) = ap (λ made. text_before before (inline ∷ made)) (settled-pieces [] items)
settled-pieces before (Delimiters run ∷ items) = settled-pieces _ items
settled-pieces before (Opener image source ∷ items) = settled-pieces _ items

-- an opener is found past texts

past-texts : (closer : Run) (text : List ℕ) (before inside : List Item) → nearest_opener closer (reverse (one_by_one text) ++ before) inside ≡ nearest_opener closer before (one_by_one text ++ inside)
unfolding nearest_opener
past-texts closer [] before inside = refl
past-texts closer (b ∷ bs) before inside =
    ap (λ t. nearest_opener closer (t ++ before) inside) (reverse-append (Characters (b ∷ []) ∷ []) (one_by_one bs))
    ∙ ap (λ t. nearest_opener closer t inside) (append_assoc (reverse (one_by_one bs)) (Characters (b ∷ []) ∷ []) before)
    ∙ past-texts closer bs (Characters (b ∷ []) ∷ before) inside

found-in-pieces : (closer : Run) (before inside : List Item) → nearest_opener closer (back before) (in_pieces inside) ≡ option_map opened_in_pieces (nearest_opener closer before inside)
unfolding nearest_opener opened_in_pieces
found-in-pieces closer [] inside = refl
found-in-pieces closer (Characters text ∷ before) inside = past-texts closer text (back before) (in_pieces inside) ∙ found-in-pieces closer before (Characters text ∷ inside)
found-in-pieces closer (Finished inline ∷ before) inside = found-in-pieces closer before (Finished inline ∷ inside)
found-in-pieces closer (Linked inline ∷ before) inside = found-in-pieces closer before (Linked inline ∷ inside)
found-in-pieces closer (Opener image source ∷ before) inside = found-in-pieces closer before (Opener image source ∷ inside)
found-in-pieces closer (Delimiters run ∷ before) inside = go (run.opens && delimiters_match closer run) (found-in-pieces closer before (Delimiters run ∷ inside))
  where
    go : (fits : Bool) → nearest_opener closer (back before) (Delimiters run ∷ in_pieces inside) ≡ option_map opened_in_pieces (nearest_opener closer before (Delimiters run ∷ inside))
        → elim fits as (λ _. Option Opened) [
          | true ↦ Some (record { before = reverse (back before); opener = run; inside = in_pieces inside })
          | false ↦ nearest_opener closer (back before) (Delimiters run ∷ in_pieces inside)
        ] ≡ option_map opened_in_pieces (elim fits as (λ _. Option Opened) [
          | true ↦ Some (record { before = reverse before; opener = run; inside = inside })
          | false ↦ nearest_opener closer before (Delimiters run ∷ inside)
        ])
    go true e = ap (λ t. Some (record { before = t; opener = run; inside = in_pieces inside })) (back-forward before)
    go false e = e

-- a pair

without-pieces : (count : ℕ) (run : Run) → in_pieces (without count run) ≡ without count run
without-pieces count run = go (nat_le run.left count)
  where
    shorter : List Item
    shorter = Delimiters (record run { left = run.left - count }) ∷ []

    go : (all : Bool) → in_pieces (if all then [] else shorter) ≡ (if all then [] else shorter)
    go true = refl
    go false = refl

paired-in-pieces : (before inside after : List Item) (opener closer : Run) → paired (in_pieces before) opener (in_pieces inside) closer (in_pieces after) ≡ in_pieces (paired before opener inside closer after)
unfolding paired
paired-in-pieces before inside after opener closer =
    ap (λ content. in_pieces before ++ without count opener ++ (made content ∷ without count closer) ++ in_pieces after) (settled-pieces [] inside)
    ∙ sym (flat_map-append pieces_of (before ++ without count opener ++ (made (settled inside) ∷ without count closer)) after
    ∙ ap (λ t. t ++ in_pieces after) (flat_map-append pieces_of (before ++ without count opener) (made (settled inside) ∷ without count closer)
    ∙ ap (λ t. t ++ (made (settled inside) ∷ in_pieces (without count closer))) (flat_map-append pieces_of before (without count opener)
    ∙ ap (λ t. in_pieces before ++ t) (without-pieces count opener))
    ∙ ap (λ t. in_pieces before ++ without count opener ++ (made (settled inside) ∷ t)) (without-pieces count closer)))
  where
    count : ℕ
    count = used opener closer

    made : List Inline → Item
    made content = Finished (emphasised closer.character count content)

over-texts : (text : List ℕ) (before after : List Item) → pair_leftmost before (one_by_one text ++ after) ≡ pair_leftmost (reverse (one_by_one text) ++ before) after
unfolding pair_leftmost
over-texts [] before after = refl
over-texts (b ∷ bs) before after =
    over-texts bs (Characters (b ∷ []) ∷ before) after
    ∙ sym (ap (λ t. pair_leftmost (t ++ before) after) (reverse-append (Characters (b ∷ []) ∷ []) (one_by_one bs))
    ∙ ap (λ t. pair_leftmost t after) (append_assoc (reverse (one_by_one bs)) (Characters (b ∷ []) ∷ []) before))

leftmost-in-pieces : (before after : List Item) → pair_leftmost (back before) (in_pieces after) ≡ option_map in_pieces (pair_leftmost before after)
unfolding pair_leftmost opened_in_pieces
leftmost-in-pieces before [] = refl
leftmost-in-pieces before (Characters text ∷ after) = over-texts text (back before) (in_pieces after) ∙ leftmost-in-pieces (Characters text ∷ before) after
leftmost-in-pieces before (Finished inline ∷ after) = leftmost-in-pieces (Finished inline ∷ before) after
leftmost-in-pieces before (Linked inline ∷ after) = leftmost-in-pieces (Linked inline ∷ before) after
leftmost-in-pieces before (Opener image source ∷ after) = leftmost-in-pieces (Opener image source ∷ before) after
leftmost-in-pieces before (Delimiters run ∷ after) = go run.closes (leftmost-in-pieces (Delimiters run ∷ before) after)
  where
    rest : Option (List Item)
    rest = pair_leftmost (Delimiters run ∷ before) after

    rest_in_pieces : Option (List Item)
    rest_in_pieces = pair_leftmost (Delimiters run ∷ back before) (in_pieces after)

    by : Option Opened → Option (List Item)
    by o = elim o as (λ _. Option (List Item)) [ Some found ↦ Some (paired found.before found.opener found.inside run (in_pieces after)) | None ↦ rest_in_pieces ]

    each : (o : Option Opened) → rest_in_pieces ≡ option_map in_pieces rest
        → by (option_map opened_in_pieces o)
        ≡ option_map in_pieces (elim o as (λ _. Option (List Item)) [ Some found ↦ Some (paired found.before found.opener found.inside run after) | None ↦ rest ])
    each None e = e
    each (Some found) e = ap (λ t. Some t) (paired-in-pieces found.before found.inside after found.opener run)

    go : (closes : Bool) → rest_in_pieces ≡ option_map in_pieces rest
        → elim closes as (λ _. Option (List Item)) [ true ↦ by (nearest_opener run (back before) []) | false ↦ rest_in_pieces ]
        ≡ option_map in_pieces (elim closes as (λ _. Option (List Item)) [
          | true ↦ elim (nearest_opener run before []) as (λ _. Option (List Item)) [ Some found ↦ Some (paired found.before found.opener found.inside run after) | None ↦ rest ]
          | false ↦ rest
        ])
    go true e = ap by (found-in-pieces run before []) ∙ each (nearest_opener run before []) e
    go false e = e

-- all pairs

pairs-in-pieces : (n : ℕ) (items : List Item) → pairs_within n (in_pieces items) ≡ in_pieces (pairs_within n items)
unfolding pairs_within
pairs-in-pieces zero items = refl
pairs-in-pieces (suc n) items = ap by (leftmost-in-pieces [] items) ∙ go (pair_once items) (λ more. pairs-in-pieces n more)
  where
    by : Option (List Item) → List Item
    by o = elim o as (λ _. List Item) [ Some more ↦ pairs_within n more | None ↦ in_pieces items ]

    go : (o : Option (List Item)) → ((more : List Item) → pairs_within n (in_pieces more) ≡ in_pieces (pairs_within n more))
        → by (option_map in_pieces o) ≡ in_pieces (elim o as (λ _. List Item) [ Some more ↦ pairs_within n more | None ↦ items ])
    go None k = refl
    go (Some more) k = k more

-- texts have no room for pairs

pub no-room : (text : List ℕ) → sum_by room (one_by_one text) ≡ 0
no-room [] = refl
no-room (b ∷ bs) = omega (arith, sum_by-cons room (Characters (b ∷ [])) (one_by_one bs), no-room bs)

item-room : (item : Item) → sum_by room (pieces_of item) ≡ room item
item-room (Characters text) = no-room text
item-room (Finished inline) = refl
item-room (Linked inline) = refl
item-room (Opener image source) = refl
item-room (Delimiters run) = omega (arith, sum_by-cons room (Delimiters run) [])

same-room : (items : List Item) → sum_by room (in_pieces items) ≡ sum_by room items
same-room [] = refl
same-room (item ∷ items) =
    let whole = sum_by-append room (pieces_of item) (in_pieces items) in
    let first = sum_by-cons room item items in
    omega (arith, whole, first, item-room item, same-room items)

pub texts_in_pieces : TextsInPieces
unfolding pair_all
texts_in_pieces items =
    ap (λ n. settled (pairs_within n (in_pieces items))) (same-room items)
    ∙ ap settled (pairs-in-pieces (sum_by room items) items)
    ∙ settled-pieces [] (pairs_within (sum_by room items) items)
