-- Reading after items whose texts are in pieces.
use Rattle.std.proofs.Common.{◌≡◌, ℕ, zero, suc, ◌-◌, Bool, true, false, not, ◌&&◌, List, [], ◌∷◌, ◌++◌, length, reverse, Option, Some, None, refl, sym, ap, subst, ◌∙◌, append_assoc}
use Rattle.std.specs.Prelude.{option_map, if◌then◌else◌}
use Rattle.std.proofs.lemmas.List.{reverse-append, reverse-reverse}
use Rattle.std.proofs.lemmas.List.Concat.{flat_map-append}
use Rattle.cm_text.specs.Rules.{Rules}
use Rattle.cm_tree.specs.declared.tree.Inline.TheVariants.{Link, Image}
use Rattle.cm_scan.specs.inlines.Pairing.{Item, Characters, Finished, Linked, Delimiters, Opener, bracket_text, emphasis_of}
use Rattle.cm_scan.specs.inlines.Atoms.{Atom, Plain, Whole, Delimiter, OpenBracket, CloseBracket, atom_at}
use Rattle.cm_scan.specs.inlines.Brackets.{LinkEnd, Defined, end_at, OpenerFound, last_opener, holds_link, made, Bracketed, bracket_is_text, brackets_are_text, source_up_to, closed_by_bracket, close_bracket}
use Rattle.cm_scan.specs.inlines.Inlines.{add_atom, item_step, items_after}
use Rattle.cm_scan.specs.inlines.Pieces.{one_by_one, pieces_of, in_pieces, ReadingInPieces}
use Rattle.cm_scan.proofs.lemmas.inlines.PairingInPieces.{back_pieces, back, back-forward, texts_in_pieces}

-- what is in pieces stays unchanged

one_by_one-again : (text : List ℕ) → in_pieces (one_by_one text) ≡ one_by_one text
one_by_one-again [] = refl
one_by_one-again (b ∷ bs) = ap (λ t. Characters (b ∷ []) ∷ t) (one_by_one-again bs)

piece-again : (item : Item) → in_pieces (pieces_of item) ≡ pieces_of item
piece-again (Characters text) = one_by_one-again text
piece-again (Finished inline) = refl
piece-again (Linked inline) = refl
piece-again (Delimiters run) = refl
piece-again (Opener image source) = refl

again : (items : List Item) → in_pieces (in_pieces items) ≡ in_pieces items
again [] = refl
again (item ∷ items) =
    flat_map-append pieces_of (pieces_of item) (in_pieces items) ∙ ap (λ t. t ++ in_pieces (in_pieces items)) (piece-again item)
    ∙ ap (λ t. pieces_of item ++ t) (again items)

-- the last first, or the first first
pub back-is : (items : List Item) → back items ≡ reverse (in_pieces (reverse items))
back-is items = sym (reverse-reverse (back items)) ∙ ap reverse (back-forward items)

back-reversed : (items : List Item) → back (reverse items) ≡ reverse (in_pieces items)
back-reversed items = back-is (reverse items) ∙ ap (λ t. reverse (in_pieces t)) (reverse-reverse items)

back-again : (items : List Item) → back (back items) ≡ back items
back-again items = ap back (back-is items) ∙ back-reversed (in_pieces (reverse items)) ∙ ap reverse (again (reverse items)) ∙ sym (back-is items)

-- the nearest opener of a bracket

opener_in_pieces : OpenerFound → OpenerFound
opener_in_pieces found = record { before = back found.before; image = found.image; source = found.source; inside = in_pieces found.inside }

opener-past-texts : (text : List ℕ) (before inside : List Item) → last_opener (reverse (one_by_one text) ++ before) inside ≡ last_opener before (one_by_one text ++ inside)
unfolding last_opener
opener-past-texts [] before inside = refl
opener-past-texts (b ∷ bs) before inside =
    ap (λ t. last_opener (t ++ before) inside) (reverse-append (Characters (b ∷ []) ∷ []) (one_by_one bs))
    ∙ ap (λ t. last_opener t inside) (append_assoc (reverse (one_by_one bs)) (Characters (b ∷ []) ∷ []) before)
    ∙ opener-past-texts bs (Characters (b ∷ []) ∷ before) inside

opener-in-pieces : (items inside : List Item) → last_opener (back items) (in_pieces inside) ≡ option_map opener_in_pieces (last_opener items inside)
unfolding last_opener opener_in_pieces
opener-in-pieces [] inside = refl
opener-in-pieces (Opener image source ∷ before) inside = refl
opener-in-pieces (Characters text ∷ before) inside = opener-past-texts text (back before) (in_pieces inside) ∙ opener-in-pieces before (Characters text ∷ inside)
opener-in-pieces (Finished inline ∷ before) inside = opener-in-pieces before (Finished inline ∷ inside)
opener-in-pieces (Linked inline ∷ before) inside = opener-in-pieces before (Linked inline ∷ inside)
opener-in-pieces (Delimiters run ∷ before) inside = opener-in-pieces before (Delimiters run ∷ inside)

-- what is made of what is between

no-link : (text : List ℕ) (items : List Item) → holds_link (one_by_one text ++ items) ≡ holds_link items
unfolding holds_link
no-link [] items = refl
no-link (b ∷ bs) items = no-link bs items

same-link : (items : List Item) → holds_link (in_pieces items) ≡ holds_link items
unfolding holds_link
same-link [] = refl
same-link (Characters text ∷ items) = no-link text (in_pieces items) ∙ same-link items
same-link (Finished inline ∷ items) = same-link items
same-link (Linked inline ∷ items) = refl
same-link (Delimiters run ∷ items) = same-link items
same-link (Opener image source ∷ items) = same-link items

same-made : (image : Bool) (dest title : List ℕ) (inside : List Item) → made image dest title (in_pieces inside) ≡ made image dest title inside
same-made false dest title inside = ap (λ content. Linked (Link dest title content)) (texts_in_pieces inside)
same-made true dest title inside =
    ap (λ v. if v then Linked (Image dest title (emphasis_of (in_pieces inside))) else Finished (Image dest title (emphasis_of (in_pieces inside)))) (same-link inside)
    ∙ ap (λ content. if holds_link inside then Linked (Image dest title content) else Finished (Image dest title content)) (texts_in_pieces inside)

same-texts : (found : OpenerFound) → back (brackets_are_text (opener_in_pieces found)) ≡ back (brackets_are_text found)
unfolding opener_in_pieces
same-texts found =
    let opener = Characters (bracket_text found.image) in
    let after : back (reverse (in_pieces found.inside) ++ opener ∷ back found.before) ≡ back (reverse found.inside ++ opener ∷ found.before) =
    flat_map-append back_pieces (reverse (in_pieces found.inside)) (opener ∷ back found.before)
    ∙ ap (λ t. t ++ (back_pieces opener ++ back (back found.before))) (back-reversed (in_pieces found.inside) ∙ ap reverse (again found.inside) ∙ sym (back-reversed found.inside))
    ∙ ap (λ t. back (reverse found.inside) ++ (back_pieces opener ++ t)) (back-again found.before)
    ∙ sym (flat_map-append back_pieces (reverse found.inside) (opener ∷ found.before)) in
    ap (λ t. back_pieces (Characters (93 ∷ [])) ++ t) after

-- what two results have in common
pub record Alike (one other : Bracketed) : Type 0 where
  pub items : back one.items ≡ back other.items
  pub rest : one.rest ≡ other.rest

closed-alike : (rules : Rules) (defined : Defined) (found : OpenerFound) (rest : List ℕ) → Alike (closed_by_bracket rules defined (opener_in_pieces found) rest) (closed_by_bracket rules defined found rest)
unfolding closed_by_bracket opener_in_pieces
closed-alike rules defined found rest =
    subst (λ v. Alike (closed_in_pieces (not found.image && v) end) (closed (not found.image && holds_link found.inside) end)) (sym (same-link found.inside))
    (each (not found.image && holds_link found.inside) end)
  where
    end : Option LinkEnd
    end = end_at rules defined (source_up_to found.source (93 ∷ rest)) rest

    closed_in_pieces : Bool → Option LinkEnd → Bracketed
    closed_in_pieces v o = elim v as (λ _. Bracketed) [
      | true ↦ record { items = brackets_are_text (opener_in_pieces found); rest = rest }
      | false ↦ elim o as (λ _. Bracketed) [
        | Some end ↦ record { items = made found.image end.dest end.title (in_pieces found.inside) ∷ back found.before; rest = end.rest }
        | None ↦ record { items = brackets_are_text (opener_in_pieces found); rest = rest }
      ]
    ]

    closed : Bool → Option LinkEnd → Bracketed
    closed v o = elim v as (λ _. Bracketed) [
      | true ↦ record { items = brackets_are_text found; rest = rest }
      | false ↦ elim o as (λ _. Bracketed) [
        | Some end ↦ record { items = made found.image end.dest end.title found.inside ∷ found.before; rest = end.rest }
        | None ↦ record { items = brackets_are_text found; rest = rest }
      ]
    ]

    each : (v : Bool) (o : Option LinkEnd) → Alike (closed_in_pieces v o) (closed v o)
    each true o = record { items = same-texts found; rest = refl }
    each false None = record { items = same-texts found; rest = refl }
    each false (Some end) = record {
      items = ap (λ m. back_pieces m ++ back (back found.before)) (same-made found.image end.dest end.title found.inside)
          ∙ ap (λ t. back_pieces (made found.image end.dest end.title found.inside) ++ t) (back-again found.before);
      rest = refl;
    }

close-alike : (rules : Rules) (defined : Defined) (items : List Item) (rest : List ℕ) → Alike (close_bracket rules defined (back items) rest) (close_bracket rules defined items rest)
unfolding close_bracket
close-alike rules defined items rest = subst (λ o. Alike (by (back items) o) (by items (last_opener items []))) (sym (opener-in-pieces items [])) (each (last_opener items []))
  where
    by : List Item → Option OpenerFound → Bracketed
    by all o = elim o as (λ _. Bracketed) [ Some found ↦ closed_by_bracket rules defined found rest | None ↦ record { items = bracket_is_text all; rest = rest } ]

    each : (o : Option OpenerFound) → Alike (by (back items) (option_map opener_in_pieces o)) (by items o)
    each None = record { items = ap (λ t. back_pieces (Characters (93 ∷ [])) ++ t) (back-again items); rest = refl }
    each (Some found) = closed-alike rules defined found rest

-- what is the same in pieces continues alike

close-same : (rules : Rules) (defined : Defined) (items others : List Item) (rest : List ℕ) → back items ≡ back others → Alike (close_bracket rules defined items rest) (close_bracket rules defined others rest)
close-same rules defined items others rest e =
    let one = close-alike rules defined items rest in
    let other = close-alike rules defined others rest in
    record {
      items = sym one.items ∙ ap (λ t. back (close_bracket rules defined t rest).items) e ∙ other.items;
      rest = sym one.rest ∙ ap (λ t. (close_bracket rules defined t rest).rest) e ∙ other.rest;
    }

add-same : (rules : Rules) (defined : Defined) (items others : List Item) (atom : Atom) (rest : List ℕ) → back items ≡ back others → Alike (add_atom rules defined items atom rest) (add_atom rules defined others atom rest)
unfolding add_atom
add-same rules defined items others (Plain text) rest e = record { items = ap (λ t. back_pieces (Characters text) ++ t) e; rest = refl }
add-same rules defined items others (Whole inline) rest e = record { items = ap (λ t. Finished inline ∷ t) e; rest = refl }
add-same rules defined items others (Delimiter run) rest e = record { items = ap (λ t. Delimiters run ∷ t) e; rest = refl }
add-same rules defined items others (OpenBracket image) rest e = record { items = ap (λ t. Opener image rest ∷ t) e; rest = refl }
add-same rules defined items others CloseBracket rest e = close-same rules defined items others rest e

pub step-same : (rules : Rules) (defined : Defined) (before : List ℕ) (b : ℕ) (bs : List ℕ) (items others : List Item) → back items ≡ back others
    → Alike (item_step rules defined before b bs items) (item_step rules defined before b bs others)
unfolding item_step
step-same rules defined before b bs items others e = add-same rules defined items others (atom_at rules before b bs).atom (atom_at rules before b bs).rest e

read-same : (rules : Rules) (defined : Defined) (n : ℕ) (before source : List ℕ) (items others : List Item) → back items ≡ back others
    → back (items_after rules defined n before source items) ≡ back (items_after rules defined n before source others)
unfolding items_after
read-same rules defined n before [] items others e = e
read-same rules defined (suc n) before (b ∷ bs) items others e = read-same rules defined n (b ∷ before) bs items others e
read-same rules defined zero before (b ∷ bs) items others e =
    let one = item_step rules defined before b bs items in
    let other = item_step rules defined before b bs others in
    let alike = step-same rules defined before b bs items others e in
    ap (λ left. back (items_after rules defined (length bs - length left) (b ∷ before) bs one.items)) alike.rest
    ∙ read-same rules defined (length bs - length other.rest) (b ∷ before) bs one.items other.items alike.items

pub reading_in_pieces : ReadingInPieces
reading_in_pieces rules defined n before source items others same =
    sym (back-forward (items_after rules defined n before source items))
    ∙ ap reverse (read-same rules defined n before source items others (back-is items ∙ ap reverse same ∙ sym (back-is others)))
    ∙ back-forward (items_after rules defined n before source others)
