-- A closer's search from the last entry on, and what its pair does to the entries and to the events.
use Rattle.cm_inline.proofs.lemmas.Words.{◌≡◌, ℕ, ◌≤◌, Bool, true, false, cond, nat_le, ◌&&◌, List, [], ◌∷◌, ◌++◌, reverse, Some, None, refl, sym, ap, subst, ◌∙◌}
use Rattle.cm_inline.proofs.lemmas.Words.{arith, append_assoc, reverse-append, reverse-reverse, leb-true, Run, delimiters_match, Item, Finished, Delimiters}
use Rattle.cm_inline.proofs.lemmas.Words.{nearest_opener, used, emphasised, settled, without, up_to_pair, opened_at, rules}
use Rattle.cm_inline.specs.steps.Entries.{Entry, answers}
use Rattle.cm_inline.specs.steps.Searching.{NoneAnswers}
use Rattle.cm_inline.proofs.lemmas.BottomLemmas.{NoOpener, nearest-none, nearest-at}
use Rattle.cm_inline.specs.steps.pairing.Events.{Event, Rest, Tag, Start, End, tag_of}
use Rattle.cm_inline.specs.steps.pairing.Readings.{StandFor}
use Rattle.cm_inline.specs.steps.pairing.Stacks.{NoneOpens, Stacked, taken, rest_of}
use Rattle.cm_inline.proofs.lemmas.ReadingLemmas.{reads-append, reads-none, reads-rest, reads-empty, reads-pair}

-- items with the last first
pub holds-append : (fs gs : List Event) (items more : List Item) → StandFor fs (reverse items) → StandFor gs (reverse more) → StandFor (fs ++ gs) (reverse (more ++ items))
holds-append fs gs items more f g = subst (StandFor (fs ++ gs)) (sym (reverse-append more items)) (reads-append fs gs (reverse items) (reverse more) f g)

none-append : (xs ys : List Item) → NoneOpens xs → NoneOpens ys → NoneOpens (xs ++ ys)
unfolding NoneOpens
none-append [] ys p q = q
none-append (x ∷ xs) ys p q = (p.0, none-append xs ys p.1 q)

no-append : (c : Run) (xs ys : List Item) → NoOpener c xs → NoOpener c ys → NoOpener c (xs ++ ys)
unfolding NoOpener
no-append c [] ys p q = q
no-append c (x ∷ xs) ys p q = (p.0, no-append c xs ys p.1 q)

none-no : (c : Run) (xs : List Item) → NoneOpens xs → NoOpener c xs
unfolding NoneOpens NoOpener
none-no c [] p = tt
none-no c (Delimiters r ∷ xs) p = (ap (λ b. b && delimiters_match c r) p.0, none-no c xs p.1)
none-no c (_ ∷ xs) p = (refl, none-no c xs p.1)

-- what doesn't open goes after the last entry
pub stacked-more : (es : List Entry) (fs gs : List Event) (items more : List Item) → Stacked es fs items → StandFor gs (reverse more) → NoneOpens more → Stacked es (fs ++ gs) (more ++ items)
stacked-more [] fs gs items more s g n = (holds-append fs gs items more s.0 g, none-append more items n s.1)
stacked-more (e ∷ es) fs gs items more s g n = record {
  front = s.front;
  back = s.back ++ gs;
  low = s.low;
  inside = more ++ s.inside;
  events = ap (λ t. t ++ gs) s.events ∙ append_assoc s.front (Rest e.place e.run ∷ s.back) gs;
  whole = ap (λ t. more ++ t) s.whole ∙ sym (append_assoc more s.inside (Delimiters e.run ∷ s.low));
  means = holds-append s.back gs s.inside more s.means g;
  none = none-append more s.inside n s.none;
  may = s.may;
  below = s.below;
}

-- a run that may open becomes the last entry
pub stacked-push : (e : Entry) (es : List Entry) (fs : List Event) (items : List Item) → Stacked es fs items → e.run.opens ≡ true → Stacked (e ∷ es) (fs ++ Rest e.place e.run ∷ []) (Delimiters e.run ∷ items)
unfolding NoneOpens
stacked-push e es fs items s h = record { front = fs; back = []; low = items; inside = []; events = refl; whole = refl; means = reads-none; none = tt; may = h; below = s }

-- an entry with those above it as text
pub record Found (c : Run) (e : Entry) (below : List Entry) (fs : List Event) (items : List Item) : Type 0 where
  pub front : List Event
  pub back : List Event
  pub low : List Item
  pub inside : List Item
  pub events : fs ≡ front ++ Rest e.place e.run ∷ back
  pub whole : items ≡ inside ++ Delimiters e.run ∷ low
  pub means : StandFor back (reverse inside)
  pub none : NoOpener c inside
  pub may : e.run.opens ≡ true
  pub stacked : Stacked below front low

-- the entries above are taken out
pub stacked-found : (c : Run) (passed : List Entry) (e : Entry) (below : List Entry) (fs : List Event) (items : List Item) → Stacked (passed ++ e ∷ below) fs items → NoneAnswers c passed → Found c e below fs items
unfolding NoOpener
stacked-found c [] e below fs items s h =
    record { front = s.front; back = s.back; low = s.low; inside = s.inside; events = s.events; whole = s.whole; means = s.means; none = none-no c s.inside s.none; may = s.may; stacked = s.below }
stacked-found c (x ∷ xs) e below fs items s h = go (stacked-found c xs e below s.front s.low s.below h.1)
  where
    here : (f : Found c e below s.front s.low) → NoOpener c (Delimiters x.run ∷ f.inside)
    here f = (h.0, f.none)

    go : Found c e below s.front s.low → Found c e below fs items
    go f = record {
      front = f.front;
      back = (f.back ++ Rest x.place x.run ∷ []) ++ s.back;
      low = f.low;
      inside = s.inside ++ Delimiters x.run ∷ f.inside;
      events = s.events ∙ ap (λ t. t ++ Rest x.place x.run ∷ s.back) f.events ∙ append_assoc f.front (Rest e.place e.run ∷ f.back) (Rest x.place x.run ∷ s.back)
          ∙ ap (λ t. f.front ++ Rest e.place e.run ∷ t) (sym (append_assoc f.back (Rest x.place x.run ∷ []) s.back));
      whole = s.whole ∙ ap (λ t. s.inside ++ Delimiters x.run ∷ t) f.whole ∙ sym (append_assoc s.inside (Delimiters x.run ∷ f.inside) (Delimiters e.run ∷ f.low));
      means = holds-append (f.back ++ Rest x.place x.run ∷ []) s.back (Delimiters x.run ∷ f.inside) s.inside
          (holds-append f.back (Rest x.place x.run ∷ []) f.inside (Delimiters x.run ∷ []) f.means (reads-rest x.place x.run)) s.means;
      none = no-append c s.inside (Delimiters x.run ∷ f.inside) (none-no c s.inside s.none) (here f);
      may = f.may;
      stacked = f.stacked;
    }

pub stacked-no : (c : Run) (es : List Entry) (fs : List Event) (items : List Item) → Stacked es fs items → NoneAnswers c es → NoOpener c items
unfolding NoOpener
stacked-no c [] fs items s h = none-no c items s.1
stacked-no c (e ∷ es) fs items s h = search (rules, no-append, none-no, (stacked-no c es s.front s.low s.below h.1))

-- so the search of the list finds what the definition finds
pub found-nearest : (c : Run) (e : Entry) (below : List Entry) (fs : List Event) (items : List Item) (f : Found c e below fs items) → answers c e ≡ true → nearest_opener c items [] ≡ Some (opened_at e.run f.low (reverse f.inside))
found-nearest c e below fs items f a = ap (λ l. nearest_opener c l []) f.whole ∙ nearest-at c e.run f.inside f.low f.none a

pub none-nearest : (c : Run) (es : List Entry) (fs : List Event) (items : List Item) → Stacked es fs items → NoneAnswers c es → nearest_opener c items [] ≡ None
none-nearest c es fs items s h = nearest-none c items [] (stacked-no c es fs items s h)

-- The pair: a start after what is left of the opener, and an end after all.
abbrev pub pair_events : (c : Run) (e : Entry) (below : List Entry) (fs : List Event) (items : List Item) → Found c e below fs items → List Event
pair_events c e below fs items f =
    (f.front ++ Rest e.place (taken (used e.run c) e.run) ∷ []) ++ (Start (tag_of c.character (used e.run c)) ∷ f.back ++ End (tag_of c.character (used e.run c)) ∷ [])

abbrev pub pair_items : Run → Run → (low inside : List Item) → List Item
pair_items c o low inside = Finished (emphasised c.character (used o c) (settled (reverse inside))) ∷ (without (used o c) o ++ low)

without-reversed : (n : ℕ) (r : Run) → reverse (without n r) ≡ without n r
without-reversed n r = elim (nat_le r.left n) as (λ b. reverse (cond b [] (Delimiters (taken n r) ∷ [])) ≡ cond b [] (Delimiters (taken n r) ∷ [])) [ true ↦ refl | false ↦ refl ]

pub pair-items : (c o : Run) (low inside : List Item) → reverse (up_to_pair (opened_at o low (reverse inside)) c) ≡ pair_items c o low inside
pair-items c o low inside =
    let made = Finished (emphasised c.character (used o c) (settled (reverse inside))) in
    reverse-append (reverse low ++ without (used o c) o) (made ∷ [])
    ∙ ap (λ t. made ∷ t) (reverse-append (reverse low) (without (used o c) o) ∙ ap (λ t. t ++ reverse (reverse low)) (without-reversed (used o c) o) ∙ ap (λ t. without (used o c) o ++ t) (reverse-reverse low))

pub pair-stacked : (c : Run) (e : Entry) (below : List Entry) (fs : List Event) (items : List Item) (f : Found c e below fs items) →
    Stacked (rest_of (used e.run c) e ++ below) (pair_events c e below fs items f) (pair_items c e.run f.low f.inside)
unfolding NoneOpens
pair-stacked c e below fs items f = go (nat_le e.run.left count) refl
  where
    count : ℕ
    count = used e.run c

    tag : Tag
    tag = tag_of c.character count

    made : Item
    made = Finished (emphasised c.character count (settled (reverse f.inside)))

    one : NoneOpens (made ∷ [])
    one = (refl, tt)

    nothing : NoneOpens []
    nothing = tt

    wrapped : StandFor (Start tag ∷ f.back ++ End tag ∷ []) (made ∷ [])
    wrapped = reads-pair f.back (reverse f.inside) c.character count f.means

    left : Event
    left = Rest e.place (taken count e.run)

    go : (b : Bool) → nat_le e.run.left count ≡ b →
        Stacked (cond b [] (record e { run = taken count e.run } ∷ []) ++ below) ((f.front ++ left ∷ []) ++ (Start tag ∷ f.back ++ End tag ∷ [])) (made ∷ (cond b [] (Delimiters (taken count e.run) ∷ []) ++ f.low))
    go true h =
        let few : e.run.left ≤ count = leb-true e.run.left count h in
        stacked-more below (f.front ++ left ∷ []) (Start tag ∷ f.back ++ End tag ∷ []) f.low (made ∷ [])
        (stacked-more below f.front (left ∷ []) f.low [] f.stacked (reads-empty e.place (taken count e.run) (omega (arith, few))) nothing) wrapped one
    go false h =
        stacked-more (record e { run = taken count e.run } ∷ below) (f.front ++ left ∷ []) (Start tag ∷ f.back ++ End tag ∷ []) (Delimiters (taken count e.run) ∷ f.low) (made ∷ [])
        (stacked-push (record e { run = taken count e.run }) below f.front f.low f.stacked f.may) wrapped one
