-- Reading a leaf cuts its source.
use Rattle.std.proofs.Common.{◌≡◌, ℕ, zero, suc, ◌-◌, ◌≤◌, Bool, true, false, not, ◌&&◌, List, [], ◌∷◌, ◌++◌, reverse, replicate, Option, Some, None, refl, sym, ap, subst, ◌∙◌, arith, append_assoc, append-nil, length, length-append}
use Rattle.std.specs.Prelude.{⊤, if◌then◌else◌, take}
use Rattle.std.proofs.lemmas.List.{reverse-append, reverse-reverse}
use Rattle.std.proofs.lemmas.Option.{same_Some}
use Rattle.cm_text.specs.Rules.{Rules}
use Rattle.cm_tree.specs.declared.tree.Inline.TheVariants.{Link, Image}
use Rattle.cm_scan.specs.inlines.Pairing.{Item, Characters, Finished, Linked, bracket_text, emphasis_of}
use Rattle.cm_scan.specs.inlines.Atoms.{Atom, Plain, Whole, Delimiter, OpenBracket, CloseBracket, atom_at}
use Rattle.cm_scan.specs.inlines.Brackets.{Defined, LinkEnd, end_at, OpenerFound, last_opener, holds_link, made, Bracketed, bracket_is_text, brackets_are_text, source_up_to, closed_by_bracket, close_bracket}
use Rattle.cm_scan.specs.inlines.Inlines as inlines
use Rattle.cm_scan.specs.inlines.Inlines.{add_atom, item_step, items_after}
use Rattle.cm_scan.specs.inlines.Cuts.{bracketed, atomic, Node, Nodes, inline_of, inlines_of, source_of, sources_of, first_atom, IsCut, AreCut}
use Rattle.cm_scan.specs.laws.CutLaws.{SourcesAreCut}
use Rattle.cm_scan.proofs.lemmas.texts.WordsGoOn.{none-some}
use Rattle.cm_scan.proofs.lemmas.texts.EndsOfTexts.{IsEnd}
use Rattle.cm_scan.proofs.lemmas.inlines.PairingLemmas.{reverse-first}
use Rattle.cm_scan.proofs.lemmas.inlines.LeftByEachStep.{end_at-end}
use Rattle.cm_scan.proofs.lemmas.inlines.ReadingSteps.{reading_goes_on}
use Rattle.cm_scan.proofs.lemmas.cuts.ResolvedTexts.{text-itself, bracket-itself}
use Rattle.cm_scan.proofs.lemmas.cuts.WrittenSpans.{front-of}
use Rattle.cm_scan.proofs.lemmas.cuts.AtomsTaken.{Took, atom-takes, whole-anywhere}
use Rattle.cm_scan.proofs.lemmas.cuts.PlacedItems.{Placed, characters, finished, linked, waiting, opener, item_of, piece_of, items_of, pieces_of, items-join, pieces-join, IsPlaced, ArePlaced, are-joined}
use Rattle.cm_scan.proofs.lemmas.cuts.PairingCuts.{Cuts, pairing-keeps}

-- Items in reverse

-- the source of placed items whose last comes first
unfoldable pub back_of : List Placed → List ℕ
back_of [] = []
back_of (p ∷ ps) = back_of ps ++ piece_of p

back-join : (ps qs : List Placed) → back_of (ps ++ qs) ≡ back_of qs ++ back_of ps
unfolding back_of
back-join [] qs = sym (append-nil (back_of qs))
back-join (p ∷ ps) qs = ap (λ t. t ++ piece_of p) (back-join ps qs) ∙ append_assoc (back_of qs) (back_of ps) (piece_of p)

back-reverse : (ps : List Placed) → back_of (reverse ps) ≡ pieces_of ps
unfolding back_of pieces_of
back-reverse [] = refl
back-reverse (p ∷ ps) =
    ap back_of (reverse-append (p ∷ []) ps) ∙ back-join (reverse ps) (p ∷ []) ∙ ap (λ t. piece_of p ++ t) (back-reverse ps)

pieces-reverse : (ps : List Placed) → pieces_of (reverse ps) ≡ back_of ps
unfolding back_of pieces_of
pieces-reverse [] = refl
pieces-reverse (p ∷ ps) =
    ap pieces_of (reverse-append (p ∷ []) ps) ∙ pieces-join (reverse ps) (p ∷ [])
    ∙ ap (λ t. pieces_of (reverse ps) ++ t) (append-nil (piece_of p)) ∙ ap (λ t. t ++ piece_of p) (pieces-reverse ps)

items-reverse : (ps : List Placed) → items_of (reverse ps) ≡ reverse (items_of ps)
unfolding items_of
items-reverse [] = refl
items-reverse (p ∷ ps) =
    ap items_of (reverse-append (p ∷ []) ps) ∙ items-join (reverse ps) (p ∷ []) ∙ ap (λ t. t ++ item_of p ∷ []) (items-reverse ps)
    ∙ sym (reverse-append (item_of p ∷ []) (items_of ps))

-- the nearest opener among placed items
record Nearest (qs inner : List Placed) (found : OpenerFound) : Type 0 where
  pub front : List Placed
  pub before : List Placed
  pub split : qs ≡ front ++ opener found.image found.source ∷ before
  pub inside_are : items_of (reverse front ++ inner) ≡ found.inside
  pub before_are : items_of before ≡ found.before

further : (p : Placed) (qs inner : List Placed) (found : OpenerFound) → Nearest qs (p ∷ inner) found → Nearest (p ∷ qs) inner found
further p qs inner found n = record {
  front = p ∷ n.front;
  before = n.before;
  split = ap (λ l. p ∷ l) n.split;
  inside_are = ap items_of (reverse-first p n.front inner) ∙ n.inside_are;
  before_are = n.before_are;
}

nearest : (qs inner : List Placed) (found : OpenerFound) → last_opener (items_of qs) (items_of inner) ≡ Some found → Nearest qs inner found
unfolding last_opener items_of
nearest [] inner found e = none-some e
nearest (opener image after ∷ qs) inner found e =
    let same = same_Some _ found e in
    record {
      front = [];
      before = qs;
      split = ap (λ (f : OpenerFound). opener f.image f.source ∷ qs) same;
      inside_are = ap (λ (f : OpenerFound). f.inside) same;
      before_are = ap (λ (f : OpenerFound). f.before) same;
    }
nearest (characters t s ∷ qs) inner found e = further (characters t s) qs inner found (nearest qs (characters t s ∷ inner) found e)
nearest (finished n ∷ qs) inner found e = further (finished n) qs inner found (nearest qs (finished n ∷ inner) found e)
nearest (linked n ∷ qs) inner found e = further (linked n) qs inner found (nearest qs (linked n ∷ inner) found e)
nearest (waiting r ∷ qs) inner found e = further (waiting r) qs inner found (nearest qs (waiting r ∷ inner) found e)

regroup : (b m f t : List ℕ) → b ++ (m ++ (f ++ t)) ≡ ((b ++ m) ++ f) ++ t
regroup b m f t = simp append_assoc refl

assoc : (m f t r : List ℕ) → m ++ (f ++ (t ++ r)) ≡ (m ++ (f ++ t)) ++ r
assoc m f t r = simp append_assoc refl

module _ (rules : Rules) (defined : Defined) where
  -- placed items whose last comes first, each with the source after it
  abbrev BackPlaced : List Placed → (after : List ℕ) → Type 0
  BackPlaced [] after = ⊤
  BackPlaced (p ∷ ps) after = IsPlaced rules defined p after × BackPlaced ps (piece_of p ++ after)

  back-both : (ps qs : List Placed) (after : List ℕ) → BackPlaced ps after → BackPlaced qs (back_of ps ++ after)
      → BackPlaced (ps ++ qs) after
  unfolding back_of
  back-both [] qs after v w = w
  back-both (p ∷ ps) qs after v w =
      (v.0, back-both ps qs (piece_of p ++ after) v.1 (subst (BackPlaced qs) (append_assoc (back_of ps) (piece_of p) after) w))

  back-split : (ps qs : List Placed) (after : List ℕ) → BackPlaced (ps ++ qs) after
      → BackPlaced ps after × BackPlaced qs (back_of ps ++ after)
  unfolding back_of
  back-split [] qs after w = (tt, w)
  back-split (p ∷ ps) qs after w =
      let both = back-split ps qs (piece_of p ++ after) w.1 in
      ((w.0, both.0), subst (BackPlaced qs) (sym (append_assoc (back_of ps) (piece_of p) after)) both.1)

  are-reverse : (ps : List Placed) (after : List ℕ) → BackPlaced ps after → ArePlaced rules defined (reverse ps) after
  unfolding pieces_of
  are-reverse [] after w = tt
  are-reverse (p ∷ ps) after w =
      subst (λ l. ArePlaced rules defined l after) (sym (reverse-append (p ∷ []) ps))
      (are-joined rules defined (reverse ps) (p ∷ []) after
      (subst (ArePlaced rules defined (reverse ps)) (ap (λ t. t ++ after) (sym (append-nil (piece_of p))))
      (are-reverse ps (piece_of p ++ after) w.1)) (w.0, tt))

  -- Placed items for those so far, whose source is what was read, before what is left.
  record Standing (items : List Item) (so_far rest : List ℕ) : Type 0 where
    pub placed : List Placed
    pub items_are : items_of placed ≡ items
    pub whole : back_of placed ≡ so_far
    pub are : BackPlaced placed rest

  one-more : (p : Placed) (items : List Item) (so_far rest : List ℕ) → Standing items so_far (piece_of p ++ rest)
      → IsPlaced rules defined p rest → Standing (item_of p ∷ items) (so_far ++ piece_of p) rest
  unfolding items_of back_of
  one-more p items so_far rest s w = record {
    placed = p ∷ s.placed;
    items_are = ap (λ l. item_of p ∷ l) s.items_are;
    whole = ap (λ t. t ++ piece_of p) s.whole;
    are = (w, s.are);
  }

  -- what a `]` makes
  record Closed (so_far rest : List ℕ) (out : Bracketed) : Type 0 where
    pub tail : List ℕ
    pub is : rest ≡ tail ++ out.rest
    pub stands : Standing out.items (so_far ++ 93 ∷ tail) out.rest

  bracket-stands : (items : List Item) (so_far rest : List ℕ) → Standing items so_far (93 ∷ rest)
      → Closed so_far rest (record { items = bracket_is_text items; rest = rest })
  bracket-stands items so_far rest s =
      let bracket = characters (93 ∷ []) (93 ∷ []) in
      record { tail = []; is = refl; stands = one-more bracket items so_far rest s (text-itself (93 ∷ []) rest refl) }

  -- the opener as text
  opener-stands : (so_far rest : List ℕ) (placed : List Placed) (found : OpenerFound) (n : Nearest placed [] found)
      → back_of placed ≡ so_far → BackPlaced placed rest
      → Standing (reverse found.inside ++ Characters (bracket_text found.image) ∷ found.before) so_far rest
  unfolding items_of back_of
  opener-stands so_far rest placed found n whole are =
      let o = opener found.image found.source in
      let mark = bracket_text found.image in
      let t = characters mark mark in
      let halves = back-split n.front (o ∷ n.before) rest (subst (λ l. BackPlaced l rest) n.split are) in
      record {
        placed = n.front ++ t ∷ n.before;
        items_are = items-join n.front (t ∷ n.before) ∙ ap (λ l. items_of n.front ++ Characters mark ∷ l) n.before_are
            ∙ ap (λ l. l ++ Characters mark ∷ found.before) fronts;
        whole = back-join n.front (t ∷ n.before) ∙ sym (back-join n.front (o ∷ n.before)) ∙ ap back_of (sym n.split) ∙ whole;
        are = back-both n.front (t ∷ n.before) rest halves.0 (bracket-itself found.image _, halves.1.1);
      }
    where
      fronts : items_of n.front ≡ reverse found.inside
      fronts = sym (reverse-reverse (items_of n.front))
          ∙ ap reverse (sym (items-reverse n.front) ∙ ap items_of (sym (append-nil (reverse n.front))) ∙ n.inside_are)

  both-stand : (items : List Item) (so_far rest : List ℕ) (found : OpenerFound) (s : Standing items so_far (93 ∷ rest))
      → Nearest s.placed [] found
      → Closed so_far rest (record { items = brackets_are_text found; rest = rest })
  both-stand items so_far rest found s n = bracket-stands _ so_far rest (opener-stands so_far (93 ∷ rest) s.placed found n s.whole s.are)

  -- what a link or an image is made of
  link_node : (found : OpenerFound) (end : LinkEnd) (nodes : Nodes) (tail : List ℕ) → Node
  link_node found end nodes tail = bracketed found.image end.dest end.title nodes tail

  link_placed : (linking image : Bool) → Node → Placed
  link_placed linking false n = linked n
  link_placed linking true n = if linking then linked n else finished n

  link-item : (found : OpenerFound) (end : LinkEnd) (nodes : Nodes) (tail : List ℕ) → inlines_of nodes ≡ emphasis_of found.inside
      → item_of (link_placed (holds_link found.inside) found.image (link_node found end nodes tail))
      ≡ made found.image end.dest end.title found.inside
  unfolding link_node link_placed inline_of
  link-item found end nodes tail e = go found.image (holds_link found.inside) refl
    where
      both : Bool → Item
      both linking =
          if linking then Linked (Image end.dest end.title (emphasis_of found.inside)) else Finished
          (Image end.dest end.title (emphasis_of found.inside))

      go : (image linking : Bool) → holds_link found.inside ≡ linking
          → item_of (link_placed linking image (bracketed image end.dest end.title nodes tail))
          ≡ made image end.dest end.title found.inside
      go false linking h = ap (λ l. Linked (Link end.dest end.title l)) e
      go true true h = ap (λ l. Linked (Image end.dest end.title l)) e ∙ ap both (sym h)
      go true false h = ap (λ l. Finished (Image end.dest end.title l)) e ∙ ap both (sym h)

  link-piece : (linking image : Bool) (n : Node) → piece_of (link_placed linking image n) ≡ source_of n
  unfolding link_placed
  link-piece linking false n = refl
  link-piece true true n = refl
  link-piece false true n = refl

  link-cut : (linking image : Bool) (n : Node) (rest : List ℕ) → IsPlaced rules defined (linked n) rest
      → IsPlaced rules defined (link_placed linking image n) rest
  unfolding link_placed
  link-cut linking false n rest w = w
  link-cut true true n rest w = w
  link-cut false true n rest w = w

  link-stands : (items : List Item) (so_far rest : List ℕ) (found : OpenerFound) (end : LinkEnd) (s : Standing items so_far (93 ∷ rest))
      → Nearest s.placed [] found
      → end_at rules defined (source_up_to found.source (93 ∷ rest)) rest ≡ Some end
      → Closed so_far rest (record { items = made found.image end.dest end.title found.inside ∷ found.before; rest = end.rest })
  unfolding items_of back_of source_up_to link_node source_of
  link-stands items so_far rest found end s n e =
      record {
        tail = tail;
        is = tail_is;
        stands = record {
          placed = placed ∷ n.before;
          items_are = ap (λ i. i ∷ items_of n.before) (link-item found end content.nodes tail inside_is)
              ∙ ap (λ l. made found.image end.dest end.title found.inside ∷ l) n.before_are;
          whole = ap (λ t. back_of n.before ++ t) (link-piece linking found.image this) ∙ whole_is;
          are = (link-cut linking found.image this end.rest (cut, refl, content.apart), subst (BackPlaced n.before) seen halves.1.1);
        };
      }
    where
      o : Placed
      o = opener found.image found.source

      mark : List ℕ
      mark = bracket_text found.image

      halves : BackPlaced n.front (93 ∷ rest) × BackPlaced (o ∷ n.before) (back_of n.front ++ 93 ∷ rest)
      halves = back-split n.front (o ∷ n.before) (93 ∷ rest) (subst (λ l. BackPlaced l (93 ∷ rest)) n.split s.are)

      content : Cuts rules defined (emphasis_of (items_of (reverse n.front))) (pieces_of (reverse n.front)) (93 ∷ rest)
      content = pairing-keeps rules defined (reverse n.front) (93 ∷ rest) (are-reverse n.front (93 ∷ rest) halves.0)

      inside_is : inlines_of content.nodes ≡ emphasis_of found.inside
      inside_is = content.into.inlines_are ∙ ap emphasis_of (ap items_of (sym (append-nil (reverse n.front))) ∙ n.inside_are)

      source_is : sources_of content.nodes ≡ back_of n.front
      source_is = content.into.whole ∙ pieces-reverse n.front

      between : take (length found.source - length (93 ∷ rest)) found.source ≡ sources_of content.nodes
      between = ap (λ t. take (length t - length (93 ∷ rest)) t) halves.1.0 ∙ front-of (back_of n.front) (93 ∷ rest) ∙ sym source_is

      ended : end_at rules defined (sources_of content.nodes) rest ≡ Some end
      ended = ap (λ t. end_at rules defined t rest) (sym between) ∙ e

      rest_end : IsEnd end.rest rest
      rest_end = end_at-end rules defined (sources_of content.nodes) rest end ended

      tail : List ℕ
      tail = rest_end.front

      tail_is : rest ≡ tail ++ end.rest
      tail_is = rest_end.is

      this : Node
      this = link_node found end content.nodes tail

      linking : Bool
      linking = holds_link found.inside

      placed : Placed
      placed = link_placed linking found.image this

      cut : IsCut rules defined this end.rest
      cut = (
        ap (λ t. end_at rules defined (sources_of content.nodes) t) (sym tail_is) ∙ ended,
        subst (AreCut rules defined content.nodes) (ap (λ t. 93 ∷ t) tail_is) content.into.cut,
      )

      whole_is : back_of n.before ++ (mark ++ (sources_of content.nodes ++ 93 ∷ tail)) ≡ so_far ++ 93 ∷ tail
      whole_is =
          ap (λ t. back_of n.before ++ (mark ++ (t ++ 93 ∷ tail))) source_is
          ∙ regroup (back_of n.before) mark (back_of n.front) (93 ∷ tail)
          ∙ ap (λ t. t ++ 93 ∷ tail) (sym (back-join n.front (o ∷ n.before)) ∙ ap back_of (sym n.split) ∙ s.whole)

      seen : mark ++ (back_of n.front ++ 93 ∷ rest) ≡ piece_of placed ++ end.rest
      seen =
          ap (λ t. mark ++ (back_of n.front ++ 93 ∷ t)) tail_is
          ∙ ap (λ f. mark ++ (f ++ 93 ∷ (tail ++ end.rest))) (sym source_is)
          ∙ assoc mark (sources_of content.nodes) (93 ∷ tail) end.rest
          ∙ ap (λ t. t ++ end.rest) (sym (link-piece linking found.image this))

  close-stands : (items : List Item) (so_far rest : List ℕ) → Standing items so_far (93 ∷ rest)
      → Closed so_far rest (close_bracket rules defined items rest)
  unfolding close_bracket closed_by_bracket items_of
  close-stands items so_far rest s = go (last_opener items []) refl
    where
      ends : (found : OpenerFound) → Nearest s.placed [] found → (o : Option LinkEnd)
          → end_at rules defined (source_up_to found.source (93 ∷ rest)) rest ≡ o
          → Closed so_far rest (elim o as (λ _. Bracketed) [
            | Some end ↦ record { items = made found.image end.dest end.title found.inside ∷ found.before; rest = end.rest }
            | None ↦ record { items = brackets_are_text found; rest = rest }
          ])
      ends found n (Some end) e = link-stands items so_far rest found end s n e
      ends found n None e = both-stand items so_far rest found s n

      by : (found : OpenerFound) → Nearest s.placed [] found → (v : Bool) → Closed so_far rest (elim v as (λ _. Bracketed) [
        | true ↦ record { items = brackets_are_text found; rest = rest }
        | false ↦ elim (end_at rules defined (source_up_to found.source (93 ∷ rest)) rest) as (λ _. Bracketed) [
          | Some end ↦ record { items = made found.image end.dest end.title found.inside ∷ found.before; rest = end.rest }
          | None ↦ record { items = brackets_are_text found; rest = rest }
        ]
      ])
      by found n true = both-stand items so_far rest found s n
      by found n false = ends found n (end_at rules defined (source_up_to found.source (93 ∷ rest)) rest) refl

      go : (o : Option OpenerFound) → last_opener items [] ≡ o → Closed so_far rest (elim o as (λ _. Bracketed) [
        | Some found ↦ closed_by_bracket rules defined found rest
        | None ↦ record { items = bracket_is_text items; rest = rest }
      ])
      go None e = bracket-stands items so_far rest s
      go (Some found) e =
          by found (nearest s.placed [] found (ap (λ l. last_opener l []) s.items_are ∙ e)) (not found.image && holds_link found.inside)

  -- one atom more

  record Step (so_far : List ℕ) (b : ℕ) (bs : List ℕ) (out : Bracketed) : Type 0 where
    pub taken : List ℕ
    pub is : bs ≡ taken ++ out.rest
    pub stands : Standing out.items (so_far ++ b ∷ taken) out.rest

  seen-as : (items : List Item) (so_far s t : List ℕ) → s ≡ t → Standing items so_far s → Standing items so_far t
  seen-as items so_far s t e v = subst (λ r. Standing items so_far r) e v

  read-as : (items : List Item) (s t rest : List ℕ) → s ≡ t → Standing items s rest → Standing items t rest
  read-as items s t rest e v = subst (λ r. Standing items r rest) e v

  step-stands : (before : List ℕ) (b : ℕ) (bs : List ℕ) (items : List Item) (so_far : List ℕ) → Standing items so_far (b ∷ bs)
      → Step so_far b bs (item_step rules defined before b bs items)
  unfolding item_step add_atom source_of inline_of
  step-stands before b bs items so_far s =
      go (atom_at rules before b bs).atom (atom_at rules before b bs).rest refl (atom-takes rules before b bs)
    where
      go : (atom : Atom) (rest : List ℕ) → atom_at rules before b bs ≡ record { atom = atom; rest = rest }
          → Took b bs (record { atom = atom; rest = rest })
          → Step so_far b bs (add_atom rules defined items atom rest)
      go (Plain t) rest e k =
          let whole = ap (λ l. b ∷ l) k.is in
          record {
            taken = k.taken;
            is = k.is;
            stands = one-more (characters t (b ∷ k.taken)) items so_far rest
                (seen-as items so_far (b ∷ bs) (b ∷ k.taken ++ rest) whole s) k.law;
          }
      go (Whole inline) rest e k =
          let whole = ap (λ l. b ∷ l) k.is in
          record {
            taken = k.taken;
            is = k.is;
            stands = one-more (finished (atomic inline (b ∷ k.taken))) items so_far rest
                (seen-as items so_far (b ∷ bs) (b ∷ k.taken ++ rest) whole s)
                (ap (first_atom rules) (sym whole) ∙ whole-anywhere rules before b bs inline rest e, refl, tt);
          }
      go (Delimiter run) rest e k =
          let whole = ap (λ l. b ∷ l) k.is ∙ ap (λ l. l ++ rest) k.law.0 in
          record {
            taken = k.taken;
            is = k.is;
            stands = read-as _ _ _ rest (ap (λ l. so_far ++ l) (sym k.law.0))
                (one-more (waiting run) items so_far rest
                (seen-as items so_far (b ∷ bs) (replicate run.left run.character ++ rest) whole s) k.law.1);
          }
      go (OpenBracket image) rest e k =
          let whole = ap (λ l. b ∷ l) k.is ∙ ap (λ l. l ++ rest) k.law in
          record {
            taken = k.taken;
            is = k.is;
            stands = read-as _ _ _ rest (ap (λ l. so_far ++ l) (sym k.law))
                (one-more (opener image rest) items so_far rest (seen-as items so_far (b ∷ bs) (bracket_text image ++ rest) whole s) refl);
          }
      go CloseBracket rest e k =
          let whole = ap (λ l. b ∷ l) k.is ∙ ap (λ l. l ++ rest) k.law in
          let c = close-stands items so_far rest (seen-as items so_far (b ∷ bs) (93 ∷ rest) whole s) in
          record {
            taken = k.taken ++ c.tail;
            is = k.is ∙ ap (λ l. k.taken ++ l) c.is ∙ sym (append_assoc k.taken c.tail (close_bracket rules defined items rest).rest);
            stands = read-as _ _ _ _ (ap (λ l. so_far ++ l) (ap (λ l. l ++ c.tail) (sym k.law))) c.stands;
          }

  -- to the end of the source

  all-stand : (n : ℕ) (before source : List ℕ) (items : List Item) (so_far : List ℕ) → length source ≤ n → Standing items so_far source
      → Standing (items_after rules defined zero before source items) (so_far ++ source) []
  unfolding items_after
  all-stand n before [] items so_far h s = read-as items so_far (so_far ++ []) [] (sym (append-nil so_far)) s
  all-stand zero before (b ∷ bs) items so_far h s = absurd (omega (arith, h))
  all-stand (suc n) before (b ∷ bs) items so_far h s =
      go (step-stands before b bs items so_far s) (λ before rest more read k v. all-stand n before rest more read k v)
    where
      next : Bracketed
      next = item_step rules defined before b bs items

      go : Step so_far b bs next
          → ((before rest : List ℕ) (more : List Item) (read : List ℕ) → length rest ≤ n → Standing more read rest
          → Standing (items_after rules defined zero before rest more) (read ++ rest) [])
          → Standing (items_after rules defined zero before (b ∷ bs) items) (so_far ++ b ∷ bs) []
      go step further =
          let shorter : length next.rest ≤ n = omega (arith, h, ap length step.is, length-append step.taken next.rest) in
          let last = further (reverse step.taken ++ b ∷ before) next.rest next.items (so_far ++ b ∷ step.taken) shorter step.stands in
          subst (λ l. Standing l (so_far ++ b ∷ bs) []) (sym (goes-on step.taken step.is))
          (read-as _ _ _ [] (append_assoc so_far (b ∷ step.taken) next.rest ∙ ap (λ l. so_far ++ b ∷ l) (sym step.is)) last)
        where
          goes-on : (taken : List ℕ) → bs ≡ taken ++ next.rest
              → items_after rules defined zero before (b ∷ bs) items ≡ items_after rules defined zero
              (reverse taken ++ b ∷ before) next.rest next.items
          goes-on taken is =
              ap (λ l. items_after rules defined zero before (b ∷ l) items) is
              ∙ reading_goes_on rules defined before b taken next.rest items
              (ap (λ l. (item_step rules defined before b l items).rest) (sym is))
              ∙ ap (λ l. items_after rules defined zero (reverse taken ++ b ∷ before) next.rest
              (item_step rules defined before b l items).items) (sym is)

  start : (source : List ℕ) → Standing [] [] source
  unfolding items_of back_of
  start source = record { placed = []; items_are = refl; whole = refl; are = tt }

  pub source-cut : (source : List ℕ) → Cuts rules defined (inlines.inlines_of rules defined source) source []
  unfolding inlines.inlines_of inlines.items_of
  source-cut source =
      let all = all-stand (length source) [] source [] [] (omega arith) (start source) in
      let made = pairing-keeps rules defined (reverse all.placed) [] (are-reverse all.placed [] all.are) in
      subst (λ l. Cuts rules defined (emphasis_of l) source []) (items-reverse all.placed ∙ ap reverse all.items_are)
      (subst (λ l. Cuts rules defined (emphasis_of (items_of (reverse all.placed))) l []) (pieces-reverse all.placed ∙ all.whole) made)

pub sources_are_cut : SourcesAreCut
sources_are_cut rules defined source = let c = source-cut rules defined source in (c.nodes, c.into)
