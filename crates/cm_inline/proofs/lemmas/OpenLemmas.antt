-- Open brackets among segments, with more after them.
use Rattle.cm_inline.proofs.lemmas.Words.{◌≡◌, ℕ, ◌<◌, ◌≤◌, Bool, true, false, ◌||◌, List, [], ◌∷◌, ◌++◌, length, refl, sym, ap, subst, ◌∙◌, arith, append_assoc}
use Rattle.cm_inline.proofs.lemmas.Words.{length-append, nat_lt, nat_tests, Item, is_linked, holds_link, Bracket, Link, Mark, Plain, HeldRun, rules}
use Rattle.cm_inline.specs.steps.pairing.Segments.{Segment, Waiting, Made, items_in, parts_in, all_parts, numbers_in}
use Rattle.cm_inline.specs.steps.Brackets.{MarkedLeaf, is_opener, has_opener, AreClosed, IsOpener, opened, AreOpen}
use Rattle.cm_inline.specs.steps.Marks.{IsUnmarked}
use Rattle.cm_inline.proofs.lemmas.JoinLemmas.{Later, laid-join, parts-join, parts-none, laid-later, parts-later}

-- segments one after another
pub items-append : (xs ys : List Segment) → items_in (xs ++ ys) ≡ items_in xs ++ items_in ys
unfolding items_in
items-append [] ys = refl
items-append (Waiting number run ∷ xs) ys = ap (λ t. Item.Delimiters run ∷ t) (items-append xs ys)
items-append (Made parts item high ∷ xs) ys = ap (λ t. item ∷ t) (items-append xs ys)

pub all_parts-append : (xs ys : List Segment) → all_parts (xs ++ ys) ≡ all_parts xs ++ all_parts ys
unfolding all_parts
all_parts-append [] ys = refl
all_parts-append (x ∷ xs) ys = ap (λ t. parts_in x ++ t) (all_parts-append xs ys) ∙ sym (append_assoc (parts_in x) (all_parts xs) (all_parts ys))

pub numbers-append : (xs ys : List Segment) → numbers_in (xs ++ ys) ≡ numbers_in xs ++ numbers_in ys
unfolding numbers_in
numbers-append [] ys = refl
numbers-append (Waiting number run ∷ xs) ys = ap (λ t. number ∷ t) (numbers-append xs ys)
numbers-append (Made parts item high ∷ xs) ys = numbers-append xs ys

or-assoc : (u v w : Bool) → (u || v) || w ≡ u || (v || w)
or-assoc u v w = grind (arith, nat_tests)

pub holds-append : (xs ys : List Item) → holds_link (xs ++ ys) ≡ holds_link xs || holds_link ys
unfolding holds_link
holds-append [] ys = refl
holds-append (x ∷ xs) ys = ap (λ v. is_linked x || v) (holds-append xs ys) ∙ sym (or-assoc (is_linked x) (holds_link xs) (holds_link ys))

pub opener-append : (xs ys : List Item) → has_opener (xs ++ ys) ≡ has_opener xs || has_opener ys
unfolding has_opener
opener-append [] ys = refl
opener-append (x ∷ xs) ys = ap (λ v. is_opener x || v) (opener-append xs ys) ∙ sym (or-assoc (is_opener x) (has_opener xs) (has_opener ys))

neither : (u v : Bool) → u ≡ false → v ≡ false → u || v ≡ false
neither u v e f = ap (λ u. u || v) e ∙ f

-- closed segments, one after another
pub closed-join : (leaf : MarkedLeaf) (from mid to : ℕ) (xs ys : List Segment) (ms ns : List Mark) → AreClosed leaf from mid xs ms → AreClosed leaf mid to ys ns → AreClosed leaf from to (xs ++ ys) (ms ++ ns)
closed-join leaf from mid to xs ys ms ns h g = search (rules, all_parts-append, parts-join, laid-join, items-append, opener-append, neither)

-- Closed segments go after open brackets.
pub open-more : (leaf : MarkedLeaf) (bs : List Bracket) (xs ys : List Segment) (ms ns : List Mark) (mid to : ℕ) (linked : Bool) → AreOpen leaf bs xs ms mid (holds_link (items_in ys) || linked) → AreClosed leaf mid to ys ns
    → AreOpen leaf bs (xs ++ ys) (ms ++ ns) to linked
open-more leaf [] xs ys ms ns mid to linked h g = closed-join leaf 0 mid to xs ys ms ns h g
open-more leaf (b ∷ bs) xs ys ms ns mid to linked h g =
    let further : holds_link (items_in (h.inside ++ ys)) || linked ≡ holds_link (items_in h.inside) || (holds_link (items_in ys) || linked) =
    ap (λ t. holds_link t || linked) (items-append h.inside ys) ∙ ap (λ v. v || linked) (holds-append (items_in h.inside) (items_in ys)) ∙ or-assoc (holds_link (items_in h.inside)) (holds_link (items_in ys)) linked in
    record {
      front = h.front;
      high = h.high;
      inside = h.inside ++ ys;
      early = h.early;
      at = h.at;
      late = h.late ++ ns;
      whole = ap (λ t. t ++ ys) h.whole ∙ append_assoc h.front (opened leaf.source b h.high ∷ h.inside) ys;
      marks_are = ap (λ t. t ++ ns) h.marks_are ∙ append_assoc h.early (record { at = h.at; end = b.end; kind = Plain } ∷ h.late) ns;
      closed = closed-join leaf b.end mid to h.inside ys h.late ns h.closed g;
      bracket = h.bracket;
      number = h.number;
      waiting = h.waiting;
      link = h.link ∙ sym further;
      below = subst (AreOpen leaf bs h.front h.early h.at) (sym further) h.below;
    }

-- What is known of runs and links later.
abbrev pub later_leaf : MarkedLeaf → List HeldRun → List Link → ℕ → MarkedLeaf
later_leaf leaf runs more links_end = record { lines = leaf.lines; source = leaf.source; targets = leaf.targets; runs = runs; links = leaf.links ++ more; links_end = links_end }

pub closed-later : (leaf : MarkedLeaf) (runs : List HeldRun) (more : List Link) (links_end from to : ℕ) (xs : List Segment) (ms : List Mark) → Later leaf.runs runs → AreClosed leaf from to xs ms → AreClosed (later_leaf leaf runs more links_end) from to xs ms
closed-later leaf runs more links_end from to xs ms later h = search (rules, parts-later, laid-later)

pub open-later : (leaf : MarkedLeaf) (runs : List HeldRun) (more : List Link) (bs : List Bracket) (xs : List Segment) (ms : List Mark) (to : ℕ) (linked : Bool) → Later leaf.runs runs → AreOpen leaf bs xs ms to linked
    → AreOpen (later_leaf leaf runs more leaf.links_end) bs xs ms to linked
open-later leaf runs more [] xs ms to linked later h = closed-later leaf runs more leaf.links_end 0 to xs ms later h
open-later leaf runs more (b ∷ bs) xs ms to linked later h = search (rules, closed-later, (open-later leaf runs more bs h.front h.early h.at (holds_link (items_in h.inside) || linked) later h.below))

below-end : (n end : ℕ) → n < end → nat_lt n end ≡ true
below-end n end h = grind (arith, nat_tests, h)

or-true : (v : Bool) → v || true ≡ true
or-true v = grind (arith, nat_tests)

-- A link ends after them all.
pub open-linked : (leaf : MarkedLeaf) (runs : List HeldRun) (more : List Link) (links_end : ℕ) (bs : List Bracket) (xs : List Segment) (ms : List Mark) (to : ℕ) (linked : Bool) → Later leaf.runs runs → length ms ≤ links_end → AreOpen leaf bs xs ms to linked
    → AreOpen (later_leaf leaf runs more links_end) bs xs ms to true
open-linked leaf runs more links_end [] xs ms to linked later high h = closed-later leaf runs more links_end 0 to xs ms later h
open-linked leaf runs more links_end (b ∷ bs) xs ms to linked later high h =
    let m : Mark = record { at = h.at; end = b.end; kind = Plain } in
    let low : b.mark < links_end = omega (arith, h.number, ap length h.marks_are, length-append h.early (m ∷ h.late), high) in
    search (
      rules,
      (closed-later leaf runs more links_end b.end to h.inside h.late later h.closed),
      (below-end b.mark links_end low ∙ sym (or-true (holds_link (items_in h.inside)))),
      (subst (AreOpen (later_leaf leaf runs more links_end) bs h.front h.early h.at) (sym (or-true (holds_link (items_in h.inside))))
          (open-linked leaf runs more links_end bs h.front h.early h.at (holds_link (items_in h.inside) || linked) later (omega (arith, h.number, low)) h.below)),
    )

not-below : (n end : ℕ) → end ≤ n → nat_lt n end ≡ false
not-below n end h = grind (arith, nat_tests, h)

-- One bracket more.
pub open-opened : (leaf : MarkedLeaf) (bs : List Bracket) (b : Bracket) (high : ℕ) (xs : List Segment) (ms : List Mark) (at : ℕ) → AreOpen leaf bs xs ms at false → IsOpener leaf.source b.image at b.end → b.mark ≡ length ms
    → b.waiting ≡ length (numbers_in xs) → leaf.links_end ≤ length ms → IsUnmarked leaf.lines leaf.source b.end b.end
    → AreOpen leaf (b ∷ bs) (xs ++ opened leaf.source b high ∷ []) (ms ++ record { at = at; end = b.end; kind = Plain } ∷ []) b.end false
unfolding holds_link items_in all_parts has_opener
open-opened leaf bs b high xs ms at h bracket number waiting low none = grind (arith, nat_tests, parts-none, not-below)
