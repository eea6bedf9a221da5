-- Places of nodes are nested, and have the sources of their nodes.
use Rattle.std.proofs.Common.{◌≡◌, ℕ, suc, ◌+◌, ◌-◌, ◌≤◌, Bool, List, [], ◌∷◌, ◌++◌, length, take, drop, replicate, refl, ap, subst, ◌∙◌, arith, append_assoc, append-nil, length-append, inl, inr}
use Rattle.std.specs.List.{All, AllByRecursion as Each, slice_range}
use Rattle.std.proofs.Math.Seq.{drop-length, take-length, take-append-le, drop-append-le}
use Rattle.std.proofs.lemmas.List.{length-replicate}
use Rattle.std.proofs.lemmas.List.Elements.{All-nil, All-append, All-from_recursion}
use Rattle.cm_scan.specs.inlines.Pairing.{bracket_text}
use Rattle.cm_scan.specs.inlines.Cuts.{Node, textual, atomic, emphasis, bracketed, Nodes, none, node, source_of, sources_of}
use Rattle.cm_scan.specs.inlines.Places.{Place, place_at, places_at, places_from, places_of, PlacesAreSources, PlacesAreWithin, IsInsideOrAfter, AreNested, PlacesAreNested}

each-weaker : (P Q : Place → Type 0) → ((p : Place) → P p → Q p) → (ps : List Place) → Each P ps → Each Q ps
each-weaker P Q h [] all = tt
each-weaker P Q h (p ∷ ps) all = (h p all.0, each-weaker P Q h ps all.1)

pub each-append : (P : Place → Type 0) (ps qs : List Place) → Each P ps → Each P qs → Each P (ps ++ qs)
each-append P [] qs v w = w
each-append P (p ∷ ps) qs v w = (v.0, each-append P ps qs v.1 w)

-- each place is within what it is a part of

abbrev IsWithin : (low high : ℕ) → Place → Type 0
IsWithin low high p = (low ≤ p.start) × (p.start ≤ p.end) × (p.end ≤ high)

wider : (low high l h : ℕ) → l ≤ low → high ≤ h → (ps : List Place) → Each (IsWithin low high) ps → Each (IsWithin l h) ps
wider low high l h below above =
    each-weaker (IsWithin low high) (IsWithin l h) (λ p w. (omega (arith, below, w.0), w.1, omega (arith, above, w.2)))

emphasis-length : (c n : ℕ) (ns : Nodes) → length (source_of (emphasis c n ns)) ≡ n + (length (sources_of ns) + n)
unfolding source_of
emphasis-length c n ns =
    omega (
      arith,
      length-append (replicate n c) (sources_of ns ++ replicate n c),
      length-append (sources_of ns) (replicate n c),
      length-replicate n c,
    )

bracketed-length : (image : Bool) (d t : List ℕ) (ns : Nodes) (tail : List ℕ)
    → length (source_of (bracketed image d t ns tail)) ≡ length (bracket_text image) + (length (sources_of ns) + suc (length tail))
unfolding source_of
bracketed-length image d t ns tail =
    omega (arith, length-append (bracket_text image) (sources_of ns ++ (93 ∷ tail)), length-append (sources_of ns) (93 ∷ tail))

-- what is inside is within the place of a node, where so many bytes come before it
inside-node : (start : ℕ) (n : Node) (front inside : ℕ) → front + inside ≤ length (source_of n) → (ps : List Place)
    → Each (IsWithin (start + front) (start + front + inside)) ps
    → Each (IsWithin start (start + length (source_of n))) ps
inside-node start n front inside fits =
    wider (start + front) (start + front + inside) start (start + length (source_of n)) (omega arith) (omega (arith, fits))

emphasis-fits : (c n : ℕ) (ns : Nodes) → n + length (sources_of ns) ≤ length (source_of (emphasis c n ns))
emphasis-fits c n ns = omega (arith, emphasis-length c n ns)

bracketed-fits : (image : Bool) (d t : List ℕ) (ns : Nodes) (tail : List ℕ)
    → length (bracket_text image) + length (sources_of ns) ≤ length (source_of (bracketed image d t ns tail))
bracketed-fits image d t ns tail = omega (arith, bracketed-length image d t ns tail)

here : (start : ℕ) (n : Node) → IsWithin start (start + length (source_of n)) (place_at start n)
here start n = (omega arith, omega arith, omega arith)

mutual
  unfolding places_at places_from sources_of

  within-node : (start : ℕ) (n : Node) → Each (IsWithin start (start + length (source_of n))) (places_at start n)
  within-node start (textual t s) = (here start (textual t s), tt)
  within-node start (atomic i s) = (here start (atomic i s), tt)
  within-node start (emphasis c n ns) = (
    here start (emphasis c n ns),
    inside-node start (emphasis c n ns) n (length (sources_of ns)) (emphasis-fits c n ns)
        (places_from (start + n) ns) (within-nodes (start + n) ns),
  )
  within-node start (bracketed image d t ns tail) =
      let front = length (bracket_text image) in (
        here start (bracketed image d t ns tail),
        inside-node start (bracketed image d t ns tail) front (length (sources_of ns)) (bracketed-fits image d t ns tail)
            (places_from (start + front) ns) (within-nodes (start + front) ns),
      )

  within-nodes : (start : ℕ) (ns : Nodes) → Each (IsWithin start (start + length (sources_of ns))) (places_from start ns)
  within-nodes start none = tt
  within-nodes start (node n ns) =
      let middle = start + length (source_of n) in
      let end = start + length (source_of n ++ sources_of ns) in
      let whole = length-append (source_of n) (sources_of ns) in
      each-append (IsWithin start end) (places_at start n) (places_from middle ns)
      (wider start middle start end (omega arith) (omega (arith, whole)) (places_at start n) (within-node start n))
      (wider middle (middle + length (sources_of ns)) start end (omega arith) (omega (arith, whole)) (places_from middle ns)
      (within-nodes middle ns))

pub places_are_within : PlacesAreWithin
places_are_within nodes =
    All-from_recursion IsInSource (places_of nodes)
    (each-weaker (IsWithin 0 (0 + length (sources_of nodes))) IsInSource (λ p w. (w.1, omega (arith, w.2))) (places_of nodes)
    (within-nodes 0 nodes))
  where
    IsInSource : Place → Type 0
    IsInSource p = (p.start ≤ p.end) × (p.end ≤ length (sources_of nodes))

-- each is inside those before it, or after them

abbrev AllAfter : List Place → Place → Type 0
AllAfter qs p = All (IsInsideOrAfter p) qs

nested-append : (ps qs : List Place) → AreNested ps → AreNested qs → Each (AllAfter qs) ps → AreNested (ps ++ qs)
nested-append [] qs v w all = w
nested-append (p ∷ ps) qs v w all = (All-append (IsInsideOrAfter p) ps qs v.0 all.0, nested-append ps qs v.1 w all.1)

inside-here : (start : ℕ) (n : Node) (front inside : ℕ) → front + inside ≤ length (source_of n) → (ps : List Place)
    → Each (IsWithin (start + front) (start + front + inside)) ps
    → AllAfter ps (place_at start n)
inside-here start n front inside fits ps all =
    All-from_recursion (IsInsideOrAfter (place_at start n)) ps
    (each-weaker (IsWithin start (start + length (source_of n))) (IsInsideOrAfter (place_at start n)) (λ p w. (w.0, inl w.2)) ps
    (inside-node start n front inside fits ps all))

after-others : (start middle end : ℕ) (ps qs : List Place) → Each (IsWithin start middle) ps → Each (IsWithin middle end) qs
    → Each (AllAfter qs) ps
after-others start middle end ps qs v w =
    each-weaker (IsWithin start middle) (AllAfter qs) (λ p u. All-from_recursion (IsInsideOrAfter p) qs (after p u)) ps v
  where
    after : (p : Place) → IsWithin start middle p → Each (IsInsideOrAfter p) qs
    after p u =
        each-weaker (IsWithin middle end) (IsInsideOrAfter p) (λ q t. (omega (arith, u.1, u.2, t.0), inr (omega (arith, u.2, t.0)))) qs w

mutual
  unfolding places_at places_from

  nested-node : (start : ℕ) (n : Node) → AreNested (places_at start n)
  nested-node start (textual t s) = (All-nil (IsInsideOrAfter (place_at start (textual t s))), tt)
  nested-node start (atomic i s) = (All-nil (IsInsideOrAfter (place_at start (atomic i s))), tt)
  nested-node start (emphasis c n ns) = (
    inside-here start (emphasis c n ns) n (length (sources_of ns)) (emphasis-fits c n ns) (places_from (start + n) ns)
        (within-nodes (start + n) ns),
    nested-nodes (start + n) ns,
  )
  nested-node start (bracketed image d t ns tail) =
      let front = length (bracket_text image) in (
        inside-here start (bracketed image d t ns tail) front (length (sources_of ns)) (bracketed-fits image d t ns tail)
            (places_from (start + front) ns) (within-nodes (start + front) ns),
        nested-nodes (start + front) ns,
      )

  nested-nodes : (start : ℕ) (ns : Nodes) → AreNested (places_from start ns)
  nested-nodes start none = tt
  nested-nodes start (node n ns) =
      let middle = start + length (source_of n) in
      nested-append (places_at start n) (places_from middle ns) (nested-node start n) (nested-nodes middle ns)
      (after-others start middle (middle + length (sources_of ns)) (places_at start n) (places_from middle ns) (within-node start n)
      (within-nodes middle ns))

pub places_are_nested : PlacesAreNested
places_are_nested nodes = nested-nodes 0 nodes

-- the bytes there

abbrev IsSource : List ℕ → Place → Type 0
IsSource text p = slice_range text p.start p.end ≡ source_of p.of

middle-of : (front s back : List ℕ) → slice_range (front ++ (s ++ back)) (length front) (length front + length s) ≡ s
middle-of front s back =
    ap (λ n. take n (drop (length front) (front ++ (s ++ back)))) count
    ∙ ap (take (length s)) (drop-append-le (length front) front (s ++ back) (omega arith) ∙ ap (λ t. t ++ (s ++ back)) (drop-length front))
    ∙ take-append-le (length s) s back (omega arith) ∙ take-length s
  where
    count : length front + length s - length front ≡ length s
    count = omega arith

-- a text and a place given in another way
given-as : (text other : List ℕ) (start from : ℕ) (ns : Nodes) → other ≡ text → from ≡ start → Each (IsSource other) (places_from from ns)
    → Each (IsSource text) (places_from start ns)
given-as text other start from ns e f all =
    subst (λ t. Each (IsSource t) (places_from start ns)) e (subst (λ k. Each (IsSource other) (places_from k ns)) f all)

pub within : (front mark inside end back : List ℕ)
    → (front ++ mark) ++ (inside ++ (end ++ back)) ≡ front ++ ((mark ++ (inside ++ end)) ++ back)
within front mark inside end back = simp append_assoc refl

together : (front s more back : List ℕ) → front ++ (s ++ (more ++ back)) ≡ front ++ ((s ++ more) ++ back)
together front s more back = simp append_assoc refl

pub beyond : (front s more back : List ℕ) → (front ++ s) ++ (more ++ back) ≡ front ++ ((s ++ more) ++ back)
beyond front s more back = simp append_assoc refl

mutual
  unfolding places_at places_from source_of sources_of

  source-node : (front back : List ℕ) (n : Node) → Each (IsSource (front ++ (source_of n ++ back))) (places_at (length front) n)
  source-node front back (textual t s) = (middle-of front s back, tt)
  source-node front back (atomic i s) = (middle-of front s back, tt)
  source-node front back (emphasis c n ns) =
      let marks = replicate n c in (
        middle-of front (marks ++ (sources_of ns ++ marks)) back,
        given-as _ _ (length front + n) _ ns (within front marks (sources_of ns) marks back)
            (length-append front marks ∙ ap (λ k. length front + k) (length-replicate n c))
            (source-nodes (front ++ marks) (marks ++ back) ns),
      )
  source-node front back (bracketed image d t ns tail) =
      let mark = bracket_text image in (
        middle-of front (mark ++ (sources_of ns ++ (93 ∷ tail))) back,
        given-as _ _ (length front + length mark) _ ns (within front mark (sources_of ns) (93 ∷ tail) back) (length-append front mark)
            (source-nodes (front ++ mark) ((93 ∷ tail) ++ back) ns),
      )

  source-nodes : (front back : List ℕ) (ns : Nodes) → Each (IsSource (front ++ (sources_of ns ++ back))) (places_from (length front) ns)
  source-nodes front back none = tt
  source-nodes front back (node n ns) =
      let whole = front ++ ((source_of n ++ sources_of ns) ++ back) in
      each-append (IsSource whole) (places_at (length front) n) (places_from (length front + length (source_of n)) ns)
      (subst (λ t. Each (IsSource t) (places_at (length front) n)) (together front (source_of n) (sources_of ns) back)
      (source-node front (sources_of ns ++ back) n))
      (given-as whole _ (length front + length (source_of n)) _ ns (beyond front (source_of n) (sources_of ns) back)
      (length-append front (source_of n)) (source-nodes (front ++ source_of n) back ns))

pub places_are_sources : PlacesAreSources
places_are_sources nodes =
    All-from_recursion (IsSource (sources_of nodes)) (places_of nodes)
    (subst (λ t. Each (IsSource t) (places_of nodes)) (append-nil (sources_of nodes)) (source-nodes [] [] nodes))
