-- Places start and end between characters: what isn't text starts and ends with bytes of ASCII, and texts are between these.
use Rattle.std.proofs.Common.{◌≡◌, ℕ, zero, suc, ◌+◌, ◌<◌, ◌≤◌, Bool, true, false, ◌&&◌, List, [], ◌∷◌, ◌++◌, length, replicate, get_or, codes, refl, sym, ap, subst, ◌∙◌, arith, append_assoc, append-nil, length-append, zero-add, inl, inr}
use Rattle.std.specs.List.{AllByRecursion as Each}
use Rattle.std.specs.Str.{IsUtf8, IsCharBoundary}
use Rattle.std.proofs.Math.Seq.{get_or-append-add}
use Rattle.std.proofs.lemmas.Bool.Decides.{nat_tests}
use Rattle.std.proofs.lemmas.List.{length-replicate, replicate-append-replicate}
use Rattle.std.proofs.lemmas.List.Elements.{All-from_recursion}
use Rattle.std.proofs.lemmas.Str.{IsCharBoundary-start, IsCharBoundary-end, IsCharBoundary-before_ascii, IsCharBoundary-after_ascii}
use Rattle.cm_text.specs.Rules.{Rules}
use Rattle.cm_tree.specs.declared.tree.Inline.{Inline, Inline-F, out-Inline}
use Rattle.cm_tree.specs.declared.tree.Inline.TheOpen as inline
use Rattle.cm_scan.specs.inlines.Brackets.{Defined}
use Rattle.cm_scan.specs.inlines.Pairing.{bracket_text}
use Rattle.cm_scan.specs.inlines.Cuts.{Node, textual, atomic, emphasis, bracketed, Nodes, none, node, source_of, sources_of, encloses, IsCut, AreCut}
use Rattle.cm_scan.specs.inlines.Places.{Place, places_at, places_from, places_of}
use Rattle.cm_scan.specs.laws.CutLaws.{IsWritten, IsTail, PlacesPartCharacters}
use Rattle.cm_scan.proofs.lemmas.cuts.AtomsTaken.{atom-written}
use Rattle.cm_scan.proofs.lemmas.cuts.OneCut.{one_cut, tails_are_written}
use Rattle.cm_scan.proofs.lemmas.cuts.PlacedItems.{is_text, starts_with_text, ApartInside, AreApart}
use Rattle.cm_scan.proofs.lemmas.cuts.ReadingCuts.{source-cut}
use Rattle.cm_scan.proofs.lemmas.cuts.NestedPlaces.{each-append, within, beyond}

-- a source that starts and ends with bytes of ASCII
record HasEnds (s : List ℕ) : Type 0 where
  pub first : ℕ
  pub others : List ℕ
  pub starts : s ≡ first ∷ others
  pub first_low : first < 128
  pub before : List ℕ
  pub last : ℕ
  pub ends : s ≡ before ++ last ∷ []
  pub last_low : last < 128

-- two bytes with something between them
enclosed : (a b : ℕ) (inside s : List ℕ) → a < 128 → b < 128 → s ≡ a ∷ (inside ++ b ∷ []) → HasEnds s
enclosed a b inside s low_a low_b e =
    record {
      first = a;
      others = inside ++ b ∷ [];
      starts = e;
      first_low = low_a;
      before = a ∷ inside;
      last = b;
      ends = e;
      last_low = low_b;
    }

marks-end : (n c : ℕ) → replicate (suc n) c ≡ replicate n c ++ c ∷ []
marks-end n c = ap (λ k. replicate k c) more ∙ sym (replicate-append-replicate n 1 c)
  where
    more : suc n ≡ n + 1
    more = omega arith

-- between the same characters
marked : (n c : ℕ) (inside s : List ℕ) → 1 ≤ n → c < 128 → s ≡ replicate n c ++ (inside ++ replicate n c) → HasEnds s
marked zero c inside s some low e = absurd (omega (arith, some))
marked (suc n) c inside s some low e =
    enclosed c c (replicate n c ++ (inside ++ replicate n c)) s low low
    (e ∙ ap (λ t. c ∷ (replicate n c ++ (inside ++ t))) (marks-end n c) ∙ ap (λ t. c ∷ t)
    (grouped (replicate n c) inside (replicate n c) (c ∷ [])))
  where
    grouped : (x y z w : List ℕ) → x ++ (y ++ (z ++ w)) ≡ (x ++ (y ++ z)) ++ w
    grouped x y z w = simp append_assoc refl

-- spaces and a line feed
broken : (n : ℕ) (s : List ℕ) → s ≡ replicate n 32 ++ codes "\n" → HasEnds s
broken zero s e =
    record { first = 10; others = []; starts = e; first_low = omega arith; before = []; last = 10; ends = e; last_low = omega arith }
broken (suc n) s e = enclosed 32 10 (replicate n 32) s (omega arith) (omega arith) e

atom-ends : (i : Inline-F Inline) (s : List ℕ) → IsWritten i s → HasEnds s
atom-ends (inline.Text t) s w = absurd w
atom-ends (inline.Code t) s (n, content, e, same) = marked (suc n) 96 content s (omega arith) (omega arith) e
atom-ends (inline.Html t) s (same, (inside, e)) = enclosed 60 62 inside s (omega arith) (omega arith) e
atom-ends inline.Soft s (n, few, e) = broken n s e
atom-ends inline.Hard s (inl (n, many, e)) = broken n s e
atom-ends inline.Hard s (inr e) = enclosed 92 10 [] s (omega arith) (omega arith) e
atom-ends (inline.Emph is) s w = absurd w
atom-ends (inline.Strong is) s w = absurd w
atom-ends (inline.Strike is) s w = absurd w
atom-ends (inline.Link d t is) s (text, e, to, untitled, same) = enclosed 60 62 text s (omega arith) (omega arith) e
atom-ends (inline.Image d t is) s w = absurd w

bracket-starts : (image : Bool) (s : List ℕ) → (b : ℕ) × (others : List ℕ) × (bracket_text image ++ s ≡ b ∷ others) × (b < 128)
bracket-starts true s = (33, 91 ∷ s, refl, omega arith)
bracket-starts false s = (91, s, refl, omega arith)

-- the last byte of a tail, or the bracket before it
tail-ends : (tail : List ℕ) → IsTail tail → (before : List ℕ) × (b : ℕ) × (93 ∷ tail ≡ before ++ b ∷ []) × (b < 128)
tail-ends tail (inl e) = ([], 93, ap (λ t. 93 ∷ t) e, omega arith)
tail-ends tail (inr (inl (inside, e))) = (93 ∷ 40 ∷ inside, 41, ap (λ t. 93 ∷ t) e, omega arith)
tail-ends tail (inr (inr (inside, e))) = (93 ∷ 91 ∷ inside, 93, ap (λ t. 93 ∷ t) e, omega arith)

-- Boundaries

byte-low : (text front others : List ℕ) (b : ℕ) → text ≡ front ++ b ∷ others → b < 128 → get_or text (length front) 0 < 128
byte-low text front others b e low =
    omega (
      arith,
      low,
      ap (λ t. get_or t (length front) 0) e,
      ap (λ k. get_or (front ++ b ∷ others) k 0) same,
      get_or-append-add front (b ∷ others) 0 0,
    )
  where
    same : length front ≡ length front + 0
    same = omega arith

before-byte : (text front others : List ℕ) (b at : ℕ) → text ≡ front ++ b ∷ others → b < 128 → at ≡ length front → IsCharBoundary text at
before-byte text front others b at e low is =
    subst (λ k. IsCharBoundary text k) (sym is)
    (IsCharBoundary-before_ascii text (length front) (omega (arith, ap length e, length-append front (b ∷ others)))
    (byte-low text front others b e low))

after-byte : (text front others : List ℕ) (b at : ℕ) → IsUtf8 text → text ≡ front ++ b ∷ others → b < 128 → at ≡ length front + 1
    → IsCharBoundary text at
after-byte text front others b at utf8 e low is =
    subst (λ k. IsCharBoundary text k) (sym is)
    (IsCharBoundary-after_ascii text (length front) utf8 (omega (arith, ap length e, length-append front (b ∷ others)))
    (byte-low text front others b e low))

-- where a source starts that has such ends, and where it ends
start-of : (text front s back : List ℕ) → HasEnds s → text ≡ front ++ (s ++ back) → IsCharBoundary text (length front)
start-of text front s back h e =
    before-byte text front (h.others ++ back) h.first (length front) (e ∙ ap (λ t. front ++ (t ++ back)) h.starts) h.first_low refl

end-of : (text front s back : List ℕ) → IsUtf8 text → HasEnds s → text ≡ front ++ (s ++ back)
    → IsCharBoundary text (length front + length s)
end-of text front s back utf8 h e =
    after-byte text (front ++ h.before) back h.last (length front + length s) utf8
    (e ∙ ap (λ t. front ++ (t ++ back)) h.ends ∙ grouped front h.before (h.last ∷ []) back) h.last_low
    (omega (arith, ap length h.ends, length-append h.before (h.last ∷ []), length-append front h.before))
  where
    grouped : (x y z w : List ℕ) → x ++ ((y ++ z) ++ w) ≡ (x ++ y) ++ (z ++ w)
    grouped x y z w = simp append_assoc refl

encloses-low : (c n : ℕ) → encloses c n ≡ true → (1 ≤ n) × (c < 128)
encloses-low c n h = (grind (arith, nat_tests, h), grind (arith, nat_tests, h))

module _ (rules : Rules) (defined : Defined) where
  node-ends : (n : Node) (after : List ℕ) → is_text n ≡ false → IsCut rules defined n after → HasEnds (source_of n)
  unfolding source_of
  node-ends (textual t s) after h w = absurd (cc h)
  node-ends (atomic i s) after h w = atom-ends (out-Inline i) s (atom-written rules s i after w)
  node-ends (emphasis c n ns) after h w =
      let low = encloses-low c n w.0 in marked n c (sources_of ns) _ low.0 low.1 refl
  node-ends (bracketed image d t ns tail) after h w =
      let first = bracket-starts image (sources_of ns ++ (93 ∷ tail)) in
      let last = tail-ends tail (tails_are_written rules defined image d t ns tail after w) in
      record {
        first = first.0;
        others = first.1;
        starts = first.2;
        first_low = first.3;
        before = bracket_text image ++ (sources_of ns ++ last.0);
        last = last.1;
        ends = ap (λ t. bracket_text image ++ (sources_of ns ++ t)) last.2
            ∙ grouped (bracket_text image) (sources_of ns) last.0 (last.1 ∷ []);
        last_low = last.3;
      }
    where
      grouped : (x y z w : List ℕ) → x ++ (y ++ (z ++ w)) ≡ (x ++ (y ++ z)) ++ w
      grouped x y z w = simp append_assoc refl

  marks-ends : (n c : ℕ) → 1 ≤ n → c < 128 → HasEnds (replicate n c)
  marks-ends zero c some low = absurd (omega (arith, some))
  marks-ends (suc n) c some low =
      record {
        first = c;
        others = replicate n c;
        starts = refl;
        first_low = low;
        before = replicate n c;
        last = c;
        ends = marks-end n c;
        last_low = low;
      }

  bracket-ends : (image : Bool) → HasEnds (bracket_text image)
  bracket-ends true = enclosed 33 91 [] (bracket_text true) (omega arith) (omega arith) refl
  bracket-ends false =
      record {
        first = 91;
        others = [];
        starts = refl;
        first_low = omega arith;
        before = [];
        last = 91;
        ends = refl;
        last_low = omega arith;
      }

  tail-has_ends : (d t : List ℕ) (image : Bool) (ns : Nodes) (tail after : List ℕ)
      → IsCut rules defined (bracketed image d t ns tail) after → HasEnds (93 ∷ tail)
  tail-has_ends d t image ns tail after w =
      let last = tail-ends tail (tails_are_written rules defined image d t ns tail after w) in
      record {
        first = 93;
        others = tail;
        starts = refl;
        first_low = omega arith;
        before = last.0;
        last = last.1;
        ends = last.2;
        last_low = last.3;
      }

  first-part : (front mark others back : List ℕ) → front ++ ((mark ++ others) ++ back) ≡ front ++ (mark ++ (others ++ back))
  first-part front mark others back = ap (λ t. front ++ t) (append_assoc mark others back)

  sums : (front s others : List ℕ) → length front + length (s ++ others) ≡ length (front ++ s) + length others
  sums front s others = omega (arith, length-append s others, length-append front s)

  module _ (text : List ℕ) (utf8 : IsUtf8 text) where
    abbrev IsParted : ℕ → Type 0
    IsParted at = IsCharBoundary text at

    abbrev HasBoundaries : Place → Type 0
    HasBoundaries p = IsParted p.start × IsParted p.end

    -- between a node and those after it
    middle : (front back : List ℕ) (n : Node) (ns : Nodes) (after : List ℕ) → text ≡ front ++ ((source_of n ++ sources_of ns) ++ back)
        → AreCut rules defined (node n ns) after
        → (is_text n && starts_with_text ns) ≡ false → IsParted (length front + length (source_of n ++ sources_of ns))
        → IsParted (length front + length (source_of n))
    unfolding sources_of
    middle front back n ns after e w apart end = go (is_text n) refl ns e w apart end
      where
        go : (t : Bool) → is_text n ≡ t → (ns : Nodes) → text ≡ front ++ ((source_of n ++ sources_of ns) ++ back)
            → AreCut rules defined (node n ns) after
            → (is_text n && starts_with_text ns) ≡ false → IsParted (length front + length (source_of n ++ sources_of ns))
            → IsParted (length front + length (source_of n))
        go false h ns e w apart end =
            end-of text front (source_of n) (sources_of ns ++ back) utf8 (node-ends n _ h w.0)
            (e ∙ ap (λ t. front ++ t) (append_assoc (source_of n) (sources_of ns) back))
        go true h none e w apart end = subst (λ t. IsParted (length front + length t)) (append-nil (source_of n)) end
        go true h (node m ms) e w apart end =
            subst IsParted (length-append front (source_of n))
            (start-of text (front ++ source_of n) (source_of m) (sources_of ms ++ back)
            (node-ends m _ (sym (ap (λ v. v && is_text m) h) ∙ apart) w.1.0)
            (e ∙ grouped front (source_of n) (source_of m) (sources_of ms) back))
          where
            grouped : (x y z v w : List ℕ) → x ++ ((y ++ (z ++ v)) ++ w) ≡ (x ++ y) ++ (z ++ (v ++ w))
            grouped x y z v w = simp append_assoc refl

    from-start : (start from : ℕ) (ns : Nodes) → from ≡ start → Each HasBoundaries (places_from from ns)
        → Each HasBoundaries (places_from start ns)
    from-start start from ns e all = subst (λ k. Each HasBoundaries (places_from k ns)) e all

    -- the end of what is inside, before the marks after it
    last-part : (front mark inside end back : List ℕ) → HasEnds end → text ≡ front ++ ((mark ++ (inside ++ end)) ++ back)
        → IsParted (length (front ++ mark) + length inside)
    last-part front mark inside end back h e =
        subst IsParted (length-append (front ++ mark) inside)
        (start-of text ((front ++ mark) ++ inside) end back h (e ∙ grouped front mark inside end back))
      where
        grouped : (x y z v w : List ℕ) → x ++ ((y ++ (z ++ v)) ++ w) ≡ ((x ++ y) ++ z) ++ (v ++ w)
        grouped x y z v w = simp append_assoc refl

    mutual
      unfolding places_at places_from source_of sources_of

      parted-node : (front back : List ℕ) (n : Node) (after : List ℕ) → text ≡ front ++ (source_of n ++ back) → IsCut rules defined n after
          → ApartInside n
          → IsParted (length front) → IsParted (length front + length (source_of n)) → Each HasBoundaries (places_at (length front) n)
      parted-node front back (textual t s) after e w apart start end = ((start, end), tt)
      parted-node front back (atomic i s) after e w apart start end = ((start, end), tt)
      parted-node front back (emphasis c n ns) after e w apart start end =
          let marks = replicate n c in
          let low = encloses-low c n w.0 in (
            (start, end),
            from-start (length front + n) _ ns (length-append front marks ∙ ap (λ k. length front + k) (length-replicate n c))
                (parted-nodes (front ++ marks) (marks ++ back) ns _ (e ∙ sym (within front marks (sources_of ns) marks back)) w.1 apart
                (subst IsParted (sym (length-append front marks))
                (end-of text front marks ((sources_of ns ++ marks) ++ back) utf8 (marks-ends n c low.0 low.1)
                (e ∙ first-part front marks (sources_of ns ++ marks) back)))
                (last-part front marks (sources_of ns) marks back (marks-ends n c low.0 low.1) e)),
          )
      parted-node front back (bracketed image d t ns tail) after e w apart start end =
          let mark = bracket_text image in
          let whole = sym (within front mark (sources_of ns) (93 ∷ tail) back) in (
            (start, end),
            from-start (length front + length mark) _ ns (length-append front mark)
                (parted-nodes (front ++ mark) ((93 ∷ tail) ++ back) ns _ (e ∙ whole) w.1 apart
                (subst IsParted (sym (length-append front mark))
                (end-of text front mark ((sources_of ns ++ (93 ∷ tail)) ++ back) utf8 (bracket-ends image)
                (e ∙ first-part front mark (sources_of ns ++ (93 ∷ tail)) back)))
                (last-part front mark (sources_of ns) (93 ∷ tail) back (tail-has_ends d t image ns tail after w) e)),
          )

      parted-nodes : (front back : List ℕ) (ns : Nodes) (after : List ℕ) → text ≡ front ++ (sources_of ns ++ back)
          → AreCut rules defined ns after → AreApart ns
          → IsParted (length front) → IsParted (length front + length (sources_of ns)) → Each HasBoundaries (places_from (length front) ns)
      parted-nodes front back none after e w apart start end = tt
      parted-nodes front back (node n ns) after e w apart start end =
          let between = middle front back n ns after e w apart.0 end in
          each-append HasBoundaries (places_at (length front) n) (places_from (length front + length (source_of n)) ns)
          (parted-node front (sources_of ns ++ back) n _
          (e ∙ ap (λ t. front ++ t) (append_assoc (source_of n) (sources_of ns) back)) w.0 apart.1 start between)
          (from-start (length front + length (source_of n)) _ ns (length-append front (source_of n))
          (parted-nodes (front ++ source_of n) back ns after (e ∙ sym (beyond front (source_of n) (sources_of ns) back)) w.1 apart.2
          (subst IsParted (sym (length-append front (source_of n))) between)
          (subst IsParted (sums front (source_of n) (sources_of ns)) end)))

pub places_part_characters : PlacesPartCharacters
places_part_characters rules defined source nodes into utf8 =
    let c = source-cut rules defined source in
    let same = one_cut rules defined _ source [] c.nodes nodes c.into into in
    All-from_recursion (HasBoundaries rules defined source utf8) (places_of nodes)
    (parted-nodes rules defined source utf8 [] [] nodes [] (sym into.whole ∙ sym (append-nil (sources_of nodes))) into.cut
    (subst AreApart same c.apart)
    (IsCharBoundary-start source utf8)
    (subst (IsCharBoundary source) (sym (zero-add (length (sources_of nodes)) ∙ ap length into.whole)) (IsCharBoundary-end source)))
