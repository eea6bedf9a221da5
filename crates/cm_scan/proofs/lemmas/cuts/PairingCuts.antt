-- Pairing keeps the source of items.
use Rattle.std.proofs.Common.{◌≡◌, ℕ, zero, suc, ◌+◌, ◌-◌, ◌≤◌, Bool, true, false, cond, ◌&&◌, List, [], ◌∷◌, ◌++◌, replicate, Option, Some, None, refl, sym, ap, subst, ◌∙◌, arith, append_assoc, append-nil, nat_le, if◌then◌else◌, sum_by}
use Rattle.std.proofs.lemmas.Bool.Decides.{nat_tests}
use Rattle.std.proofs.lemmas.List.{replicate-append-replicate}
use Rattle.cm_tree.specs.declared.tree.Inline.{Inline}
use Rattle.cm_text.specs.Rules.{Rules}
use Rattle.cm_scan.specs.inlines.Brackets.{Defined}
use Rattle.cm_scan.specs.inlines.Delimiters.{Run}
use Rattle.cm_scan.specs.inlines.Pairing.{Item, Finished, Delimiters, bracket_text, text_before, settled_after, settled, used, emphasised, without, paired, pair_once, pairs_within, room, pair_all, emphasis_of}
use Rattle.cm_scan.specs.inlines.Cuts.{Node, textual, emphasis, Nodes, none, node, inline_of, inlines_of, source_of, sources_of, IsTextOf, encloses, IsCut, AreCut, CutInto}
use Rattle.cm_scan.specs.laws.CutLaws.{is_itself}
use Rattle.cm_scan.proofs.lemmas.inlines.PairingLemmas.{together, Split, leftmost-splits}
use Rattle.cm_scan.proofs.lemmas.cuts.ResolvedTexts.{texts-joined, text-itself, run-itself, bracket-itself, nothing-written}
use Rattle.cm_scan.proofs.lemmas.cuts.AtomsTaken.{may_be_left}
use Rattle.cm_scan.proofs.lemmas.cuts.PlacedItems.{is_text, starts_with_text, ApartInside, AreApart, Placed, characters, finished, linked, waiting, opener, item_of, items_of, pieces_of, items-join, pieces-join, IsPlaced, ArePlaced, are-joined, are-front, are-back}

-- Items that stand for placed ones are split where they are.
record Halves (ps : List Placed) (front : List Item) (run : Run) (back : List Item) : Type 0 where
  pub before : List Placed
  pub after : List Placed
  pub whole : ps ≡ before ++ waiting run ∷ after
  pub fronts : items_of before ≡ front
  pub backs : items_of after ≡ back

is_run : Item → Bool
is_run (Delimiters run) = true
is_run _ = false

run_in : Run → Item → Run
run_in or (Delimiters run) = run
run_in or _ = or

first_of_items : Item → List Item → Item
first_of_items or [] = or
first_of_items or (i ∷ is) = i

rest_of_items : List Item → List Item
rest_of_items [] = []
rest_of_items (i ∷ is) = is

is_some_run : (p : Placed) (run : Run) → item_of p ≡ Delimiters run → p ≡ waiting run
unfolding is_run run_in
is_some_run (characters t s) run e = absurd (cc e)
is_some_run (finished n) run e = absurd (cc e)
is_some_run (linked n) run e = absurd (cc e)
is_some_run (opener b a) run e = absurd (cc e)
is_some_run (waiting r) run e = ap (λ (x : Run). waiting x) (ap (run_in run) e)

first-is : (i j : Item) (is js : List Item) → (i ∷ is) ≡ (j ∷ js) → i ≡ j
unfolding first_of_items
first-is i j is js e = ap (first_of_items i) e

rest-is : (i j : Item) (is js : List Item) → (i ∷ is) ≡ (j ∷ js) → is ≡ js
unfolding rest_of_items
rest-is i j is js e = ap rest_of_items e

is_nothing : List Item → Bool
is_nothing [] = true
is_nothing (i ∷ is) = false

halves : (ps : List Placed) (front : List Item) (run : Run) (back : List Item) → items_of ps ≡ front ++ Delimiters run ∷ back
    → Halves ps front run back
unfolding items_of is_nothing
halves [] [] run back e = absurd (cc e)
halves [] (i ∷ front) run back e = absurd (cc e)
halves (p ∷ ps) [] run back e = record {
  before = [];
  after = ps;
  whole = ap (λ q. q ∷ ps) (is_some_run p run (first-is (item_of p) (Delimiters run) (items_of ps) back e));
  fronts = refl;
  backs = rest-is (item_of p) (Delimiters run) (items_of ps) back e;
}
halves (p ∷ ps) (i ∷ front) run back e =
    let h = halves ps front run back (rest-is (item_of p) i (items_of ps) (front ++ Delimiters run ∷ back) e) in
    record {
      before = p ∷ h.before;
      after = h.after;
      whole = ap (λ l. p ∷ l) h.whole;
      fronts = ap (λ l. item_of p ∷ l) h.fronts
          ∙ ap (λ j. j ∷ front) (first-is (item_of p) i (items_of ps) (front ++ Delimiters run ∷ back) e);
      backs = h.backs;
    }

-- what is left of a run, placed
left_of : ℕ → Run → List Placed
left_of n r = if nat_le r.left n then [] else waiting (record r { left = r.left - n }) ∷ []

items-left : (n : ℕ) (r : Run) → items_of (left_of n r) ≡ without n r
unfolding items_of left_of
items-left n r = go (nat_le r.left n)
  where
    go : (b : Bool)
        → items_of (cond b [] (waiting (record r {
          left = r.left - n;
        }) ∷ [])) ≡ cond b [] (Delimiters (record r { left = r.left - n }) ∷ [])
    go true = refl
    go false = refl

-- what is left of an opener, and then what a pair used of it
pieces-left : (n : ℕ) (r : Run) → n ≤ r.left → pieces_of (left_of n r) ++ replicate n r.character ≡ replicate r.left r.character
unfolding pieces_of left_of
pieces-left n r h = go (nat_le r.left n) refl
  where
    go : (b : Bool) → nat_le r.left n ≡ b
        → pieces_of (cond b [] (waiting (record r { left = r.left - n }) ∷ [])) ++ replicate n r.character ≡ replicate r.left r.character
    go true e = ap (λ k. replicate k r.character) all
      where
        all : n ≡ r.left
        all = grind (arith, e, h)
    go false e =
        ap (λ t. t ++ replicate n r.character) (append-nil (replicate (r.left - n) r.character))
        ∙ replicate-append-replicate (r.left - n) n r.character ∙ ap (λ k. replicate k r.character) all
      where
        all : (r.left - n) + n ≡ r.left
        all = omega (arith, h)

-- what a pair used of a closer, and then what is left of it
pieces-after : (n : ℕ) (r : Run) → n ≤ r.left → replicate n r.character ++ pieces_of (left_of n r) ≡ replicate r.left r.character
unfolding pieces_of left_of
pieces-after n r h = go (nat_le r.left n) refl
  where
    go : (b : Bool) → nat_le r.left n ≡ b
        → replicate n r.character ++ pieces_of (cond b [] (waiting (record r { left = r.left - n }) ∷ [])) ≡ replicate r.left r.character
    go true e = append-nil (replicate n r.character) ∙ ap (λ k. replicate k r.character) all
      where
        all : n ≡ r.left
        all = grind (arith, e, h)
    go false e =
        ap (λ t. replicate n r.character ++ t) (append-nil (replicate (r.left - n) r.character))
        ∙ replicate-append-replicate n (r.left - n) r.character ∙ ap (λ k. replicate k r.character) all
      where
        all : n + (r.left - n) ≡ r.left
        all = omega (arith, h)

-- What is left of runs

some-left : (character left : ℕ) → may_be_left character left ≡ true → 1 ≤ left
some-left character left h = grind (arith, nat_tests, h)

left-itself : (character left : ℕ) → may_be_left character left ≡ true → is_itself character ≡ true
left-itself character left h = grind (arith, nat_tests, h)

-- two characters of each if both have two left
abbrev used_of : ℕ → ℕ → ℕ
used_of l m = if nat_le 2 l && nat_le 2 m then 2 else 1

used-fits : (l m : ℕ) → 1 ≤ l → 1 ≤ m → (used_of l m ≤ l) × (used_of l m ≤ m)
used-fits l m p q = go (nat_le 2 l && nat_le 2 m) refl
  where
    go : (b : Bool) → (nat_le 2 l && nat_le 2 m) ≡ b → (cond b 2 1 ≤ l) × (cond b 2 1 ≤ m)
    go true e = (grind (arith, nat_tests, e), grind (arith, nat_tests, e))
    go false e = (p, q)

used-encloses : (character l m : ℕ) → may_be_left character l ≡ true → may_be_left character m ≡ true
    → encloses character (used_of l m) ≡ true
used-encloses character l m h k = go (nat_le 2 l && nat_le 2 m) refl
  where
    go : (b : Bool) → (nat_le 2 l && nat_le 2 m) ≡ b → encloses character (cond b 2 1) ≡ true
    go true e = grind (arith, nat_tests, h)
    go false e = grind (arith, nat_tests, h, k, e)

more-left : (character l n : ℕ) → may_be_left character l ≡ true → encloses character n ≡ true → nat_le l n ≡ false
    → may_be_left character (l - n) ≡ true
more-left character l n h k e = grind (arith, nat_tests, h, k, e)

regrouped : {A : Type 0} (pb lo r s lc pa : List A)
    → ((pb ++ lo) ++ ((r ++ (s ++ r)) ++ lc)) ++ pa ≡ (pb ++ ((lo ++ r) ++ s)) ++ ((r ++ lc) ++ pa)
regrouped pb lo r s lc pa = simp append_assoc refl

three : {A : Type 0} (m l a x : List A) → ((m ++ l) ++ a) ++ x ≡ m ++ (l ++ (a ++ x))
three m l a x = simp append_assoc refl

many : {A : Type 0} (lo m s lc a x : List A) → ((lo ++ m) ++ s) ++ (((m ++ lc) ++ a) ++ x) ≡ lo ++ (((m ++ (s ++ m)) ++ lc) ++ (a ++ x))
many lo m s lc a x = simp append_assoc refl

module _ (rules : Rules) (defined : Defined) where
  -- some nodes into which the source is cut
  pub record Cuts (inlines : List Inline) (source after : List ℕ) : Type 0 where
    pub nodes : Nodes
    pub into : CutInto rules defined nodes inlines source after
    pub apart : AreApart nodes

  abbrev Are : List Placed → (after : List ℕ) → Type 0
  Are = ArePlaced rules defined

  -- settling

  cut-node : (n : Node) (inlines : List Inline) (source after : List ℕ) → IsCut rules defined n (source ++ after)
      → (c : Cuts inlines source after) → (is_text n && starts_with_text c.nodes) ≡ false → ApartInside n
      → Cuts (inline_of n ∷ inlines) (source_of n ++ source) after
  unfolding inlines_of sources_of
  cut-node n inlines source after w c apart inside = record {
    nodes = node n c.nodes;
    into = record {
      inlines_are = ap (λ l. inline_of n ∷ l) c.into.inlines_are;
      whole = ap (λ t. source_of n ++ t) c.into.whole;
      cut = (subst (λ t. IsCut rules defined n (t ++ after)) (sym c.into.whole) w, c.into.cut);
    };
    apart = (apart, inside, c.apart);
  }

  cut-text : (u s : List ℕ) (inlines : List Inline) (source after : List ℕ) → IsTextOf u s (source ++ after)
      → (c : Cuts inlines source after) → starts_with_text c.nodes ≡ false → Cuts (text_before u inlines) (s ++ source) after
  unfolding inline_of source_of
  cut-text [] s inlines source after t c apart =
      subst (λ l. Cuts inlines (l ++ source) after) (sym (nothing-written s (source ++ after) t)) c
  cut-text (b ∷ bs) s inlines source after t c apart = cut-node (textual (b ∷ bs) s) inlines source after t c apart tt

  cut-nothing : (after : List ℕ) → Cuts [] [] after
  unfolding inlines_of sources_of
  cut-nothing after = record { nodes = none; into = record { inlines_are = refl; whole = refl; cut = tt }; apart = tt }

  with-source : (inlines : List Inline) (s t after : List ℕ) → s ≡ t → Cuts inlines s after → Cuts inlines t after
  with-source inlines s t after e c = subst (λ l. Cuts inlines l after) e c

  -- a text before what isn't text
  cut-both : (u s : List ℕ) (n : Node) (inlines : List Inline) (source after : List ℕ) → IsTextOf u s ((source_of n ++ source) ++ after)
      → IsPlaced rules defined (finished n) (source ++ after) → Cuts inlines source after
      → Cuts (text_before u (inline_of n ∷ inlines)) (s ++ (source_of n ++ source)) after
  unfolding cut-node
  cut-both u s n inlines source after t w c =
      cut-text u s (inline_of n ∷ inlines) (source_of n ++ source) after t
      (cut-node n inlines source after w.0 c (ap (λ v. v && starts_with_text c.nodes) w.1) w.2) w.1

  -- a text before a piece with text
  joined : (u s v r ps after : List ℕ) → IsTextOf u s ((r ++ ps) ++ after) → IsTextOf v r (ps ++ after)
      → IsTextOf (u ++ v) (s ++ r) (ps ++ after)
  joined u s v r ps after t w = texts-joined u s v r (ps ++ after) (subst (IsTextOf u s) (append_assoc r ps after) t) w

  cut-settled : (u s : List ℕ) (ps : List Placed) (after : List ℕ) → IsTextOf u s (pieces_of ps ++ after) → Are ps after
      → Cuts (settled_after u (items_of ps)) (s ++ pieces_of ps) after
  unfolding settled_after items_of pieces_of cut-nothing
  cut-settled u s [] after t w = cut-text u s [] [] after t (cut-nothing after) refl
  cut-settled u s (characters v r ∷ ps) after t w =
      with-source _ _ _ after (append_assoc s r (pieces_of ps))
      (cut-settled (u ++ v) (s ++ r) ps after (joined u s v r (pieces_of ps) after t w.0) w.1)
  cut-settled u s (finished n ∷ ps) after t w = cut-both u s n _ _ after t w.0 (cut-settled [] [] ps after (text-itself [] _ refl) w.1)
  cut-settled u s (linked n ∷ ps) after t w = cut-both u s n _ _ after t w.0 (cut-settled [] [] ps after (text-itself [] _ refl) w.1)
  cut-settled u s (waiting run ∷ ps) after t w =
      let left = replicate run.left run.character in
      with-source _ _ _ after (append_assoc s left (pieces_of ps))
      (cut-settled (u ++ left) (s ++ left) ps after
      (joined u s left left (pieces_of ps) after t (run-itself run.left run.character _ (left-itself run.character run.left w.0))) w.1)
  cut-settled u s (opener image seen ∷ ps) after t w =
      let left = bracket_text image in
      with-source _ _ _ after (append_assoc s left (pieces_of ps))
      (cut-settled (u ++ left) (s ++ left) ps after (joined u s left left (pieces_of ps) after t (bracket-itself image _)) w.1)

  -- a pair

  -- Placed items that stand for these, and whose pieces are this source.
  record Stand (items : List Item) (source after : List ℕ) : Type 0 where
    pub placed : List Placed
    pub items_are : items_of placed ≡ items
    pub whole : pieces_of placed ≡ source
    pub are : Are placed after

  are-left : (n : ℕ) (r : Run) (after : List ℕ) → may_be_left r.character r.left ≡ true → encloses r.character n ≡ true
      → Are (left_of n r) after
  unfolding left_of
  are-left n r after h k = go (nat_le r.left n) refl
    where
      go : (b : Bool) → nat_le r.left n ≡ b → Are (cond b [] (waiting (record r { left = r.left - n }) ∷ [])) after
      go true e = tt
      go false e = (more-left r.character r.left n h k e, tt)

  settled-cut : (ps : List Placed) (after : List ℕ) → Are ps after → Cuts (settled (items_of ps)) (pieces_of ps) after
  settled-cut ps after w = cut-settled [] [] ps after (text-itself [] _ refl) w

  pair-stands : (before inside after : List Placed) (o c : Run) (x : List ℕ) → o.character ≡ c.character
      → Are ((before ++ waiting o ∷ inside) ++ waiting c ∷ after) x
      → Stand (paired (items_of before) o (items_of inside) c (items_of after))
      (pieces_of ((before ++ waiting o ∷ inside) ++ waiting c ∷ after)) x
  unfolding paired inline_of source_of items_of pieces_of
  pair-stands before inside after o c x same w =
      record {
        placed = ((before ++ lo) ++ (finished (made inner.nodes) ∷ lc)) ++ after;
        items_are =
            items-join ((before ++ lo) ++ (finished (made inner.nodes) ∷ lc)) after
            ∙ ap (λ t. t ++ items_of after) (items-join (before ++ lo) (finished (made inner.nodes) ∷ lc)
            ∙ ap (λ t. t ++ (Finished (emphasised c.character n (inlines_of inner.nodes)) ∷ items_of lc))
            (items-join before lo ∙ ap (λ t. items_of before ++ t) (items-left n o))
            ∙ ap (λ t. (items_of before ++ without n o) ++ (Finished (emphasised c.character n (inlines_of inner.nodes)) ∷ t))
            (items-left n c)
            ∙ ap (λ t. (items_of before ++ without n o) ++ (Finished (emphasised c.character n t) ∷ without n c)) inner.into.inlines_are);
        whole = whole-is inner.nodes inner.into.whole;
        are = are-joined rules defined ((before ++ lo) ++ (finished (made inner.nodes) ∷ lc)) after x
            (are-joined rules defined (before ++ lo) (finished (made inner.nodes) ∷ lc) (pa ++ x)
            (are-joined rules defined before lo ((source_of (made inner.nodes) ++ pieces_of lc) ++ (pa ++ x))
            (subst (Are before) (front-context inner.nodes inner.into.whole) front)
            (are-left n o _ middle.0 (ap (λ k. encloses k n) same ∙ enclosing))) (
              ((enclosing, subst (AreCut rules defined inner.nodes) inner-context inner.into.cut), refl, inner.apart),
              are-left n c (pa ++ x) back.0 enclosing,
            ))
            (back.1);
      }
    where
      n : ℕ
      n = used o c

      lo : List Placed
      lo = left_of n o

      lc : List Placed
      lc = left_of n c

      marks : List ℕ
      marks = replicate n c.character

      pb : List ℕ
      pb = pieces_of before

      pi : List ℕ
      pi = pieces_of inside

      pa : List ℕ
      pa = pieces_of after

      ro : List ℕ
      ro = replicate o.left o.character

      rc : List ℕ
      rc = replicate c.left c.character

      made : Nodes → Node
      made nodes = emphasis c.character n nodes

      whole-front : Are (before ++ waiting o ∷ inside) ((rc ++ pa) ++ x)
      whole-front = are-front rules defined (before ++ waiting o ∷ inside) (waiting c ∷ after) x w

      back : Are (waiting c ∷ after) x
      back = are-back rules defined (before ++ waiting o ∷ inside) (waiting c ∷ after) x w

      front : Are before ((ro ++ pi) ++ ((rc ++ pa) ++ x))
      front = are-front rules defined before (waiting o ∷ inside) ((rc ++ pa) ++ x) whole-front

      middle : Are (waiting o ∷ inside) ((rc ++ pa) ++ x)
      middle = are-back rules defined before (waiting o ∷ inside) ((rc ++ pa) ++ x) whole-front

      inner : Cuts (settled (items_of inside)) pi ((rc ++ pa) ++ x)
      inner = settled-cut inside ((rc ++ pa) ++ x) middle.1

      fits : (n ≤ o.left) × (n ≤ c.left)
      fits = used-fits o.left c.left (some-left o.character o.left middle.0) (some-left c.character c.left back.0)

      enclosing : encloses c.character n ≡ true
      enclosing = used-encloses c.character o.left c.left (ap (λ k. may_be_left k o.left) (sym same) ∙ middle.0) back.0

      opener-marks : pieces_of lo ++ marks ≡ ro
      opener-marks = ap (λ b. pieces_of lo ++ replicate n b) (sym same) ∙ pieces-left n o fits.0

      closer-marks : marks ++ pieces_of lc ≡ rc
      closer-marks = pieces-after n c fits.1

      inner-context : (rc ++ pa) ++ x ≡ marks ++ (pieces_of lc ++ (pa ++ x))
      inner-context = ap (λ t. (t ++ pa) ++ x) (sym closer-marks) ∙ three marks (pieces_of lc) pa x

      front-context : (nodes : Nodes) → sources_of nodes ≡ pi
          → (ro ++ pi) ++ ((rc ++ pa) ++ x) ≡ pieces_of lo ++ ((source_of (made nodes) ++ pieces_of lc) ++ (pa ++ x))
      front-context nodes e =
          ap (λ t. (t ++ pi) ++ ((rc ++ pa) ++ x)) (sym opener-marks)
          ∙ ap (λ t. ((pieces_of lo ++ marks) ++ pi) ++ ((t ++ pa) ++ x)) (sym closer-marks)
          ∙ ap (λ t. ((pieces_of lo ++ marks) ++ t) ++ (((marks ++ pieces_of lc) ++ pa) ++ x)) (sym e)
          ∙ many (pieces_of lo) marks (sources_of nodes) (pieces_of lc) pa x

      whole-is : (nodes : Nodes) → sources_of nodes ≡ pi
          → pieces_of (((before ++ lo) ++ (finished (made nodes) ∷ lc)) ++ after) ≡ pieces_of
          ((before ++ waiting o ∷ inside) ++ waiting c ∷ after)
      whole-is nodes e =
          pieces-join ((before ++ lo) ++ (finished (made nodes) ∷ lc)) after
          ∙ ap (λ t. t ++ pa) (pieces-join (before ++ lo) (finished (made nodes) ∷ lc)
          ∙ ap (λ t. t ++ ((marks ++ (sources_of nodes ++ marks)) ++ pieces_of lc)) (pieces-join before lo))
          ∙ ap (λ s. ((pb ++ pieces_of lo) ++ ((marks ++ (s ++ marks)) ++ pieces_of lc)) ++ pa) e
          ∙ regrouped pb (pieces_of lo) marks pi (pieces_of lc) pa
          ∙ ap (λ t. (pb ++ (t ++ pi)) ++ ((marks ++ pieces_of lc) ++ pa)) opener-marks
          ∙ ap (λ t. (pb ++ (ro ++ pi)) ++ (t ++ pa)) closer-marks
          ∙ sym (pieces-join (before ++ waiting o ∷ inside) (waiting c ∷ after)
          ∙ ap (λ t. t ++ (rc ++ pa)) (pieces-join before (waiting o ∷ inside)))

  -- One pair after another.

  pair-keeps : (ps : List Placed) (out : List Item) (x : List ℕ) → Are ps x → pair_once (items_of ps) ≡ Some out
      → Stand out (pieces_of ps) x
  pair-keeps ps out x w e = go (leftmost-splits [] (items_of ps) out e)
    where
      go : Split (items_of ps) out → Stand out (pieces_of ps) x
      go s =
          let h = halves ps (together s.found) s.closer s.after s.whole in
          let k = halves h.before s.found.before s.found.opener s.found.inside h.fronts in
          let all : ps ≡ (k.before ++ waiting s.found.opener ∷ k.after) ++ waiting s.closer ∷ h.after = h.whole
          ∙ ap (λ t. t ++ waiting s.closer ∷ h.after) k.whole in
          let made = pair-stands k.before k.after h.after s.found.opener s.closer x s.same
          (subst (λ l. ArePlaced rules defined l x) all w) in
          record {
            placed = made.placed;
            items_are = made.items_are ∙ ap (λ t. paired t s.found.opener (items_of k.after) s.closer (items_of h.after)) k.fronts
                ∙ ap (λ t. paired s.found.before s.found.opener t s.closer (items_of h.after)) k.backs
                ∙ ap (λ t. paired s.found.before s.found.opener s.found.inside s.closer t) h.backs ∙ sym s.result;
            whole = made.whole ∙ ap pieces_of (sym all);
            are = made.are;
          }

  pairs-keep : (n : ℕ) (ps : List Placed) (x : List ℕ) → Are ps x → Stand (pairs_within n (items_of ps)) (pieces_of ps) x
  unfolding pairs_within
  pairs-keep zero ps x w = record { placed = ps; items_are = refl; whole = refl; are = w }
  pairs-keep (suc n) ps x w = go (pair_once (items_of ps)) refl (λ qs v. pairs-keep n qs x v)
    where
      go : (o : Option (List Item)) → pair_once (items_of ps) ≡ o
          → ((qs : List Placed) → Are qs x → Stand (pairs_within n (items_of qs)) (pieces_of qs) x)
          → Stand (elim o as (λ _. List Item) [ Some more ↦ pairs_within n more | None ↦ items_of ps ]) (pieces_of ps) x
      go None e k = record { placed = ps; items_are = refl; whole = refl; are = w }
      go (Some more) e k =
          let one = pair-keeps ps more x w e in
          let all = k one.placed one.are in
          record {
            placed = all.placed;
            items_are = all.items_are ∙ ap (λ t. pairs_within n t) one.items_are;
            whole = all.whole
                ∙ one.whole;
            are = all.are;
          }

  pub pairing-keeps : (ps : List Placed) (x : List ℕ) → ArePlaced rules defined ps x → Cuts (emphasis_of (items_of ps)) (pieces_of ps) x
  unfolding pair_all
  pairing-keeps ps x w =
      let all = pairs-keep (sum_by room (items_of ps)) ps x w in
      let made = settled-cut all.placed x all.are in
      subst (λ l. Cuts l (pieces_of ps) x) (ap settled all.items_are) (subst (λ l. Cuts (settled (items_of all.placed)) l x) all.whole made)
