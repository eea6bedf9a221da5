-- A source is cut into given inlines in one way.
use Rattle.std.proofs.Common.{◌≡◌, ℕ, zero, suc, ◌≤◌, Bool, true, false, ◌==◌, List, [], ◌∷◌, ◌++◌, replicate, if◌then◌else◌, refl, sym, ap, subst, ◌∙◌, arith, append_assoc}
use Rattle.std.proofs.lemmas.Bool.{false≢true}
use Rattle.std.proofs.lemmas.Bool.Decides.{nat_tests}
use Rattle.std.proofs.lemmas.List.{append_cancel_left, append_cancel_right}
use Rattle.std.proofs.lemmas.Option.{same_Some}
use Rattle.cm_text.specs.Rules.{Rules}
use Rattle.cm_tree.specs.declared.tree.Inline.{Inline}
use Rattle.cm_tree.specs.declared.tree.Inline.TheVariants.{Text}
use Rattle.cm_scan.specs.inlines.Atoms.{AtomRead, Whole, OpenBracket, read, bang_atom, markup_atom, atom_at}
use Rattle.cm_scan.specs.inlines.Brackets.{Defined, LinkEnd, link_end, end_at}
use Rattle.cm_scan.specs.inlines.Pairing.{bracket_text, emphasised}
use Rattle.cm_scan.specs.Words.{after_word}
use Rattle.cm_scan.specs.inlines.Cuts.{Node, textual, atomic, emphasis, bracketed, Nodes, none, node, link_or_image, inline_of, inlines_of, source_of, sources_of, IsTextOf, first_atom, encloses, IsCut, AreCut}
use Rattle.cm_scan.specs.laws.CutLaws.{OneCut, PlainTextsAreSources, AtomsAreWritten, IsTail, TailsAreWritten}
use Rattle.cm_scan.proofs.lemmas.inlines.LeftByEachStep.{end_at-tail}
use Rattle.cm_scan.proofs.lemmas.cuts.InlineParts.{kind, kind-written, text, content, dest, title, kind-text, text-text, kind-link, content-link, dest-link, title-link, kind-emphasised, content-emphasised}
use Rattle.cm_scan.proofs.lemmas.cuts.ResolvedTexts.{same-end, taken_from, left_of, plain-text}
use Rattle.cm_scan.proofs.lemmas.cuts.AtomsTaken.{is_whole, atom-written, other_bytes}
use Rattle.cm_scan.proofs.lemmas.cuts.WrittenSpans.{first_byte}

-- what follows the same text is the same
text-end : (t s r a b : List ℕ) → s ++ a ≡ r ++ b → IsTextOf t s a → IsTextOf t r b → a ≡ b
text-end t s r a b same (n, e) (m, f) =
    sym (ap (λ (p : List ℕ × List ℕ). p.1) e)
    ∙ same-end n m (s ++ a) (ap (λ (p : List ℕ × List ℕ). p.0) e ∙ sym (ap (λ (p : List ℕ × List ℕ). p.0) f) ∙ ap (taken_from m) (sym same))
    ∙ ap (left_of m) same ∙ ap (λ (p : List ℕ × List ℕ). p.1) f

-- Inlines of different kinds

other-kind : (i j : Inline) (n m : ℕ) → i ≡ j → kind i ≡ n → kind j ≡ m → n ≡ m
other-kind i j n m e h k = sym h ∙ ap kind e ∙ k

emphasis-kind : (character count : ℕ) (is : List Inline)
    → (1 ≤ kind (emphasised character count is)) × (kind (emphasised character count is) ≤ 3)
emphasis-kind character count is = go (character == 126) (count == 2) (kind-emphasised character count is)
  where
    go : (s t : Bool) → kind (emphasised character count is) ≡ (if s then 3 else (if t then 2 else 1))
        → (1 ≤ kind (emphasised character count is)) × (kind (emphasised character count is) ≤ 3)
    go true t e = (omega (arith, e), omega (arith, e))
    go false true e = (omega (arith, e), omega (arith, e))
    go false false e = (omega (arith, e), omega (arith, e))

link-kind : (image : Bool) (d t : List ℕ) (is : List Inline) → 4 ≤ kind (link_or_image image d t is)
link-kind true d t is = omega (arith, kind-link true d t is)
link-kind false d t is = omega (arith, kind-link false d t is)

text-emphasis : (t : List ℕ) (character count : ℕ) (is : List Inline) → Text t ≡ emphasised character count is → ⊥
text-emphasis t character count is e = absurd (omega (arith, kind-text t, ap kind e, (emphasis-kind character count is).0))

text-link : (t : List ℕ) (image : Bool) (d u : List ℕ) (is : List Inline) → Text t ≡ link_or_image image d u is → ⊥
text-link t image d u is e = absurd (omega (arith, kind-text t, ap kind e, link-kind image d u is))

emphasis-link : (character count : ℕ) (js : List Inline) (image : Bool) (d u : List ℕ) (is : List Inline)
    → emphasised character count js ≡ link_or_image image d u is → ⊥
emphasis-link character count js image d u is e =
    absurd (omega (arith, ap kind e, (emphasis-kind character count js).1, link-kind image d u is))

-- a bracket is no inline by itself
bracket-alone : (rules : Rules) (image : Bool) (rest : List ℕ) (i : Inline) (a : List ℕ)
    → first_atom rules (bracket_text image ++ rest) ≡ read (Whole i) a → ⊥
unfolding atom_at markup_atom bang_atom after_word
bracket-alone rules true rest i a e =
    absurd (false≢true (ap (λ (x : AtomRead). is_whole x.atom) (same_Some (record { atom = OpenBracket true; rest = rest }) _ e)))
bracket-alone rules false rest i a e =
    absurd (false≢true (ap (λ (x : AtomRead). is_whole x.atom) (same_Some (record { atom = OpenBracket false; rest = rest }) _ e)))

-- Runs

encloses-some : (character count : ℕ) → encloses character count ≡ true → 1 ≤ count
encloses-some character count h = grind (arith, nat_tests, h)

first-of-run : (n b : ℕ) (rest : List ℕ) → 1 ≤ n → first_byte (replicate n b ++ rest) ≡ b
first-of-run zero b rest h = absurd (omega (arith, h))
first-of-run (suc n) b rest h = refl

-- the marks are given by their first character, and by what they make
same-count : (c n m : ℕ) (is js : List Inline) → encloses c n ≡ true → encloses c m ≡ true → emphasised c n is ≡ emphasised c m js → n ≡ m
same-count c n m is js h k e =
    go (c == 126) refl (n == 2) refl (m == 2) refl (sym (kind-emphasised c n is) ∙ ap kind e ∙ kind-emphasised c m js)
  where
    number : Bool → Bool → ℕ
    number t p = if t then 3 else (if p then 2 else 1)

    go : (t : Bool) → (c == 126) ≡ t → (p : Bool) → (n == 2) ≡ p → (q : Bool) → (m == 2) ≡ q → number t p ≡ number t q → n ≡ m
    go true f p g q l same = grind (arith, nat_tests, h, k, f)
    go false f true g true l same = grind (arith, nat_tests, g, l)
    go false f false g false l same = grind (arith, nat_tests, h, k, f, g, l)
    go false f true g false l same = absurd (omega (arith, same))
    go false f false g true l same = absurd (omega (arith, same))

module _ (rules : Rules) (defined : Defined) where
  Same : Node → Node → (a b : List ℕ) → Type 0
  Same n m a b = (n ≡ m) × (a ≡ b)

  abbrev Cut : Node → List ℕ → Type 0
  Cut = IsCut rules defined

  -- with the same after it, a source is the same too
  same-source : (s r a b : List ℕ) → s ++ a ≡ r ++ b → a ≡ b → s ≡ r
  same-source s r a b same e = append_cancel_right s r b (ap (λ t. s ++ t) (sym e) ∙ same)

  same-textual : (t s u r a b : List ℕ) → Text t ≡ Text u → s ++ a ≡ r ++ b → IsTextOf t s a → IsTextOf u r b
      → Same (textual t s) (textual u r) a b
  unfolding Same
  same-textual t s u r a b i same w v =
      let is : t ≡ u = sym (text-text t) ∙ ap text i ∙ text-text u in
      let e : a ≡ b = text-end u s r a b same (subst (λ x. IsTextOf x s a) is w) v in
      (ap (λ x. textual x s) is ∙ ap (λ x. textual u x) (same-source s r a b same e), e)

  same-atomic : (i : Inline) (s : List ℕ) (j : Inline) (r a b : List ℕ) → i ≡ j → s ++ a ≡ r ++ b
      → first_atom rules (s ++ a) ≡ read (Whole i) a → first_atom rules (r ++ b) ≡ read (Whole j) b
      → Same (atomic i s) (atomic j r) a b
  unfolding Same
  same-atomic i s j r a b is same w v =
      let e : a ≡ b = ap (λ (x : AtomRead). x.rest) (same_Some _ _ (sym w ∙ ap (first_atom rules) same ∙ v)) in
      (ap (λ x. atomic x s) is ∙ ap (λ x. atomic j x) (same-source s r a b same e), e)

  -- where the inlines inside are the same, with what follows them
  abbrev SameInside : Nodes → Nodes → Type 0
  SameInside ns ms =
      (a b : List ℕ) → inlines_of ns ≡ inlines_of ms → sources_of ns ++ a ≡ sources_of ms ++ b → AreCut rules defined ns a
      → AreCut rules defined ms b → (ns ≡ ms) × (a ≡ b)

  same-emphasis : (c n : ℕ) (ns : Nodes) (d m : ℕ) (ms : Nodes) (a b : List ℕ) → SameInside ns ms
      → emphasised c n (inlines_of ns) ≡ emphasised d m (inlines_of ms)
      → (replicate n c ++ (sources_of ns ++ replicate n c)) ++ a ≡ (replicate m d ++ (sources_of ms ++ replicate m d)) ++ b
      → Cut (emphasis c n ns) a → Cut (emphasis d m ms) b
      → Same (emphasis c n ns) (emphasis d m ms) a b
  unfolding Same
  same-emphasis c n ns d m ms a b inside i same w v = (
    ap (λ x. emphasis x n ns) character ∙ ap (λ x. emphasis d x ns) count ∙ ap (λ x. emphasis d m x) content_same.0,
    append_cancel_left (replicate n c) a b (content_same.1 ∙ ap (λ x. x ++ b) (sym marks)),
  )
    where
      regroup : (x y z : List ℕ) → (x ++ (y ++ x)) ++ z ≡ x ++ (y ++ (x ++ z))
      regroup x y z = simp append_assoc refl

      whole : replicate n c ++ (sources_of ns ++ (replicate n c ++ a)) ≡ replicate m d ++ (sources_of ms ++ (replicate m d ++ b))
      whole = sym (regroup (replicate n c) (sources_of ns) a) ∙ same ∙ regroup (replicate m d) (sources_of ms) b

      character : c ≡ d
      character =
          sym (first-of-run n c (sources_of ns ++ (replicate n c ++ a)) (encloses-some c n w.0)) ∙ ap first_byte whole
          ∙ first-of-run m d (sources_of ms ++ (replicate m d ++ b)) (encloses-some d m v.0)

      count : n ≡ m
      count = same-count d n m (inlines_of ns) (inlines_of ms) (ap (λ x. encloses x n) (sym character) ∙ w.0) v.0
          (ap (λ x. emphasised x n (inlines_of ns)) (sym character) ∙ i)

      marks : replicate n c ≡ replicate m d
      marks = ap (λ x. replicate n x) character ∙ ap (λ k. replicate k d) count

      content_same : (ns ≡ ms) × (replicate n c ++ a ≡ replicate m d ++ b)
      content_same =
          inside (replicate n c ++ a) (replicate m d ++ b)
          (sym (content-emphasised c n (inlines_of ns)) ∙ ap content i ∙ content-emphasised d m (inlines_of ms))
          (append_cancel_left (replicate n c) _ _ (whole ∙ ap (λ x. x ++ (sources_of ms ++ (replicate m d ++ b))) (sym marks))) w.1 v.1

  same-image : (i j : Bool) (d t e u : List ℕ) (is js : List Inline) → link_or_image i d t is ≡ link_or_image j e u js → i ≡ j
  same-image true true d t e u is js h = refl
  same-image false false d t e u is js h = refl
  same-image true false d t e u is js h = absurd (omega (arith, kind-link true d t is, ap kind h, kind-link false e u js))
  same-image false true d t e u is js h = absurd (omega (arith, kind-link false d t is, ap kind h, kind-link true e u js))

  same-bracketed : (i : Bool) (d t : List ℕ) (ns : Nodes) (s : List ℕ) (j : Bool) (e u : List ℕ) (ms : Nodes) (r a b : List ℕ)
      → SameInside ns ms
      → link_or_image i d t (inlines_of ns) ≡ link_or_image j e u (inlines_of ms)
      → (bracket_text i ++ (sources_of ns ++ (93 ∷ s))) ++ a ≡ (bracket_text j ++ (sources_of ms ++ (93 ∷ r))) ++ b
      → Cut (bracketed i d t ns s) a → Cut (bracketed j e u ms r) b
      → Same (bracketed i d t ns s) (bracketed j e u ms r) a b
  unfolding Same
  same-bracketed i d t ns s j e u ms r a b inside is same w v = (
    ap (λ x. bracketed x d t ns s) image ∙ ap (λ x. bracketed j x t ns s) dest_same ∙ ap (λ x. bracketed j e x ns s) title_same
        ∙ ap (λ x. bracketed j e u x s) content_same.0 ∙ ap (λ x. bracketed j e u ms x) (same-source s r a b tails ends),
    ends,
  )
    where
      image : i ≡ j
      image = same-image i j d t e u (inlines_of ns) (inlines_of ms) is

      dest_same : d ≡ e
      dest_same = sym (dest-link i d t (inlines_of ns)) ∙ ap dest is ∙ dest-link j e u (inlines_of ms)

      title_same : t ≡ u
      title_same = sym (title-link i d t (inlines_of ns)) ∙ ap title is ∙ title-link j e u (inlines_of ms)

      regroup : (x y z k : List ℕ) → (x ++ (y ++ (93 ∷ z))) ++ k ≡ x ++ (y ++ (93 ∷ (z ++ k)))
      regroup x y z k = simp append_assoc refl

      whole : bracket_text i ++ (sources_of ns ++ (93 ∷ (s ++ a))) ≡ bracket_text j ++ (sources_of ms ++ (93 ∷ (r ++ b)))
      whole = sym (regroup (bracket_text i) (sources_of ns) s a) ∙ same ∙ regroup (bracket_text j) (sources_of ms) r b

      content_same : (ns ≡ ms) × (93 ∷ (s ++ a) ≡ 93 ∷ (r ++ b))
      content_same =
          inside (93 ∷ (s ++ a)) (93 ∷ (r ++ b))
          (sym (content-link i d t (inlines_of ns)) ∙ ap content is ∙ content-link j e u (inlines_of ms))
          (append_cancel_left (bracket_text i) _ _
          (whole ∙ ap (λ x. bracket_text x ++ (sources_of ms ++ (93 ∷ (r ++ b)))) (sym image))) w.1 v.1

      tails : s ++ a ≡ r ++ b
      tails = ap other_bytes content_same.1

      ends : a ≡ b
      ends = ap (λ (x : LinkEnd). x.rest) (same_Some (link_end (d, t) a) (link_end (e, u) b)
          (sym w.0 ∙ ap (λ x. end_at rules defined (sources_of x) (s ++ a)) content_same.0
          ∙ ap (λ x. end_at rules defined (sources_of ms) x) tails ∙ v.0))

  apart : {A : Type 0} → ⊥ → A
  apart e = absurd e

  alone-kind : (s : List ℕ) (i : Inline) (a : List ℕ) → first_atom rules (s ++ a) ≡ read (Whole i) a → 5 ≤ kind i
  alone-kind s i a h = kind-written i s (atom-written rules s i a h)

  alone-text : (s : List ℕ) (i : Inline) (a t : List ℕ) → i ≡ Text t → first_atom rules (s ++ a) ≡ read (Whole i) a → ⊥
  alone-text s i a t e h = absurd (omega (arith, alone-kind s i a h, ap kind e, kind-text t))

  alone-emphasis : (s : List ℕ) (i : Inline) (a : List ℕ) (c n : ℕ) (is : List Inline) → i ≡ emphasised c n is
      → first_atom rules (s ++ a) ≡ read (Whole i) a → ⊥
  alone-emphasis s i a c n is e h = absurd (omega (arith, alone-kind s i a h, ap kind e, (emphasis-kind c n is).1))

  alone-bracketed : (s : List ℕ) (i : Inline) (a : List ℕ) (image : Bool) (t b : List ℕ) → s ≡ (bracket_text image ++ t) ++ b
      → first_atom rules s ≡ read (Whole i) a → ⊥
  alone-bracketed s i a image t b e h =
      bracket-alone rules image (t ++ b) i a (ap (first_atom rules) (sym (append_assoc (bracket_text image) t b) ∙ sym e) ∙ h)

  abbrev first_inline : Inline → List Inline → Inline
  first_inline i [] = i
  first_inline i (j ∷ js) = j

  abbrev other_inlines : List Inline → List Inline
  other_inlines [] = []
  other_inlines (j ∷ js) = js

  mutual
    unfolding inline_of inlines_of source_of sources_of Same

    same-node : (n m : Node) (a b : List ℕ) → inline_of n ≡ inline_of m → source_of n ++ a ≡ source_of m ++ b → Cut n a → Cut m b
        → Same n m a b
    same-node (textual t s) (textual u r) a b i same w v = same-textual t s u r a b i same w v
    same-node (atomic i s) (atomic j r) a b is same w v = same-atomic i s j r a b is same w v
    same-node (emphasis c n ns) (emphasis d m ms) a b i same w v = same-emphasis c n ns d m ms a b (λ x y. same-nodes ns ms x y) i same w v
    same-node (bracketed i d t ns s) (bracketed j e u ms r) a b is same w v =
        same-bracketed i d t ns s j e u ms r a b (λ x y. same-nodes ns ms x y) is same w v
    same-node (textual t s) (atomic j r) a b i same w v = apart (alone-text r j b t (sym i) v)
    same-node (textual t s) (emphasis d m ms) a b i same w v = apart (text-emphasis t d m _ i)
    same-node (textual t s) (bracketed j e u ms r) a b i same w v = apart (text-link t j e u _ i)
    same-node (atomic i s) (textual u r) a b is same w v = apart (alone-text s i a u is w)
    same-node (atomic i s) (emphasis d m ms) a b is same w v = apart (alone-emphasis s i a d m _ is w)
    same-node (atomic i s) (bracketed j e u ms r) a b is same w v = apart (alone-bracketed _ i a j _ b same w)
    same-node (emphasis c n ns) (textual u r) a b i same w v = apart (text-emphasis u c n _ (sym i))
    same-node (emphasis c n ns) (atomic j r) a b i same w v = apart (alone-emphasis r j b c n _ (sym i) v)
    same-node (emphasis c n ns) (bracketed j e u ms r) a b i same w v = apart (emphasis-link c n _ j e u _ i)
    same-node (bracketed i d t ns s) (textual u r) a b is same w v = apart (text-link u i d t _ (sym is))
    same-node (bracketed i d t ns s) (atomic j r) a b is same w v = apart (alone-bracketed _ j b i _ a (sym same) v)
    same-node (bracketed i d t ns s) (emphasis c n ms) a b is same w v = apart (emphasis-link c n _ i d t _ (sym is))

    same-nodes : (ns ms : Nodes) (a b : List ℕ) → inlines_of ns ≡ inlines_of ms → sources_of ns ++ a ≡ sources_of ms ++ b
        → AreCut rules defined ns a → AreCut rules defined ms b → (ns ≡ ms) × (a ≡ b)
    same-nodes none none a b i same w v = (refl, same)
    same-nodes none (node m ms) a b i same w v = absurd (cc i)
    same-nodes (node n ns) none a b i same w v = absurd (cc i)
    same-nodes (node n ns) (node m ms) a b i same w v =
        let first = same-node n m (sources_of ns ++ a) (sources_of ms ++ b) (ap (first_inline (inline_of n)) i)
        (sym (append_assoc (source_of n) (sources_of ns) a) ∙ same ∙ append_assoc (source_of m) (sources_of ms) b) w.0 v.0 in
        let others = same-nodes ns ms a b (ap other_inlines i) first.1 w.1 v.1 in
        (ap (λ x. node x ns) first.0 ∙ ap (λ x. node m x) others.0, others.1)

pub one_cut : OneCut
one_cut rules defined inlines source after nodes others w v =
    (same-nodes rules defined nodes others after after (w.inlines_are ∙ sym v.inlines_are)
    (ap (λ t. t ++ after) (w.whole ∙ sym v.whole)) w.cut v.cut).0

pub plain_texts_are_sources : PlainTextsAreSources
plain_texts_are_sources rules defined text source after w h = plain-text source text after w h

pub atoms_are_written : AtomsAreWritten
atoms_are_written rules defined inline source after w = atom-written rules source inline after w

pub tails_are_written : TailsAreWritten
tails_are_written rules defined image dest title inside tail after w =
    let t = end_at-tail rules defined (sources_of inside) (tail ++ after) (link_end (dest, title) after) w.0 in
    subst IsTail (append_cancel_right t.tail tail after (sym t.is)) t.law
