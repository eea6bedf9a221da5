-- Marks between places, joined, and with what is known of them later.
use Rattle.cm_inline.proofs.lemmas.Words.{◌≡◌, ℕ, ◌<◌, ◌≤◌, Bool, true, ◌&&◌, List, [], ◌∷◌, ◌++◌, length, refl, sym, ap, subst, ◌∙◌, arith, append_assoc}
use Rattle.cm_inline.proofs.lemmas.Words.{length-append, slice_range, list_all, and_parts, map-append, get_or_append_left, Targets, Link, Mark, Kind, HeldRun, rules}
use Rattle.cm_inline.proofs.lemmas.Words.{nat_tests}
use Rattle.cm_inline.specs.steps.pairing.States.{run_at}
use Rattle.cm_inline.specs.steps.Marks.{part_of, part_of_kind, texts, text_part, parts_between, stays_text, no_link, IsUnmarked, IsTargetIn, IsLinkIn, IsOfKind, AreLaid}
use Rattle.cm_inline.proofs.lemmas.SliceLemmas.{slice-both, slice-none}

-- text between three places
texts-both : (source : List ℕ) (from to end : ℕ) → from ≤ to → to ≤ end → texts (slice_range source from end) ≡ texts (slice_range source from to) ++ texts (slice_range source to end)
texts-both source from to end first second = ap texts (slice-both source from to end first second) ∙ map-append text_part (slice_range source from to) (slice_range source to end)

pub all-append : (p : ℕ → Bool) (xs ys : List ℕ) → list_all p xs ≡ true → list_all p ys ≡ true → list_all p (xs ++ ys) ≡ true
all-append p [] ys h g = g
all-append p (x ∷ xs) ys h g =
    let parts = and_parts (p x) (list_all p xs) h in
    ap (λ v. v && list_all p (xs ++ ys)) parts.0 ∙ all-append p xs ys parts.1 g

pub unmarked-join : (lines : Bool) (source : List ℕ) (from to end : ℕ) → IsUnmarked lines source from to → IsUnmarked lines source to end → IsUnmarked lines source from end
unmarked-join lines source from to end f g = record {
  between = (omega (arith, f.between.0, g.between.0), f.between.1, g.between.2);
  text = ap (list_all (stays_text lines)) (slice-both source from to end f.between.0 g.between.0) ∙ all-append (stays_text lines) (slice_range source from to) (slice_range source to end) f.text g.text;
}

module _ (lines : Bool) (source : List ℕ) (targets : Targets) (runs : List HeldRun) (links : List Link) where
  pub laid-low : (from to : ℕ) (ms : List Mark) → AreLaid lines source targets runs links from to ms → from ≤ to
  laid-low from to [] h = h.between.0
  laid-low from to (m ∷ ms) h = let rest = laid-low m.end to ms h.3 in omega (arith, h.0.between.0, h.1.0, rest)

  pub laid-join : (from mid to : ℕ) (ms ns : List Mark) → AreLaid lines source targets runs links from mid ms → AreLaid lines source targets runs links mid to ns → AreLaid lines source targets runs links from to (ms ++ ns)
  laid-join from mid to [] [] h g = unmarked-join lines source from mid to h g
  laid-join from mid to [] (n ∷ ns) h g = (unmarked-join lines source from mid n.at h g.0, g.1, g.2, g.3)
  laid-join from mid to (m ∷ ms) ns h g = (h.0, h.1, h.2, laid-join m.end mid to ms ns h.3 g)

  pub parts-join : (from mid to : ℕ) (ms ns : List Mark) → AreLaid lines source targets runs links from mid ms → AreLaid lines source targets runs links mid to ns
      → parts_between source targets links from to (ms ++ ns) ≡ parts_between source targets links from mid ms ++ parts_between source targets links mid to ns
  unfolding parts_between
  parts-join from mid to [] [] h g = texts-both source from mid to h.between.0 g.between.0
  parts-join from mid to [] (n ∷ ns) h g =
      let beyond = part_of source targets links n ∷ parts_between source targets links n.end to ns in
      ap (λ t. t ++ beyond) (texts-both source from mid n.at h.between.0 g.0.between.0) ∙ append_assoc (texts (slice_range source from mid)) (texts (slice_range source mid n.at)) beyond
  parts-join from mid to (m ∷ ms) ns h g =
      let text = texts (slice_range source from m.at) in
      ap (λ t. text ++ part_of source targets links m ∷ t) (parts-join m.end mid to ms ns h.3 g)
      ∙ sym (append_assoc text (part_of source targets links m ∷ parts_between source targets links m.end mid ms) (parts_between source targets links mid to ns))

  -- nothing between a place and itself
  pub parts-none : (at : ℕ) → parts_between source targets links at at [] ≡ []
  unfolding parts_between
  parts-none at = ap texts (slice-none source at)

  -- one mark alone
  pub parts-one : (m : Mark) → parts_between source targets links m.at m.end (m ∷ []) ≡ part_of source targets links m ∷ []
  unfolding parts_between
  parts-one m = ap (λ t. texts t ++ part_of source targets links m ∷ texts (slice_range source m.end m.end)) (slice-none source m.at) ∙ ap (λ t. part_of source targets links m ∷ texts t) (slice-none source m.end)

-- Runs as they were or later: of the same characters, and perhaps more of them.
abbrev pub Later : List HeldRun → List HeldRun → Type 0
Later old new = (number : ℕ) → number < length old → (number < length new) × ((run_at new number).run.marker ≡ (run_at old number).run.marker) × ((run_at new number).run.whole ≡ (run_at old number).run.whole)

pub later-more : (runs more : List HeldRun) → Later runs (runs ++ more)
later-more runs more number h =
    let same = get_or_append_left runs more _ number h in
    (omega (arith, h, length-append runs more), ap (λ (r : HeldRun). r.run.marker) same, ap (λ (r : HeldRun). r.run.whole) same)

module _ (lines : Bool) (source : List ℕ) (targets : Targets) (runs now : List HeldRun) (links more : List Link) (later : Later runs now) where
  link-later : (number : ℕ) → IsLinkIn source targets links number → IsLinkIn source targets (links ++ more) number
  link-later number h = record { known = omega (arith, h.known, length-append links more); target = subst (λ (l : Link). IsTargetIn source targets l.target) (sym (get_or_append_left links more no_link number h.known)) h.target }

  kind-later : (at end : ℕ) (kind : Kind) → IsOfKind source targets runs links at end kind → IsOfKind source targets now (links ++ more) at end kind
  kind-later at end kind h = grind (arith, nat_tests, link-later)

  pub laid-later : (from to : ℕ) (ms : List Mark) → AreLaid lines source targets runs links from to ms → AreLaid lines source targets now (links ++ more) from to ms
  laid-later from to [] h = h
  laid-later from to (m ∷ ms) h = (h.0, h.1, kind-later m.at m.end m.kind h.2, laid-later m.end to ms h.3)

  part-later : (at end : ℕ) (kind : Kind) → IsOfKind source targets runs links at end kind → part_of_kind source targets (links ++ more) at end kind ≡ part_of_kind source targets links at end kind
  part-later at end kind h = grind (arith, nat_tests, get_or_append_left)

  pub parts-later : (from to : ℕ) (ms : List Mark) → AreLaid lines source targets runs links from to ms → parts_between source targets (links ++ more) from to ms ≡ parts_between source targets links from to ms
  unfolding parts_between
  parts-later from to [] h = refl
  parts-later from to (m ∷ ms) h = search (rules, part-later, (parts-later m.end to ms h.3))
