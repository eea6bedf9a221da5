-- The texts of a definition in a text that holds many, while more is put after it.
use Rattle.std.proofs.Common.{◌≡◌, ℕ, ◌+◌, List, [], ◌++◌, length, refl, sym, ap, ◌∙◌, append_assoc}
use Rattle.std.specs.List.{slice_range}
use Rattle.std.specs.Str.{IsUtf8}
use Rattle.std.proofs.lemmas.List.{append-nil, length-append}
use Rattle.std.proofs.lemmas.Str.{IsUtf8-nil, IsUtf8-append}
use Rattle.cm_tree.specs.declared.kept_texts.KeptTexts.{KeptTexts}
use Rattle.cm_tree.specs.declared.kept_texts.KeptTexts.TheVariants as keeping
use Rattle.cm_tree.specs.RawBlocks.{IsBetween}
use Rattle.cm_tree.specs.steps.KeptTexts.{kept_label, kept_target, IsKept, Keeps, GoesOn}
use Rattle.cm_tree.proofs.lemmas.RawLemmas.{slice-same, slice-last, between-beyond}
use Rattle.cm_tree.proofs.lemmas.TargetLemmas.{goes-on, between-grows}

-- what lies between two places stays
same : (old new : List ℕ) (from to : ℕ) → GoesOn old new → IsBetween old from to → slice_range new from to ≡ slice_range old from to
same old new from to grows is = slice-same old grows.more new from to grows.is is.0 is.2.0

pub label-same : (old new : List ℕ) (keeper : KeptTexts) → GoesOn old new → IsKept old keeper → kept_label new keeper ≡ kept_label old keeper
label-same old new (keeping.Placed from label dest title) grows is = same old new from (from + label) grows is.0
label-same old new (keeping.Shared shared) grows is = refl

pub target-same : (old new : List ℕ) (keeper : KeptTexts) → GoesOn old new → IsKept old keeper → kept_target new keeper ≡ kept_target old keeper
target-same old new (keeping.Placed from label dest title) grows is =
    λ i. (same old new (from + label) (from + label + dest) grows is.1 i, same old new (from + label + dest) (from + label + dest + title) grows is.2 i)
target-same old new (keeping.Shared shared) grows is = refl

pub kept-grows : (old new : List ℕ) (keeper : KeptTexts) → GoesOn old new → IsKept old keeper → IsKept new keeper
kept-grows old new (keeping.Placed from label dest title) grows is = (
  between-grows old new from (from + label) grows is.0,
  between-grows old new (from + label) (from + label + dest) grows is.1,
  between-grows old new (from + label + dest) (from + label + dest + title) grows is.2,
)
kept-grows old new (keeping.Shared shared) grows is = tt

-- a text that is put after another, with more after it
part : (front text back new : List ℕ) (from to : ℕ) → new ≡ front ++ text ++ back → IsUtf8 text → IsUtf8 back → from ≡ length front → to ≡ length front + length text
    → IsBetween new from to × (slice_range new from to ≡ text)
part front text back new from to is text_utf8 back_utf8 begins ends =
    let at_end : to ≡ length (front ++ text) = ends ∙ sym (length-append front text) in
    let put : IsBetween (front ++ text) from to = between-beyond front text (front ++ text) from to refl text_utf8 begins at_end in (
      between-grows (front ++ text) new from to (goes-on (front ++ text) back new is back_utf8) put,
      slice-same (front ++ text) back new from to is put.0 put.2.0 ∙ slice-last front text (front ++ text) from to refl begins at_end,
    )

-- a label, a destination and a title after a text

module _ (old label dest title new : List ℕ) (is : new ≡ old ++ label ++ dest ++ title) (label_utf8 : IsUtf8 label) (dest_utf8 : IsUtf8 dest) (title_utf8 : IsUtf8 title) where
  first : new ≡ old ++ label ++ (dest ++ title)
  first = is ∙ append_assoc (old ++ label) dest title

  beyond_utf8 : IsUtf8 (dest ++ title)
  beyond_utf8 = IsUtf8-append dest title dest_utf8 title_utf8

  pub all-beyond : GoesOn old new
  all-beyond = goes-on old (label ++ (dest ++ title)) new (first ∙ append_assoc old label (dest ++ title)) (IsUtf8-append label (dest ++ title) label_utf8 beyond_utf8)

  pub keeps-beyond : (from : ℕ) → from ≡ length old → Keeps new (keeping.Placed from (length label) (length dest) (length title)) label (dest, title)
  keeps-beyond from begins =
      let label_ends : from + length label ≡ length old + length label = ap (λ n. n + length label) begins in
      let dest_begins : from + length label ≡ length (old ++ label) = label_ends ∙ sym (length-append old label) in
      let dest_ends : from + length label + length dest ≡ length (old ++ label) + length dest = ap (λ n. n + length dest) dest_begins in
      let title_begins : from + length label + length dest ≡ length (old ++ label ++ dest) = dest_ends ∙ sym (length-append (old ++ label) dest) in
      let title_ends : from + length label + length dest + length title ≡ length (old ++ label ++ dest) + length title = ap (λ n. n + length title) title_begins in
      let last : new ≡ old ++ label ++ dest ++ title ++ [] = is ∙ sym (append-nil (old ++ label ++ dest ++ title)) in
      let one = part old label (dest ++ title) new from (from + length label) first label_utf8 beyond_utf8 begins label_ends in
      let two = part (old ++ label) dest title new (from + length label) (from + length label + length dest) is dest_utf8 title_utf8 dest_begins dest_ends in
      let three = part (old ++ label ++ dest) title [] new (from + length label + length dest) (from + length label + length dest + length title) last title_utf8 IsUtf8-nil title_begins title_ends in
      record { there = (one.0, two.0, three.0); is_label = one.1; is_target = λ i. (two.1 i, three.1 i) }
