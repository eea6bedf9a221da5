-- Where the text of an inline is that contains no other.
use Rattle.cm_inline.proofs.lemmas.Words.{◌≡◌, ℕ, ◌+◌, ◌-◌, ◌≤◌, List, ◌∷◌, ◌++◌, length, take, drop}
use Rattle.cm_inline.proofs.lemmas.Words.{Option, Some, ap, arith, length-drop, IsUtf8, slice_range}
use Rattle.cm_inline.proofs.lemmas.Words.{Rules, before, Autolink}
use Rattle.cm_inline.proofs.lemmas.Words.{followed_autolink, whole_of, none-some, rules, nat_tests}
use Rattle.cm_scan.proofs.lemmas.spans.RawHtmlByFirstBytes.{Cut}
use Rattle.cm_scan.proofs.lemmas.spans.AutolinkPlaces.{linked, is-linked, link-cut as cut-of, link-size, link-text, link-start, link-end}
use Rattle.cm_inline.specs.steps.Standalone.{IsBetween}

-- what is between `<` and `>`
module _ (rules : Rules) (source : List ℕ) (at : ℕ) (link : Autolink) (within : at ≤ length source) (e : Some link ≡ followed_autolink rules (drop at source)) where
  there : drop at source ≡ 60 ∷ (link.text ++ 62 ∷ link.rest)
  there = linked (drop at source) link (is-linked rules (drop at source) link e)

  pub link-cut : Cut source at link.rest
  link-cut = cut-of source link.text link.rest at within there

  pub link-placed : IsUtf8 source → (slice_range source (at + 1) (length source - length link.rest - 1) ≡ link.text) × IsBetween source (at + 1) (length source - length link.rest - 1)
  link-placed utf8 =
      (link-text source link.text link.rest at within there, (omega (arith, link-size source link.text link.rest at within there), link-start source link.text link.rest at within there utf8, link-end source link.text link.rest at within there))

-- the whole of what was read
pub whole-placed : (source : List ℕ) (at end : ℕ) → at ≤ end → end ≤ length source → before (drop end source) (drop at source) ≡ slice_range source at end
unfolding before
whole-placed source at end low high =
    let size : length (drop at source) - length (drop end source) ≡ end - at = omega (arith, low, high, length-drop at source, length-drop end source) in
    ap (λ n. take n (drop at source)) size

pub whole-text : (text html rest : List ℕ) (o : Option (List ℕ)) → Some (record { text = html; rest = rest }) ≡ whole_of text o → html ≡ before rest text
whole-text text html rest o e = grind (arith, nat_tests, none-some)
