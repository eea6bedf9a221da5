-- Where an autolink in a text is.
use Rattle.std.proofs.Common.{◌≡◌, ℕ, ◌+◌, ◌-◌, ◌≤◌, List, [], ◌∷◌, ◌++◌, Option, Some, None, length, take, drop, get_or, refl, sym, ap, ◌∙◌, arith, rules, length-append, length-drop, drop-drop}
use Rattle.std.proofs.Math.Seq.{take-append_seam}
use Rattle.std.proofs.lemmas.Bool.Decides.{nat_tests}
use Rattle.std.proofs.lemmas.Bool.{eqb-true}
use Rattle.std.proofs.lemmas.List.{get_or-drop}
use Rattle.std.proofs.lemmas.Option.{same_Some}
use Rattle.std.proofs.lemmas.Str.{IsCharBoundary-after_ascii, IsCharBoundary-before_ascii}
use Rattle.std.specs.Prelude.{IsUtf8, Bool}
use Rattle.std.specs.List.{slice_range}
use Rattle.std.specs.Str.{IsCharBoundary}
use Rattle.cm_text.specs.Rules.{Rules}
use Rattle.cm_scan.specs.Words.{front_of, skip, after_word}
use Rattle.cm_scan.specs.inlines.Links.{Reading}
use Rattle.cm_scan.specs.spans.Autolinks.{Autolink, in_angles, as_autolink, autolink, followed_autolink}
use Rattle.cm_scan.proofs.lemmas.texts.WordsGoOn.{none-some}
use Rattle.cm_scan.proofs.lemmas.spans.RawHtmlByFirstBytes.{Cut, cut-at}

-- what is between `<` and `>`

front-skip : (test : ℕ → Bool) (bs : List ℕ) → front_of test bs ++ skip test bs ≡ bs
unfolding front_of skip
front-skip test [] = refl
front-skip test (b ∷ bs) = search (rules, (front-skip test bs))

one-word : (c : ℕ) (text rest : List ℕ) → after_word (c ∷ []) text ≡ Some rest → text ≡ c ∷ rest
unfolding after_word
one-word c text rest e = grind (arith, nat_tests, none-some, eqb-true, same_Some)

angled : (text : List ℕ) (r : Reading) → in_angles text ≡ Some r → text ≡ 60 ∷ (r.text ++ 62 ∷ r.rest)
unfolding in_angles
angled text r e = search (rules, none-some, front-skip, one-word, same_Some)

as-read : (r : Reading) (link : Autolink) → as_autolink r ≡ Some link → r.text ++ 62 ∷ r.rest ≡ link.text ++ 62 ∷ link.rest
unfolding as_autolink
as-read r link e = search rules

pub linked : (text : List ℕ) (link : Autolink) → Some link ≡ autolink text → text ≡ 60 ∷ (link.text ++ 62 ∷ link.rest)
unfolding autolink
linked text link e = go (in_angles text) refl (sym e)
  where
    go : (o : Option Reading) → in_angles text ≡ o → (elim o as (λ _. Option Autolink) [ Some r ↦ as_autolink r | None ↦ None ]) ≡ Some link → text ≡ 60 ∷ (link.text ++ 62 ∷ link.rest)
    go None is h = none-some h
    go (Some r) is h = angled text r is ∙ ap (λ t. 60 ∷ t) (as-read r link h)

-- what is followed is one
pub is-linked : (rules : Rules) (text : List ℕ) (link : Autolink) → Some link ≡ followed_autolink rules text → Some link ≡ autolink text
unfolding followed_autolink
is-linked rules text link e = grind (arith, nat_tests, none-some)

module _ (source text rest : List ℕ) (at : ℕ) (within : at ≤ length source) (is : drop at source ≡ 60 ∷ (text ++ 62 ∷ rest)) where
  pub link-cut : Cut source at rest
  link-cut = cut-at source at rest within (record { front = 60 ∷ text; is = is })

  pub link-size : length source ≡ at + length text + length rest + 2
  link-size = omega (arith, within, length-drop at source, ap length is, length-append text (62 ∷ rest))

  link-open : get_or source at 0 ≡ 60
  link-open =
      let place : at + 0 ≡ at = omega arith in
      ap (λ n. get_or source n 0) (sym place) ∙ sym (get_or-drop at source 0 0) ∙ ap (λ t. get_or t 0 0) is

  pub link-text : slice_range source (at + 1) (length source - length rest - 1) ≡ text
  link-text =
      let size : length source - length rest - 1 - (at + 1) ≡ length text = omega (arith, link-size) in
      let beyond : drop (at + 1) source ≡ text ++ 62 ∷ rest = sym (drop-drop 1 at source) ∙ ap (drop 1) is in
      ap (λ n. take n (drop (at + 1) source)) size ∙ ap (take (length text)) beyond ∙ take-append_seam text (62 ∷ rest)

  pub link-start : IsUtf8 source → IsCharBoundary source (at + 1)
  link-start utf8 = IsCharBoundary-after_ascii source at utf8 (omega (arith, link-size)) (omega (arith, link-open))

  pub link-end : IsCharBoundary source (length source - length rest - 1)
  link-end = IsCharBoundary-before_ascii source (length source - length rest - 1) (omega (arith, link-size)) (omega (arith, link-cut.bracket))
