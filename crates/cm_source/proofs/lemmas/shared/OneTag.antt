-- A text that is one tag is read whole, starts with `<` and ends with `>`.
use Rattle.std.proofs.Common.{◌≡◌, ℕ, Bool, true, false, ◌==◌, List, [], ◌∷◌, ◌++◌, Option, Some, None, refl, sym, ap, ◌∙◌, arith}
use Rattle.std.proofs.lemmas.Bool.{eqb-true, true_from_ne_false}
use Rattle.cm_text.specs.Rules.{Rules}
use Rattle.cm_scan.specs.Words.{is_empty, after_word}
use Rattle.cm_scan.specs.spans.Tags.{open_tag, closing_tag}
use Rattle.cm_scan.specs.spans.RawHtml.{from_to, comment, declaration, html_tag, raw_html}
use Rattle.cm_scan.specs.spans.Autolinks.{Autolink, followed_autolink}
use Rattle.cm_scan.specs.spans.Angles.{Angled, Addressed, Tagged, at_angle}
use Rattle.cm_scan.specs.steps.SpanSteps.{tagged}
use Rattle.cm_scan.proofs.lemmas.spans.RawHtmlGoesOn.{no-tag}
use Rattle.cm_scan.proofs.lemmas.spans.RawHtmlEnds.{raw_html-ends}
use Rattle.cm_source.specs.InlineRefusals.{is_one_tag}

-- what is read of such a text: no autolink, and nothing after the tag
pub record IsWhole (rules : Rules) (text : List ℕ) : Type 0 where
  pub no_link : followed_autolink rules text ≡ None
  pub tag : raw_html rules text ≡ Some []

pub whole-read : (rules : Rules) (text : List ℕ) → is_one_tag rules text ≡ true → IsWhole rules text
unfolding at_angle
whole-read rules text e = go (followed_autolink rules text) (raw_html rules text) refl refl e
  where
    one : Option Angled → Bool
    one found = elim found [ Some (Tagged tag) ↦ is_empty tag.rest | Some (Addressed link) ↦ false | None ↦ false ]

    go : (a : Option Autolink) (r : Option (List ℕ)) → followed_autolink rules text ≡ a → raw_html rules text ≡ r
        → one (elim a as (λ _. Option Angled) [ Some link ↦ Some (Addressed link) | None ↦ tagged text r ]) ≡ true → IsWhole rules text
    go (Some link) r p q e = absurd (cc e)
    go None None p q e = absurd (cc e)
    go None (Some []) p q e = record { no_link = p; tag = q }
    go None (Some (b ∷ bs)) p q e = absurd (cc e)

-- nothing else starts with `<`

no-html : (rules : Rules) (b : ℕ) (bs : List ℕ) → (b == 60) ≡ false → html_tag rules (b ∷ bs) ≡ None
unfolding html_tag open_tag closing_tag comment from_to declaration after_word
no-html rules b bs e = grind (arith, e)

no-html-in-nothing : (rules : Rules) → html_tag rules [] ≡ None
unfolding html_tag open_tag closing_tag comment from_to declaration after_word
no-html-in-nothing rules = refl

pub tag-begins : (rules : Rules) (text : List ℕ) → is_one_tag rules text ≡ true → (rest : List ℕ) × (text ≡ 60 ∷ rest)
tag-begins rules [] e = absurd (cc (sym (no-tag rules [] (no-html-in-nothing rules)) ∙ (whole-read rules [] e).tag))
tag-begins rules (b ∷ bs) e =
    (bs, ap (λ c. c ∷ bs) (eqb-true b 60 (true_from_ne_false (b == 60) (λ is. absurd (cc (sym (no-tag rules (b ∷ bs) (no-html rules b bs is)) ∙ (whole-read rules (b ∷ bs) e).tag))))))

pub tag-ends : (rules : Rules) (text : List ℕ) → is_one_tag rules text ≡ true → (front : List ℕ) × (text ≡ front ++ 62 ∷ [])
tag-ends rules text e = let end = raw_html-ends rules text [] (whole-read rules text e).tag in (end.front, end.is)
