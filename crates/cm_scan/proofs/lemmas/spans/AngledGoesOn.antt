-- What a `<` starts, with more text after.
use Rattle.std.proofs.Common.{◌≡◌, ℕ, ◌-◌, ◌≤◌, List, [], ◌++◌, length, take, Bool, true, false, Option, Some, None, refl, sym, ap, ◌∙◌, arith, length-append}
use Rattle.std.proofs.lemmas.List.{take-append-le}
use Rattle.cm_scan.specs.Words.{given}
use Rattle.cm_scan.specs.spans.RawHtml.{raw_html}
use Rattle.cm_text.specs.Rules.{Rules}
use Rattle.cm_text.specs.Addresses.{is_followed}
use Rattle.cm_scan.specs.spans.Autolinks.{Autolink, autolink, followed_autolink}
use Rattle.cm_scan.specs.spans.Angles.{Angled, Addressed, Tagged, before, at_angle}
use Rattle.cm_scan.specs.laws.SpanLaws.{longer_angled, AngledGoesOn, WholeTagGoesOn}
use Rattle.cm_scan.specs.steps.SpanSteps.{link_if_followed, tagged}
use Rattle.cm_scan.proofs.lemmas.texts.WordsGoOn.{none-some}
use Rattle.cm_scan.proofs.lemmas.spans.RawHtmlGoesOn.{raw_html_goes_on}
use Rattle.cm_scan.proofs.lemmas.spans.AutolinkGoesOn.{longer_link, autolink_goes_on, no_autolink_goes_on}

before-extends : (rest text x : List ℕ) → before (rest ++ x) (text ++ x) ≡ before rest text
unfolding before
before-extends rest text x =
    ap (λ n. take n (text ++ x)) (let goal : length (text ++ x) - length (rest ++ x) ≡ length text - length rest = omega (arith, length-append text x, length-append rest x) in goal)
    ∙ take-append-le (length text - length rest) text x (let goal : length text - length rest ≤ length text = omega arith in goal)

angled-of : Angled → Option Angled → Angled
angled-of a None = a
angled-of a (Some b) = b

-- whether an address is followed doesn't depend on what is after
followed-longer : (rules : Rules) (link : Autolink) (x : List ℕ) → link_if_followed rules (longer_link (Some link) x) ≡ longer_link (link_if_followed rules (Some link)) x
unfolding longer_link
followed-longer rules link x = go (is_followed rules link.destination)
  where
    longer : Autolink
    longer = record { destination = link.destination; text = link.text; rest = link.rest ++ x }

    go : (t : Bool) → given t longer ≡ longer_link (given t link) x
    go true = refl
    go false = refl

followed_goes_on : (rules : Rules) (text x : List ℕ) (link : Autolink) → autolink text ≡ Some link → followed_autolink rules (text ++ x) ≡ longer_link (followed_autolink rules text) x
unfolding followed_autolink longer_link
followed_goes_on rules text x link e =
    ap (link_if_followed rules) (autolink_goes_on text x link e) ∙ followed-longer rules link x ∙ ap (λ o. longer_link (link_if_followed rules o) x) (sym e)

no_followed_goes_on : (rules : Rules) (text rest x : List ℕ) → raw_html rules text ≡ Some rest → followed_autolink rules text ≡ None → followed_autolink rules (text ++ x) ≡ None
unfolding followed_autolink longer_link
no_followed_goes_on rules text rest x html e = go (autolink text) refl
  where
    go : (o : Option Autolink) → autolink text ≡ o → link_if_followed rules (autolink (text ++ x)) ≡ None
    go None f = ap (link_if_followed rules) (no_autolink_goes_on rules text rest x html f)
    go (Some link) f = followed_goes_on rules text x link f ∙ ap (λ o. longer_link o x) e

some_followed_goes_on : (rules : Rules) (text x : List ℕ) (link : Autolink) → followed_autolink rules text ≡ Some link → followed_autolink rules (text ++ x) ≡ longer_link (Some link) x
unfolding followed_autolink
some_followed_goes_on rules text x link e = go (autolink text) refl
  where
    go : (o : Option Autolink) → autolink text ≡ o → link_if_followed rules (autolink (text ++ x)) ≡ longer_link (Some link) x
    go None f = none-some (sym (ap (link_if_followed rules) f) ∙ e)
    go (Some found) f = followed_goes_on rules text x found f ∙ ap (λ o. longer_link o x) e

pub angled_goes_on : AngledGoesOn
unfolding at_angle angled-of longer_link
angled_goes_on rules text x angled e = go (followed_autolink rules text) refl e
  where
    by : List ℕ → Option Autolink → Option Angled
    by t o = elim o as (λ _. Option Angled) [ Some link ↦ Some (Addressed link) | None ↦ tagged t (raw_html rules t) ]

    longer : Option Angled → Option Angled
    longer o = Some (longer_angled (angled-of angled o) x)

    go : (o : Option Autolink) → followed_autolink rules text ≡ o → by text o ≡ Some angled → by (text ++ x) (followed_autolink rules (text ++ x)) ≡ Some (longer_angled angled x)
    go (Some link) f e = ap (by (text ++ x)) (some_followed_goes_on rules text x link f) ∙ ap longer e
    go None f e = html (raw_html rules text) refl e
      where
        html : (o : Option (List ℕ)) → raw_html rules text ≡ o → tagged text o ≡ Some angled → by (text ++ x) (followed_autolink rules (text ++ x)) ≡ Some (longer_angled angled x)
        html None g e = none-some e
        html (Some rest) g e =
            ap (by (text ++ x)) (no_followed_goes_on rules text rest x g f)
            ∙ ap (tagged (text ++ x)) (raw_html_goes_on rules text rest x g)
            ∙ ap (λ t. Some (Tagged (record { text = t; rest = rest ++ x }))) (before-extends rest text x)
            ∙ ap longer e

pub whole_tag_goes_on : WholeTagGoesOn
whole_tag_goes_on rules text x e = angled_goes_on rules text x (Tagged (record { text = text; rest = [] })) e
