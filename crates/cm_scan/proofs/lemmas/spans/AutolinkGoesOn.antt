-- Autolinks with more text after.
use Rattle.std.proofs.Common.{◌≡◌, ℕ, Bool, true, false, ◌==◌, ◌||◌, List, [], ◌∷◌, ◌++◌, Option, Some, None, codes, cond, refl, sym, ap, ◌∙◌}
use Rattle.std.proofs.lemmas.Bool.{eqb-true}
use Rattle.cm_scan.specs.Words.{is_empty, skip, front_of, after_word, ◌and_then◌}
use Rattle.cm_scan.specs.inlines.Links.{Reading}
use Rattle.cm_scan.specs.spans.Autolinks.{Autolink, is_inside, in_angles, is_absolute, is_address, as_autolink, autolink}
use Rattle.cm_scan.specs.laws.SpanLaws.{AutolinkGoesOn, NoAutolinkGoesOn}
use Rattle.cm_scan.specs.steps.SpanSteps.{ended}
use Rattle.cm_scan.proofs.lemmas.texts.WordsGoOn.{longer, false-true, none-some, word-extends, word-other, skip-extends, front-extends}
use Rattle.cm_scan.proofs.lemmas.spans.TagsGoOn.{not-empty, at-least-one}
use Rattle.cm_scan.proofs.lemmas.spans.RawHtmlGoesOn.{word-front}
use Rattle.cm_scan.proofs.lemmas.spans.RawHtmlEnds.{has_end, raw_html-has_end}

abbrev longer_each : Option Reading → List ℕ → Option Reading
longer_each None x = None
longer_each (Some r) x = Some (longer r x)

angle-nothing : after_word (codes ">") [] ≡ None
unfolding after_word
angle-nothing = refl

-- where something is left after the text inside
inside-extends : (inside x : List ℕ) → is_empty (skip is_inside inside) ≡ false
    → ended (front_of is_inside (inside ++ x)) (after_word (codes ">") (skip is_inside (inside ++ x))) ≡ longer_each (ended (front_of is_inside inside) (after_word (codes ">") (skip is_inside inside))) x
inside-extends inside x goes_on =
    ap (λ t. ended t (after_word (codes ">") (skip is_inside (inside ++ x)))) (front-extends is_inside inside x goes_on)
    ∙ ap (λ t. ended (front_of is_inside inside) (after_word (codes ">") t)) (skip-extends is_inside inside x goes_on)
    ∙ go (after_word (codes ">") (skip is_inside inside)) refl
  where
    go : (o : Option (List ℕ)) → after_word (codes ">") (skip is_inside inside) ≡ o
        → ended (front_of is_inside inside) (after_word (codes ">") (skip is_inside inside ++ x)) ≡ longer_each (ended (front_of is_inside inside) o) x
    go (Some rest) f = ap (ended (front_of is_inside inside)) (word-extends (codes ">") (skip is_inside inside) x rest f)
    go None f = ap (ended (front_of is_inside inside)) (word-other (codes ">") (skip is_inside inside) x f (at-least-one (skip is_inside inside) goes_on))

some-angles : (text x : List ℕ) (r : Reading) → in_angles text ≡ Some r → in_angles (text ++ x) ≡ Some (longer r x)
unfolding in_angles
some-angles text x r e = go (after_word (codes "<") text) refl e
  where
    by : Option (List ℕ) → Option Reading
    by o = o and_then λ inside. ended (front_of is_inside inside) (after_word (codes ">") (skip is_inside inside))

    go : (o : Option (List ℕ)) → after_word (codes "<") text ≡ o → by o ≡ Some r → by (after_word (codes "<") (text ++ x)) ≡ Some (longer r x)
    go None f e = none-some e
    go (Some inside) f e = ap by (word-extends (codes "<") text x inside f) ∙ inside-extends inside x (left (after_word (codes ">") (skip is_inside inside)) refl e) ∙ ap (λ o. longer_each o x) e
      where
        left : (o : Option (List ℕ)) → after_word (codes ">") (skip is_inside inside) ≡ o → ended (front_of is_inside inside) o ≡ Some r → is_empty (skip is_inside inside) ≡ false
        left None g h = none-some h
        left (Some rest) g h = not-empty (after_word (codes ">")) angle-nothing (skip is_inside inside) rest g

-- an end stops the text inside
stops : (text : List ℕ) → has_end text ≡ true → is_empty (skip is_inside text) ≡ false
unfolding skip
stops [] e = false-true e
stops (b ∷ bs) e = go (is_inside b) (b == 62) refl refl e (λ h. stops bs h)
  where
    go : (c d : Bool) → is_inside b ≡ c → (b == 62) ≡ d → (d || has_end bs) ≡ true → (has_end bs ≡ true → is_empty (skip is_inside bs) ≡ false)
        → is_empty (elim c as (λ _. List ℕ) [ true ↦ skip is_inside bs | false ↦ b ∷ bs ]) ≡ false
    go false d f g e k = refl
    go true true f g e k = false-true (ap is_inside (sym (eqb-true b 62 g)) ∙ f)
    go true false f g e k = k e

-- where an end is in the text, the text alone decides
all-angles : (text x : List ℕ) → has_end text ≡ true → in_angles (text ++ x) ≡ longer_each (in_angles text) x
unfolding in_angles
all-angles text x h = go (after_word (codes "<") text) refl
  where
    by : Option (List ℕ) → Option Reading
    by o = o and_then λ inside. ended (front_of is_inside inside) (after_word (codes ">") (skip is_inside inside))

    some-left : (t : List ℕ) → has_end t ≡ true → is_empty t ≡ false
    some-left [] e = false-true e
    some-left (b ∷ bs) e = refl

    go : (o : Option (List ℕ)) → after_word (codes "<") text ≡ o → by (after_word (codes "<") (text ++ x)) ≡ longer_each (by o) x
    go (Some inside) f = ap by (word-extends (codes "<") text x inside f) ∙ inside-extends inside x (stops inside (ap has_end (sym (word-front (codes "<") text inside f)) ∙ h))
    go None f = ap by (word-other (codes "<") text x f (at-least-one text (some-left text h)))

unfoldable pub longer_link : Option Autolink → List ℕ → Option Autolink
longer_link None x = None
longer_link (Some l) x = Some (record { destination = l.destination; text = l.text; rest = l.rest ++ x })

link-extends : (r : Reading) (x : List ℕ) → as_autolink (longer r x) ≡ longer_link (as_autolink r) x
unfolding as_autolink longer_link
link-extends r x = go (is_absolute r.text) (is_address r.text)
  where
    go : (a b : Bool) → cond a (Some (record { destination = r.text; text = r.text; rest = r.rest ++ x })) (cond b (Some (record { destination = codes "mailto:" ++ r.text; text = r.text; rest = r.rest ++ x })) None)
        ≡ longer_link (cond a (Some (record { destination = r.text; text = r.text; rest = r.rest })) (cond b (Some (record { destination = codes "mailto:" ++ r.text; text = r.text; rest = r.rest })) None)) x
    go true b = refl
    go false true = refl
    go false false = refl

pub autolink_goes_on : AutolinkGoesOn
unfolding autolink longer_link
autolink_goes_on text x link e = go (in_angles text) refl e
  where
    by : Option Reading → Option Autolink
    by o = elim o as (λ _. Option Autolink) [ Some r ↦ as_autolink r | None ↦ None ]

    go : (o : Option Reading) → in_angles text ≡ o → by o ≡ Some link → by (in_angles (text ++ x)) ≡ longer_link (Some link) x
    go None f e = none-some e
    go (Some r) f e = ap by (some-angles text x r f) ∙ link-extends r x ∙ ap (λ o. longer_link o x) e

pub no_autolink_goes_on : NoAutolinkGoesOn
unfolding autolink longer_link
no_autolink_goes_on rules text rest x html e = ap by (all-angles text x (raw_html-has_end rules text rest html)) ∙ go (in_angles text) e
  where
    by : Option Reading → Option Autolink
    by o = elim o as (λ _. Option Autolink) [ Some r ↦ as_autolink r | None ↦ None ]

    go : (o : Option Reading) → by o ≡ None → by (longer_each o x) ≡ None
    go None e = refl
    go (Some r) e = link-extends r x ∙ ap (λ o. longer_link o x) e
