-- Raw HTML that is one tag is read as it is, whatever is after it.
use Rattle.std.proofs.Common.{◌≡◌, ℕ, ◌-◌, true, List, [], ◌∷◌, ◌++◌, get_or, length, take_all, Option, Some, None, sym, ap, subst, arith, ◌∙◌}
use Rattle.cm_text.specs.Rules.{Rules}
use Rattle.cm_tree.specs.declared.tree.Inline.TheVariants.{Html}
use Rattle.cm_scan.specs.spans.RawHtml.{raw_html}
use Rattle.cm_scan.specs.spans.Angles.{Angled, Addressed, Tagged, before, at_angle}
use Rattle.cm_scan.specs.inlines.Atoms.{AtomRead, Whole, read, link_of, or_byte, angle_atom, markup_atom, atom_at}
use Rattle.cm_scan.specs.steps.SpanSteps.{tagged}
use Rattle.cm_scan.proofs.lemmas.spans.AngledGoesOn.{whole_tag_goes_on}
use Rattle.cm_source.specs.InlineRefusals.{is_one_tag}
use Rattle.cm_source.proofs.lemmas.inlines.BytesRead.{atom_left}
use Rattle.cm_source.proofs.lemmas.shared.OneTag.{tag-begins, whole-read}

before_nothing : (text : List ℕ) → before [] text ≡ text
unfolding before
before_nothing text = take_all (length text - length {A = ℕ} []) text (omega arith)

abbrev whole : List ℕ → Angled
whole text = Tagged (record { text = text; rest = [] })

one_tag_is : (rules : Rules) (text : List ℕ) → is_one_tag rules text ≡ true → at_angle rules text ≡ Some (whole text)
unfolding at_angle
one_tag_is rules text e =
    let read = whole-read rules text e in
    ap (λ a. elim a as (λ _. Option Angled) [ Some link ↦ Some (Addressed link) | None ↦ tagged text (raw_html rules text) ]) read.no_link
    ∙ ap (tagged text) read.tag ∙ ap (λ t. Some (Tagged (record { text = t; rest = [] }))) (before_nothing text)

pub some_tag : (rules : Rules) → is_one_tag rules [] ≡ true → ⊥
some_tag rules e = absurd (cc (tag-begins rules [] e).1)

pub atom_tag : (rules : Rules) (passed : List ℕ) (b : ℕ) (bs rest : List ℕ) → is_one_tag rules (b ∷ bs) ≡ true → atom_at rules passed b (bs ++ rest) ≡ atom_left (Whole (Html (b ∷ bs))) rest
unfolding atom_at markup_atom angle_atom
atom_tag rules passed b bs rest e =
    let first : b ≡ 60 = ap (λ l. get_or l 0 0) (tag-begins rules (b ∷ bs) e).1 in
    subst (λ c. atom_at rules passed c (bs ++ rest) ≡ atom_left (Whole (Html (c ∷ bs))) rest) (sym first)
    (ap (λ o. or_byte 60 (bs ++ rest) (elim o as (λ _. Option AtomRead) [
      | Some (Addressed link) ↦ read (Whole (link_of link)) link.rest
      | Some (Tagged tag) ↦ read (Whole (Html tag.text)) tag.rest
      | None ↦ None
    ])) (whole_tag_goes_on rules (60 ∷ bs) rest (one_tag_is rules (60 ∷ bs) (subst (λ c. is_one_tag rules (c ∷ bs) ≡ true) first e))))
