-- Tags with more text after.
use Rattle.std.specs.Char.{is_ascii_alphabetic, is_ascii_alphanumeric}
use Rattle.std.proofs.Common.{◌≡◌, ℕ, zero, suc, ◌≤◌, Bool, true, false, ◌==◌, ◌||◌, List, [], ◌∷◌, ◌++◌, length, Option, Some, None, codes, refl, sym, ap, ◌∙◌, arith, length-append}
use Rattle.std.proofs.lemmas.Bool.{eqb-true}
use Rattle.cm_scan.specs.Words.{is_empty, skip, front_of, after_word, ◌and_then◌}
use Rattle.cm_scan.specs.spans.Tags.{Named, after_gap, is_blank_next, tag_name, begins_attribute, continues_attribute, is_unquoted, after_quoted, after_unquoted, after_value, after_specification, after_attribute, after_tag_end, after_attributes, with_rest, open_tag, closing_tag}
use Rattle.cm_scan.proofs.lemmas.texts.WordsGoOn.{false-true, none-some, some-same, word-extends, word-other, skip-extends, front-extends, gap-extends}

-- where the empty text has no reading, what is read is not empty
pub not-empty : (reading : List ℕ → Option (List ℕ)) → reading [] ≡ None → (text rest : List ℕ) → reading text ≡ Some rest → is_empty text ≡ false
not-empty reading none [] rest e = none-some (sym none ∙ e)
not-empty reading none (b ∷ bs) rest e = refl

pub at-least-one : (text : List ℕ) → is_empty text ≡ false → 1 ≤ length text
at-least-one [] e = false-true (sym e)
at-least-one (b ∷ bs) e = omega arith

-- the end of a tag

no-slash : (text x rest : List ℕ) → after_word (codes ">") text ≡ Some rest → after_word (codes "/>") (text ++ x) ≡ None
unfolding after_word
no-slash [] x rest e = none-some e
no-slash (b ∷ bs) x rest e = go (b == 62) refl e
  where
    by : Bool → Option (List ℕ)
    by c = elim c as (λ _. Option (List ℕ)) [ true ↦ after_word (codes ">") (bs ++ x) | false ↦ None ]

    go : (c : Bool) → (b == 62) ≡ c → elim c as (λ _. Option (List ℕ)) [ true ↦ Some bs | false ↦ None ] ≡ Some rest → by (b == 47) ≡ None
    go true f e = ap (λ n. by (n == 47)) (eqb-true b 62 f)
    go false f e = none-some e

pub tag_end-extends : (text x rest : List ℕ) → after_tag_end text ≡ Some rest → after_tag_end (text ++ x) ≡ Some (rest ++ x)
unfolding after_tag_end
tag_end-extends text x rest e = go (after_word (codes "/>") text) refl e
  where
    by : List ℕ → Option (List ℕ) → Option (List ℕ)
    by t o = elim o as (λ _. Option (List ℕ)) [ Some r ↦ Some r | None ↦ after_word (codes ">") t ]

    go : (o : Option (List ℕ)) → after_word (codes "/>") text ≡ o → by text o ≡ Some rest → by (text ++ x) (after_word (codes "/>") (text ++ x)) ≡ Some (rest ++ x)
    go (Some r) f e = ap (by (text ++ x)) (word-extends (codes "/>") text x r f) ∙ ap (λ t. Some (t ++ x)) (some-same e)
    go None f e = ap (by (text ++ x)) (no-slash text x rest e) ∙ word-extends (codes ">") text x rest e

-- values

pub quoted-extends : (quote : ℕ) (text x rest : List ℕ) → after_quoted quote text ≡ Some rest → after_quoted quote (text ++ x) ≡ Some (rest ++ x)
unfolding after_quoted
quoted-extends quote [] x rest e = none-some e
quoted-extends quote (b ∷ bs) x rest e = go (b == quote) e (λ h. quoted-extends quote bs x rest h)
  where
    go : (c : Bool) → elim c as (λ _. Option (List ℕ)) [ true ↦ Some bs | false ↦ after_quoted quote bs ] ≡ Some rest → (after_quoted quote bs ≡ Some rest → after_quoted quote (bs ++ x) ≡ Some (rest ++ x))
        → elim c as (λ _. Option (List ℕ)) [ true ↦ Some (bs ++ x) | false ↦ after_quoted quote (bs ++ x) ] ≡ Some (rest ++ x)
    go true e k = ap (λ t. Some (t ++ x)) (some-same e)
    go false e k = k e

-- an unquoted value continues to the text's end, so something has to be left
pub value-extends : (text x rest : List ℕ) → after_value text ≡ Some rest → is_empty rest ≡ false → after_value (text ++ x) ≡ Some (rest ++ x)
unfolding after_value after_unquoted
value-extends [] x rest e f = none-some e
value-extends (b ∷ bs) x rest e f = go (b == 34) (b == 39) (is_unquoted b) e
  where
    by : List ℕ → Bool → Bool → Bool → Option (List ℕ)
    by t double single plain = elim double as (λ _. Option (List ℕ)) [
      | true ↦ after_quoted 34 t
      | false ↦ elim single as (λ _. Option (List ℕ)) [
        | true ↦ after_quoted 39 t
        | false ↦ elim plain as (λ _. Option (List ℕ)) [ true ↦ Some (skip is_unquoted t) | false ↦ None ]
      ]
    ]

    go : (double single plain : Bool) → by bs double single plain ≡ Some rest → by (bs ++ x) double single plain ≡ Some (rest ++ x)
    go true single plain e = quoted-extends 34 bs x rest e
    go false true plain e = quoted-extends 39 bs x rest e
    go false false true e = ap Some (skip-extends is_unquoted bs x (ap is_empty (some-same e) ∙ f)) ∙ ap (λ t. Some (t ++ x)) (some-same e)
    go false false false e = none-some e

value-nothing : after_value [] ≡ None
unfolding after_value
value-nothing = refl

equals-nothing : after_word (codes "=") [] ≡ None
unfolding after_word
equals-nothing = refl

left-beyond-gap : (text : List ℕ) → is_empty (after_gap text) ≡ false → is_empty text ≡ false
unfolding after_gap skip
left-beyond-gap [] e = e
left-beyond-gap (b ∷ bs) e = refl

pub specification-extends : (text x rest : List ℕ) → after_specification text ≡ Some rest → is_empty (after_gap rest) ≡ false → after_specification (text ++ x) ≡ Some (rest ++ x)
unfolding after_specification
specification-extends text x rest e f = go (after_word (codes "=") (after_gap text)) refl e
  where
    by : List ℕ → Option (List ℕ) → Option (List ℕ)
    by t o = elim o as (λ _. Option (List ℕ)) [ Some beyond ↦ after_value (after_gap beyond) | None ↦ Some t ]

    go : (o : Option (List ℕ)) → after_word (codes "=") (after_gap text) ≡ o → by text o ≡ Some rest → by (text ++ x) (after_word (codes "=") (after_gap (text ++ x))) ≡ Some (rest ++ x)
    go (Some beyond) g e =
        ap (λ t. by (text ++ x) (after_word (codes "=") t)) (gap-extends text x (not-empty (after_word (codes "=")) equals-nothing (after_gap text) beyond g))
        ∙ ap (by (text ++ x)) (word-extends (codes "=") (after_gap text) x beyond g)
        ∙ ap after_value (gap-extends beyond x (not-empty after_value value-nothing (after_gap beyond) rest e))
        ∙ value-extends (after_gap beyond) x rest e (left-beyond-gap rest f)
    go None g e =
        ap (λ t. by (text ++ x) (after_word (codes "=") t)) (gap-extends text x goes_on)
        ∙ ap (by (text ++ x)) (word-other (codes "=") (after_gap text) x g (at-least-one (after_gap text) goes_on))
        ∙ ap (λ t. Some (t ++ x)) (some-same e)
      where
        goes_on : is_empty (after_gap text) ≡ false
        goes_on = ap (λ t. is_empty (after_gap t)) (some-same e) ∙ f

specification-of : (text rest : List ℕ) → after_specification text ≡ Some rest → is_empty (after_gap rest) ≡ false → is_empty text ≡ false
unfolding after_specification after_gap skip after_word
specification-of [] rest e f = false-true (sym (ap (λ t. is_empty (after_gap t)) (some-same e) ∙ f))
specification-of (b ∷ bs) rest e f = refl

pub attribute-extends : (text x rest : List ℕ) → after_attribute text ≡ Some rest → is_empty (after_gap rest) ≡ false → after_attribute (text ++ x) ≡ Some (rest ++ x)
unfolding after_attribute
attribute-extends [] x rest e f = none-some e
attribute-extends (b ∷ bs) x rest e f = go (begins_attribute b) e
  where
    by : List ℕ → Bool → Option (List ℕ)
    by t c = elim c as (λ _. Option (List ℕ)) [ true ↦ after_specification (skip continues_attribute t) | false ↦ None ]

    go : (c : Bool) → by bs c ≡ Some rest → by (bs ++ x) c ≡ Some (rest ++ x)
    go true e = ap after_specification (skip-extends continues_attribute bs x (specification-of (skip continues_attribute bs) rest e f)) ∙ specification-extends (skip continues_attribute bs) x rest e f
    go false e = none-some e

-- where an attribute starts, no tag ends
attribute-no-end : (text rest : List ℕ) → after_attribute text ≡ Some rest → (x : List ℕ) → after_tag_end (text ++ x) ≡ None
unfolding after_attribute after_tag_end after_word
attribute-no-end [] rest e x = none-some e
attribute-no-end (b ∷ bs) rest e x = go (b == 47) (b == 62) refl refl
  where
    begins : begins_attribute b ≡ true
    begins = cases (begins_attribute b) e
      where
        cases : (c : Bool) → elim c as (λ _. Option (List ℕ)) [ true ↦ after_specification (skip continues_attribute bs) | false ↦ None ] ≡ Some rest → c ≡ true
        cases true h = refl
        cases false h = none-some h

    by : Bool → Bool → Option (List ℕ)
    by slash end = elim (elim slash as (λ _. Option (List ℕ)) [ true ↦ after_word (codes ">") (bs ++ x) | false ↦ None ]) as (λ _. Option (List ℕ)) [
      | Some r ↦ Some r
      | None ↦ elim end as (λ _. Option (List ℕ)) [ true ↦ Some (bs ++ x) | false ↦ None ]
    ]

    go : (slash end : Bool) → (b == 47) ≡ slash → (b == 62) ≡ end → by slash end ≡ None
    go true end g h = false-true (sym (ap begins_attribute (eqb-true b 47 g)) ∙ begins)
    go false true g h = false-true (sym (ap begins_attribute (eqb-true b 62 h)) ∙ begins)
    go false false g h = refl

-- what is read as attributes and the end of a tag is no gap alone
attributes-go-on : (n : ℕ) (text rest : List ℕ) → after_attributes n text ≡ Some rest → is_empty (after_gap text) ≡ false
unfolding after_attributes after_tag_end after_word after_attribute
attributes-go-on zero text rest e = none-some e
attributes-go-on (suc n) text rest e = go (after_gap text) e
  where
    by : List ℕ → Option (List ℕ)
    by gap = elim (after_tag_end gap) as (λ _. Option (List ℕ)) [
      | Some r ↦ Some r
      | None ↦ elim (is_blank_next text) as (λ _. Option (List ℕ)) [
        | true ↦ elim (after_attribute gap) as (λ _. Option (List ℕ)) [ Some r ↦ after_attributes n r | None ↦ None ]
        | false ↦ None
      ]
    ]

    nothing : (c : Bool) → elim c as (λ _. Option (List ℕ)) [ true ↦ None | false ↦ None ] ≡ None
    nothing true = refl
    nothing false = refl

    go : (gap : List ℕ) → by gap ≡ Some rest → is_empty gap ≡ false
    go [] h = none-some (sym (nothing (is_blank_next text)) ∙ h)
    go (b ∷ bs) h = refl

blank-extends : (text x : List ℕ) → is_blank_next text ≡ true → is_blank_next (text ++ x) ≡ true
blank-extends [] x e = false-true e
blank-extends (b ∷ bs) x e = e

pub attributes-extend : (n m : ℕ) (text x rest : List ℕ) → n ≤ m → after_attributes n text ≡ Some rest → after_attributes m (text ++ x) ≡ Some (rest ++ x)
unfolding after_attributes
attributes-extend zero m text x rest l e = none-some e
attributes-extend (suc n) zero text x rest l e = absurd (omega (arith, l))
attributes-extend (suc n) (suc m) text x rest l e =
    ap (by m (is_blank_next (text ++ x))) (gap-extends text x (attributes-go-on (suc n) text rest e))
    ∙ go (λ r h. attributes-extend n m r x rest (omega (arith, l)) h) (after_tag_end (after_gap text)) (is_blank_next text) refl refl e
  where
    within : ℕ → Bool → List ℕ → Option (List ℕ) → Option (List ℕ)
    within k blank gap end = elim end as (λ _. Option (List ℕ)) [
      | Some r ↦ Some r
      | None ↦ elim blank as (λ _. Option (List ℕ)) [
        | true ↦ elim (after_attribute gap) as (λ _. Option (List ℕ)) [ Some r ↦ after_attributes k r | None ↦ None ]
        | false ↦ None
      ]
    ]

    by : ℕ → Bool → List ℕ → Option (List ℕ)
    by k blank gap = within k blank gap (after_tag_end gap)

    read : ℕ → Option (List ℕ) → Option (List ℕ)
    read k o = elim o as (λ _. Option (List ℕ)) [ Some r ↦ after_attributes k r | None ↦ None ]

    go : ((r : List ℕ) → after_attributes n r ≡ Some rest → after_attributes m (r ++ x) ≡ Some (rest ++ x))
        → (end : Option (List ℕ)) (blank : Bool) → after_tag_end (after_gap text) ≡ end → is_blank_next text ≡ blank → within n blank (after_gap text) end ≡ Some rest
        → by m (is_blank_next (text ++ x)) (after_gap text ++ x) ≡ Some (rest ++ x)
    go again (Some r) blank g h e = ap (within m (is_blank_next (text ++ x)) (after_gap text ++ x)) (tag_end-extends (after_gap text) x r g) ∙ ap (λ t. Some (t ++ x)) (some-same e)
    go again None false g h e = none-some e
    go again None true g h e = one (after_attribute (after_gap text)) refl e
      where
        one : (o : Option (List ℕ)) → after_attribute (after_gap text) ≡ o → read n o ≡ Some rest → by m (is_blank_next (text ++ x)) (after_gap text ++ x) ≡ Some (rest ++ x)
        one None k e = none-some e
        one (Some r) k e =
            ap (within m (is_blank_next (text ++ x)) (after_gap text ++ x)) (attribute-no-end (after_gap text) r k x)
            ∙ ap (λ c. within m c (after_gap text ++ x) None) (blank-extends text x h)
            ∙ ap (read m) (attribute-extends (after_gap text) x r k (attributes-go-on n r rest e))
            ∙ again r e

-- names and tags

pub name-extends : (text x : List ℕ) (tag : Named) → tag_name text ≡ Some tag → is_empty tag.rest ≡ false → tag_name (text ++ x) ≡ Some (record { name = tag.name; rest = tag.rest ++ x })
unfolding tag_name
name-extends [] x tag e f = none-some e
name-extends (b ∷ bs) x tag e f = go (is_ascii_alphabetic b) e
  where
    continues : ℕ → Bool
    continues c = is_ascii_alphanumeric c || c == 45

    by : List ℕ → Bool → Option Named
    by t c = elim c as (λ _. Option Named) [ true ↦ Some (record { name = b ∷ front_of continues t; rest = skip continues t }) | false ↦ None ]

    tag_of : Option Named → Named
    tag_of o = elim o as (λ _. Named) [ None ↦ tag | Some t ↦ t ]

    go : (c : Bool) → by bs c ≡ Some tag → by (bs ++ x) c ≡ Some (record { name = tag.name; rest = tag.rest ++ x })
    go false e = none-some e
    go true e =
        ap (λ n. Some (record { name = b ∷ n; rest = skip continues (bs ++ x) })) (front-extends continues bs x goes_on)
        ∙ ap (λ r. Some (record { name = b ∷ front_of continues bs; rest = r })) (skip-extends continues bs x goes_on)
        ∙ ap (λ (t : Named). Some (record { name = t.name; rest = t.rest ++ x })) (ap tag_of e)
      where
        goes_on : is_empty (skip continues bs) ≡ false
        goes_on = ap (λ (o : Option Named). is_empty (tag_of o).rest) e ∙ f

-- the same tag, with more text after
abbrev pub longer : Named → List ℕ → Named
longer tag x = record { name = tag.name; rest = tag.rest ++ x }

pub with_rest-read : (name : List ℕ) (o : Option (List ℕ)) (tag : Named) → with_rest name o ≡ Some tag → (name ≡ tag.name) × (o ≡ Some tag.rest)
with_rest-read name None tag e = none-some e
with_rest-read name (Some rest) tag e = (ap (λ (t : Named). t.name) same, ap (λ (t : Named). Some t.rest) same)
  where
    same : record { name = name; rest = rest } ≡ tag
    same = ap (λ (o : Option Named). elim o as (λ _. Named) [ None ↦ tag | Some t ↦ t ]) e

-- after the name of a tag, in a reading that needs something there
named-extends : (reading : List ℕ → Option (List ℕ)) (further : List ℕ → Option (List ℕ)) (text x : List ℕ) (tag : Named) → reading [] ≡ None
    → ((t r : List ℕ) → reading t ≡ Some r → further (t ++ x) ≡ Some (r ++ x))
    → (tag_name text and_then λ t. with_rest t.name (reading t.rest)) ≡ Some tag
    → (tag_name (text ++ x) and_then λ t. with_rest t.name (further t.rest)) ≡ Some (longer tag x)
named-extends reading further text x tag none extends e = go (tag_name text) refl e
  where
    by : (List ℕ → Option (List ℕ)) → Option Named → Option Named
    by p o = o and_then λ t. with_rest t.name (p t.rest)

    go : (o : Option Named) → tag_name text ≡ o → by reading o ≡ Some tag → by further (tag_name (text ++ x)) ≡ Some (longer tag x)
    go None f e = none-some e
    go (Some t) f e =
        let same = with_rest-read t.name (reading t.rest) tag e in
        ap (by further) (name-extends text x t f (not-empty reading none t.rest tag.rest same.1))
        ∙ ap (with_rest t.name) (extends t.rest tag.rest same.1)
        ∙ ap (λ n. Some (record { name = n; rest = tag.rest ++ x })) same.0

abbrev pub enough : List ℕ → Option (List ℕ)
enough text = after_attributes (suc (length text)) text

enough-nothing : enough [] ≡ None
unfolding after_attributes after_tag_end after_gap after_word skip
enough-nothing = refl

enough-extends : (text x rest : List ℕ) → enough text ≡ Some rest → enough (text ++ x) ≡ Some (rest ++ x)
enough-extends text x rest e = attributes-extend (suc (length text)) (suc (length (text ++ x))) text x rest (omega (arith, length-append text x)) e

abbrev pub closes : List ℕ → Option (List ℕ)
closes text = after_word (codes ">") (after_gap text)

closes-nothing : closes [] ≡ None
unfolding after_gap after_word skip
closes-nothing = refl

word-nothing : after_word (codes ">") [] ≡ None
unfolding after_word
word-nothing = refl

closes-extends : (text x rest : List ℕ) → closes text ≡ Some rest → closes (text ++ x) ≡ Some (rest ++ x)
closes-extends text x rest e = ap (after_word (codes ">")) (gap-extends text x (not-empty (after_word (codes ">")) word-nothing (after_gap text) rest e)) ∙ word-extends (codes ">") (after_gap text) x rest e

pub open_tag-extends : (text x : List ℕ) (tag : Named) → open_tag text ≡ Some tag → open_tag (text ++ x) ≡ Some (longer tag x)
unfolding open_tag
open_tag-extends text x tag e = go (after_word (codes "<") text) refl e
  where
    by : Option (List ℕ) → Option Named
    by o = o and_then λ inside. tag_name inside and_then λ t. with_rest t.name (enough t.rest)

    go : (o : Option (List ℕ)) → after_word (codes "<") text ≡ o → by o ≡ Some tag → by (after_word (codes "<") (text ++ x)) ≡ Some (longer tag x)
    go None f e = none-some e
    go (Some inside) f e = ap by (word-extends (codes "<") text x inside f) ∙ named-extends enough enough inside x tag enough-nothing (λ t r h. enough-extends t x r h) e

pub closing_tag-extends : (text x : List ℕ) (tag : Named) → closing_tag text ≡ Some tag → closing_tag (text ++ x) ≡ Some (longer tag x)
unfolding closing_tag
closing_tag-extends text x tag e = go (after_word (codes "</") text) refl e
  where
    by : Option (List ℕ) → Option Named
    by o = o and_then λ inside. tag_name inside and_then λ t. with_rest t.name (closes t.rest)

    go : (o : Option (List ℕ)) → after_word (codes "</") text ≡ o → by o ≡ Some tag → by (after_word (codes "</") (text ++ x)) ≡ Some (longer tag x)
    go None f e = none-some e
    go (Some inside) f e = ap by (word-extends (codes "</") text x inside f) ∙ named-extends closes closes inside x tag closes-nothing (λ t r h. closes-extends t x r h) e
