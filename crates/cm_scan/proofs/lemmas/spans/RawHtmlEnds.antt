-- Raw HTML ends with a `>`.
use Rattle.std.specs.Char.{is_ascii_alphabetic, is_ascii_alphanumeric}
use Rattle.std.proofs.Common.{◌≡◌, ℕ, zero, suc, Bool, true, false, ◌==◌, ◌||◌, List, [], ◌∷◌, ◌++◌, Option, Some, None, codes, refl, ap, ◌∙◌, length, append_assoc}
use Rattle.cm_text.specs.Rules.{Rules}
use Rattle.cm_scan.specs.Words.{skip, front_of, after_word, ◌<|>◌, ◌and_then◌}
use Rattle.cm_scan.specs.spans.Tags.{Named, after_gap, is_blank_next, tag_name, begins_attribute, continues_attribute, is_unquoted, after_quoted, after_unquoted, after_value, after_specification, after_attribute, after_tag_end, after_attributes, with_rest, open_tag, closing_tag}
use Rattle.cm_scan.specs.spans.RawHtml.{beyond_word, from_to, short_end, after_comment, comment, instruction, after_declaration, declaration, character_data, html_tag, raw_html}
use Rattle.cm_scan.specs.steps.SpanSteps.{after_tag}
use Rattle.cm_scan.proofs.lemmas.texts.WordsGoOn.{none-some, some-same}
use Rattle.cm_scan.proofs.lemmas.spans.TagsGoOn.{with_rest-read, enough, closes}
use Rattle.cm_scan.proofs.lemmas.spans.RawHtmlGoesOn.{word-front, raw-tag}
use Rattle.cm_scan.proofs.lemmas.texts.EndsOfTexts.{IsEnd, whole-end, same-left, beyond-byte, end-of-end, word-end, skip-end, gap-end}

-- a word that ends so
word-ends : (front text rest : List ℕ) → after_word (front ++ 62 ∷ []) text ≡ Some rest → IsEnd (62 ∷ rest) text
word-ends front text rest e = record { front = front; is = word-front (front ++ 62 ∷ []) text rest e ∙ append_assoc front (62 ∷ []) rest }

-- attributes

quoted-end : (quote : ℕ) (text rest : List ℕ) → after_quoted quote text ≡ Some rest → IsEnd rest text
unfolding after_quoted
quoted-end quote [] rest e = none-some e
quoted-end quote (b ∷ bs) rest e = beyond-byte b bs (go (b == quote) e (λ g. quoted-end quote bs rest g))
  where
    go : (c : Bool) → elim c as (λ _. Option (List ℕ)) [ true ↦ Some bs | false ↦ after_quoted quote bs ] ≡ Some rest → (after_quoted quote bs ≡ Some rest → IsEnd rest bs) → IsEnd rest bs
    go true e k = same-left bs rest (some-same e) (whole-end bs)
    go false e k = k e

value-end : (text rest : List ℕ) → after_value text ≡ Some rest → IsEnd rest text
unfolding after_value after_unquoted
value-end [] rest e = none-some e
value-end (b ∷ bs) rest e = beyond-byte b bs (go (b == 34) (b == 39) (is_unquoted b) e)
  where
    go : (double single plain : Bool) → elim double as (λ _. Option (List ℕ)) [
      | true ↦ after_quoted 34 bs
      | false ↦ elim single as (λ _. Option (List ℕ)) [
        | true ↦ after_quoted 39 bs
        | false ↦ elim plain as (λ _. Option (List ℕ)) [ true ↦ Some (skip is_unquoted bs) | false ↦ None ]
      ]
    ] ≡ Some rest → IsEnd rest bs
    go true single plain e = quoted-end 34 bs rest e
    go false true plain e = quoted-end 39 bs rest e
    go false false true e = same-left (skip is_unquoted bs) rest (some-same e) (skip-end is_unquoted bs)
    go false false false e = none-some e

specification-end : (text rest : List ℕ) → after_specification text ≡ Some rest → IsEnd rest text
unfolding after_specification
specification-end text rest e = go (after_word (codes "=") (after_gap text)) refl e
  where
    go : (o : Option (List ℕ)) → after_word (codes "=") (after_gap text) ≡ o → elim o as (λ _. Option (List ℕ)) [ Some beyond ↦ after_value (after_gap beyond) | None ↦ Some text ] ≡ Some rest → IsEnd rest text
    go (Some beyond) f e = end-of-end (end-of-end (gap-end text) (word-end (codes "=") (after_gap text) beyond f)) (end-of-end (gap-end beyond) (value-end (after_gap beyond) rest e))
    go None f e = same-left text rest (some-same e) (whole-end text)

attribute-end : (text rest : List ℕ) → after_attribute text ≡ Some rest → IsEnd rest text
unfolding after_attribute
attribute-end [] rest e = none-some e
attribute-end (b ∷ bs) rest e = beyond-byte b bs (go (begins_attribute b) e)
  where
    go : (c : Bool) → elim c as (λ _. Option (List ℕ)) [ true ↦ after_specification (skip continues_attribute bs) | false ↦ None ] ≡ Some rest → IsEnd rest bs
    go true e = end-of-end (skip-end continues_attribute bs) (specification-end (skip continues_attribute bs) rest e)
    go false e = none-some e

tag_end-ends : (text rest : List ℕ) → after_tag_end text ≡ Some rest → IsEnd (62 ∷ rest) text
unfolding after_tag_end
tag_end-ends text rest e = go (after_word (codes "/>") text) refl e
  where
    go : (o : Option (List ℕ)) → after_word (codes "/>") text ≡ o → elim o as (λ _. Option (List ℕ)) [ Some r ↦ Some r | None ↦ after_word (codes ">") text ] ≡ Some rest → IsEnd (62 ∷ rest) text
    go (Some r) f e = word-ends (codes "/") text rest (f ∙ e)
    go None f e = word-ends [] text rest e

attributes-end : (n : ℕ) (text rest : List ℕ) → after_attributes n text ≡ Some rest → IsEnd (62 ∷ rest) text
unfolding after_attributes
attributes-end zero text rest e = none-some e
attributes-end (suc n) text rest e = go (λ r h. attributes-end n r rest h) (after_tag_end (after_gap text)) (is_blank_next text) refl e
  where
    read : Option (List ℕ) → Option (List ℕ)
    read o = elim o as (λ _. Option (List ℕ)) [ Some r ↦ after_attributes n r | None ↦ None ]

    go : ((r : List ℕ) → after_attributes n r ≡ Some rest → IsEnd (62 ∷ rest) r) → (end : Option (List ℕ)) (blank : Bool) → after_tag_end (after_gap text) ≡ end
        → elim end as (λ _. Option (List ℕ)) [
          | Some r ↦ Some r
          | None ↦ elim blank as (λ _. Option (List ℕ)) [ true ↦ read (after_attribute (after_gap text)) | false ↦ None ]
        ] ≡ Some rest → IsEnd (62 ∷ rest) text
    go again (Some r) blank f e = end-of-end (gap-end text) (tag_end-ends (after_gap text) rest (f ∙ e))
    go again None false f e = none-some e
    go again None true f e = one (after_attribute (after_gap text)) refl e
      where
        one : (o : Option (List ℕ)) → after_attribute (after_gap text) ≡ o → read o ≡ Some rest → IsEnd (62 ∷ rest) text
        one None g e = none-some e
        one (Some r) g e = end-of-end (gap-end text) (end-of-end (attribute-end (after_gap text) r g) (again r e))

-- tags

name-end : (text : List ℕ) (tag : Named) → tag_name text ≡ Some tag → IsEnd tag.rest text
unfolding tag_name
name-end [] tag e = none-some e
name-end (b ∷ bs) tag e = beyond-byte b bs (go (is_ascii_alphabetic b) e)
  where
    continues : ℕ → Bool
    continues c = is_ascii_alphanumeric c || c == 45

    tag_of : Option Named → Named
    tag_of o = elim o as (λ _. Named) [ None ↦ tag | Some t ↦ t ]

    go : (c : Bool) → elim c as (λ _. Option Named) [ true ↦ Some (record { name = b ∷ front_of continues bs; rest = skip continues bs }) | false ↦ None ] ≡ Some tag → IsEnd tag.rest bs
    go true e = same-left (skip continues bs) tag.rest (ap (λ (o : Option Named). (tag_of o).rest) e) (skip-end continues bs)
    go false e = none-some e

named-ends : (reading : List ℕ → Option (List ℕ)) (text : List ℕ) (tag : Named) → ((t r : List ℕ) → reading t ≡ Some r → IsEnd (62 ∷ r) t)
    → (tag_name text and_then λ t. with_rest t.name (reading t.rest)) ≡ Some tag → IsEnd (62 ∷ tag.rest) text
named-ends reading text tag ends e = go (tag_name text) refl e
  where
    go : (o : Option Named) → tag_name text ≡ o → (o and_then λ t. with_rest t.name (reading t.rest)) ≡ Some tag → IsEnd (62 ∷ tag.rest) text
    go None f e = none-some e
    go (Some t) f e = let same = with_rest-read t.name (reading t.rest) tag e in end-of-end (name-end text t f) (ends t.rest tag.rest same.1)

open_tag-ends : (text : List ℕ) (tag : Named) → open_tag text ≡ Some tag → IsEnd (62 ∷ tag.rest) text
unfolding open_tag
open_tag-ends text tag e = go (after_word (codes "<") text) refl e
  where
    go : (o : Option (List ℕ)) → after_word (codes "<") text ≡ o
        → (o and_then λ inside. tag_name inside and_then λ t. with_rest t.name (enough t.rest)) ≡ Some tag → IsEnd (62 ∷ tag.rest) text
    go None f e = none-some e
    go (Some inside) f e = end-of-end (word-end (codes "<") text inside f) (named-ends enough inside tag (λ t r h. attributes-end (suc (length t)) t r h) e)

closing_tag-ends : (text : List ℕ) (tag : Named) → closing_tag text ≡ Some tag → IsEnd (62 ∷ tag.rest) text
unfolding closing_tag
closing_tag-ends text tag e = go (after_word (codes "</") text) refl e
  where
    go : (o : Option (List ℕ)) → after_word (codes "</") text ≡ o
        → (o and_then λ inside. tag_name inside and_then λ t. with_rest t.name (closes t.rest)) ≡ Some tag → IsEnd (62 ∷ tag.rest) text
    go None f e = none-some e
    go (Some inside) f e = end-of-end (word-end (codes "</") text inside f) (named-ends closes inside tag (λ t r h. end-of-end (gap-end t) (word-ends [] (after_gap t) r h)) e)

-- the other forms

past-ends : (front text rest : List ℕ) → beyond_word (front ++ 62 ∷ []) text ≡ Some rest → IsEnd (62 ∷ rest) text
unfolding beyond_word
past-ends front [] rest e = none-some e
past-ends front (b ∷ bs) rest e = go (after_word (front ++ 62 ∷ []) (b ∷ bs)) refl e (λ g. past-ends front bs rest g)
  where
    go : (o : Option (List ℕ)) → after_word (front ++ 62 ∷ []) (b ∷ bs) ≡ o → elim o as (λ _. Option (List ℕ)) [ Some r ↦ Some r | None ↦ beyond_word (front ++ 62 ∷ []) bs ] ≡ Some rest → (beyond_word (front ++ 62 ∷ []) bs ≡ Some rest → IsEnd (62 ∷ rest) bs) → IsEnd (62 ∷ rest) (b ∷ bs)
    go (Some r) f e k = word-ends front (b ∷ bs) rest (f ∙ e)
    go None f e k = beyond-byte b bs (k e)

past-end : (word text rest : List ℕ) → beyond_word word text ≡ Some rest → IsEnd rest text
unfolding beyond_word
past-end word [] rest e = none-some e
past-end word (b ∷ bs) rest e = go (after_word word (b ∷ bs)) refl e (λ g. past-end word bs rest g)
  where
    go : (o : Option (List ℕ)) → after_word word (b ∷ bs) ≡ o → elim o as (λ _. Option (List ℕ)) [ Some r ↦ Some r | None ↦ beyond_word word bs ] ≡ Some rest → (beyond_word word bs ≡ Some rest → IsEnd rest bs) → IsEnd rest (b ∷ bs)
    go (Some r) f e k = word-end word (b ∷ bs) rest (f ∙ e)
    go None f e k = beyond-byte b bs (k e)

from_to-ends : (start front text rest : List ℕ) → from_to start (front ++ 62 ∷ []) text ≡ Some rest → IsEnd (62 ∷ rest) text
unfolding from_to
from_to-ends start front text rest e = go (after_word start text) refl e
  where
    go : (o : Option (List ℕ)) → after_word start text ≡ o → elim o as (λ _. Option (List ℕ)) [ Some inside ↦ beyond_word (front ++ 62 ∷ []) inside | None ↦ None ] ≡ Some rest → IsEnd (62 ∷ rest) text
    go (Some inside) f e = end-of-end (word-end start text inside f) (past-ends front inside rest e)
    go None f e = none-some e

short-ends : (text rest : List ℕ) → short_end text ≡ Some rest → IsEnd (62 ∷ rest) text
unfolding short_end
short-ends text rest e = go (after_word (codes ">") text) refl e
  where
    go : (o : Option (List ℕ)) → after_word (codes ">") text ≡ o → o <|> after_word (codes "->") text ≡ Some rest → IsEnd (62 ∷ rest) text
    go (Some r) f e = word-ends [] text rest (f ∙ e)
    go None f e = word-ends (codes "-") text rest e

after_comment-ends : (older : Bool) (text rest : List ℕ) → after_comment older text ≡ Some rest → IsEnd (62 ∷ rest) text
unfolding after_comment
after_comment-ends false text rest e = go (short_end text) refl e
  where
    go : (o : Option (List ℕ)) → short_end text ≡ o → o <|> beyond_word (codes "-->") text ≡ Some rest → IsEnd (62 ∷ rest) text
    go (Some r) f e = short-ends text rest (f ∙ e)
    go None f e = past-ends (codes "--") text rest e
after_comment-ends true text rest e = go (short_end text) (beyond_word (codes "--") text) refl e
  where
    go : (short first : Option (List ℕ)) → beyond_word (codes "--") text ≡ first → elim short as (λ _. Option (List ℕ)) [
      | Some r ↦ None
      | None ↦ elim first as (λ _. Option (List ℕ)) [ Some r ↦ after_word (codes ">") r | None ↦ None ]
    ] ≡ Some rest → IsEnd (62 ∷ rest) text
    go (Some r) first f e = none-some e
    go None None f e = none-some e
    go None (Some r) f e = end-of-end (past-end (codes "--") text r f) (word-ends [] r rest e)

comment-ends : (older : Bool) (text rest : List ℕ) → comment older text ≡ Some rest → IsEnd (62 ∷ rest) text
unfolding comment
comment-ends older text rest e = go (after_word (codes "<!--") text) refl e
  where
    go : (o : Option (List ℕ)) → after_word (codes "<!--") text ≡ o → elim o as (λ _. Option (List ℕ)) [ Some inside ↦ after_comment older inside | None ↦ None ] ≡ Some rest → IsEnd (62 ∷ rest) text
    go None f e = none-some e
    go (Some inside) f e = end-of-end (word-end (codes "<!--") text inside f) (after_comment-ends older inside rest e)

after_declaration-ends : (text rest : List ℕ) → after_declaration text ≡ Some rest → IsEnd (62 ∷ rest) text
unfolding after_declaration
after_declaration-ends [] rest e = none-some e
after_declaration-ends (b ∷ bs) rest e = beyond-byte b bs (go (is_ascii_alphabetic b) e)
  where
    go : (c : Bool) → elim c as (λ _. Option (List ℕ)) [ true ↦ beyond_word (codes ">") bs | false ↦ None ] ≡ Some rest → IsEnd (62 ∷ rest) bs
    go true e = past-ends [] bs rest e
    go false e = none-some e

declaration-ends : (text rest : List ℕ) → declaration text ≡ Some rest → IsEnd (62 ∷ rest) text
unfolding declaration
declaration-ends text rest e = go (after_word (codes "<!") text) refl e
  where
    go : (o : Option (List ℕ)) → after_word (codes "<!") text ≡ o → elim o as (λ _. Option (List ℕ)) [ Some inside ↦ after_declaration inside | None ↦ None ] ≡ Some rest → IsEnd (62 ∷ rest) text
    go None f e = none-some e
    go (Some inside) f e = end-of-end (word-end (codes "<!") text inside f) (after_declaration-ends inside rest e)

pub tag-ends : (rules : Rules) (text rest : List ℕ) → html_tag rules text ≡ Some rest → IsEnd (62 ∷ rest) text
unfolding html_tag
tag-ends rules text rest e = go (open_tag text) (closing_tag text) (comment rules.older text) (instruction text) (declaration text) refl refl refl refl refl e
  where
    go : (a b : Option Named) (c d f : Option (List ℕ)) → open_tag text ≡ a → closing_tag text ≡ b → comment rules.older text ≡ c → instruction text ≡ d → declaration text ≡ f
        → after_tag a <|> after_tag b <|> c <|> d <|> f <|> character_data text ≡ Some rest → IsEnd (62 ∷ rest) text
    go (Some tag) b c d f p q r s t e = same-left (62 ∷ tag.rest) (62 ∷ rest) (ap (λ l. 62 ∷ l) (some-same e)) (open_tag-ends text tag p)
    go None (Some tag) c d f p q r s t e = same-left (62 ∷ tag.rest) (62 ∷ rest) (ap (λ l. 62 ∷ l) (some-same e)) (closing_tag-ends text tag q)
    go None None (Some left) d f p q r s t e = comment-ends rules.older text rest (r ∙ e)
    go None None None (Some left) f p q r s t e = from_to-ends (codes "<?") (codes "?") text rest (s ∙ e)
    go None None None None (Some left) p q r s t e = declaration-ends text rest (t ∙ e)
    go None None None None None p q r s t e = from_to-ends (codes "<![CDATA[") (codes "]]") text rest e

pub raw_html-ends : (rules : Rules) (text rest : List ℕ) → raw_html rules text ≡ Some rest → IsEnd (62 ∷ rest) text
raw_html-ends rules text rest e = tag-ends rules text rest (raw-tag rules text rest e).1

-- so it holds one

abbrev pub has_end : List ℕ → Bool
has_end [] = false
has_end (b ∷ bs) = b == 62 || has_end bs

or-second : (x y : Bool) → y ≡ true → (x || y) ≡ true
or-second true y e = refl
or-second false y e = e

end-inside : (front left : List ℕ) → has_end (front ++ 62 ∷ left) ≡ true
end-inside [] left = refl
end-inside (b ∷ bs) left = or-second (b == 62) (has_end (bs ++ 62 ∷ left)) (end-inside bs left)

pub raw_html-has_end : (rules : Rules) (text rest : List ℕ) → raw_html rules text ≡ Some rest → has_end text ≡ true
raw_html-has_end rules text rest e = let h = raw_html-ends rules text rest e in ap has_end h.is ∙ end-inside h.front rest
