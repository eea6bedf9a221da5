-- Escaped texts, as text and as the values of attributes.
use Rattle.std.proofs.Common.{◌≡◌, ℕ, ◌==◌, Bool, true, false, ◌&&◌, List, [], ◌∷◌, ◌++◌, codes, ap, refl, sym, subst, ◌∙◌, arith, append-nil}
use Rattle.std.specs.Prelude.{flat_map, if◌then◌else◌}
use Rattle.std.proofs.lemmas.List.{append_assoc}
use Rattle.std.proofs.lemmas.Bool.{and_parts, false≢true, eqb-true}
use Rattle.cm_html.specs.Escape.{escape_byte, escape, destination_html, destination_byte}
use Rattle.cm_text.specs.Rules.{Rules}
use Rattle.cm_html.specs.Markup.Place.{InText, InTag, InValue, Refused}
use Rattle.cm_html.specs.Markup.{Place, tags_from, beyond, may_stand, is_text, may_be_value}
use Rattle.cm_html.proofs.lemmas.MarkupSteps.{Goes, Balanced, and_then, empty_balanced, append_balanced}

-- a byte is one of the four, or none of them
pub by_byte : (P : ℕ → Type 0) → P 38 → P 60 → P 62 → P 34
    → ((b : ℕ) → (b == 38) ≡ false → (b == 60) ≡ false → (b == 62) ≡ false → (b == 34) ≡ false → P b) → (b : ℕ) → P b
by_byte P ampersand less greater quotation other b = at_38 (b == 38) refl
  where
    at_34 : (t : Bool) → (b == 34) ≡ t → (b == 38) ≡ false → (b == 60) ≡ false → (b == 62) ≡ false → P b
    at_34 true e n38 n60 n62 = subst P (sym (eqb-true b 34 e)) quotation
    at_34 false e n38 n60 n62 = other b n38 n60 n62 e

    at_62 : (t : Bool) → (b == 62) ≡ t → (b == 38) ≡ false → (b == 60) ≡ false → P b
    at_62 true e n38 n60 = subst P (sym (eqb-true b 62 e)) greater
    at_62 false e n38 n60 = at_34 (b == 34) refl n38 n60 e

    at_60 : (t : Bool) → (b == 60) ≡ t → (b == 38) ≡ false → P b
    at_60 true e n38 = subst P (sym (eqb-true b 60 e)) less
    at_60 false e n38 = at_62 (b == 62) refl n38 e

    at_38 : (t : Bool) → (b == 38) ≡ t → P b
    at_38 true e = subst P (sym (eqb-true b 38 e)) ampersand
    at_38 false e = at_60 (b == 60) refl e

-- any other byte stays unchanged, wherever it is
pub plain_byte : (b : ℕ) → (b == 38) ≡ false → (b == 60) ≡ false → (b == 62) ≡ false → (b == 34) ≡ false → escape_byte b ≡ b ∷ []
plain_byte b n38 n60 n62 n34 = grind (arith, n38, n60, n62, n34)

pub stands : (b : ℕ) (next : List ℕ) → (b == 38) ≡ false → (b == 60) ≡ false → (b == 62) ≡ false → (b == 34) ≡ false → may_stand b next ≡ true
stands b next n38 n60 n62 n34 = rw (n38, n60, n62, n34)

text_byte : (b : ℕ) (rest : List ℕ) → is_text (escape_byte b ++ rest) ≡ is_text rest
text_byte = by_byte (λ b. (rest : List ℕ) → is_text (escape_byte b ++ rest) ≡ is_text rest) (λ rest. refl) (λ rest. refl) (λ rest. refl) (λ rest. refl)
    (λ b n38 n60 n62 n34 rest.
    ap (λ bytes. is_text (bytes ++ rest)) (plain_byte b n38 n60 n62 n34)
    ∙ ap (λ t. t && is_text rest) (stands b rest n38 n60 n62 n34))

pub escape_is_text : (text : List ℕ) → is_text (escape text) ≡ true
escape_is_text [] = refl
escape_is_text (b ∷ bs) = text_byte b (escape bs) ∙ escape_is_text bs

pub destination_is_text : (dest : List ℕ) → is_text (destination_html dest) ≡ true
destination_is_text dest = escape_is_text (flat_map destination_byte dest)

no_quotation : (b : ℕ) (next : List ℕ) → may_stand b next ≡ true → (b == 34) ≡ false
no_quotation b next stands = decided (b == 34) refl
  where
    decided : (t : Bool) → (b == 34) ≡ t → (b == 34) ≡ false
    decided false e = e
    decided true e = absurd (false≢true (subst (λ c. may_stand c next ≡ true) (eqb-true b 34 e) stands))

module _ (rules : Rules) where
  text_stays : (b : ℕ) (next : List ℕ) (names : List (List ℕ)) → (b == 60) ≡ false → may_stand b next ≡ true → beyond rules (InText names) b next ≡ InText names
  text_stays b next names n60 fits = λ i. if n60 i then InTag [] names else (if fits i then InText names else Refused)

  -- as text

  escaped_byte : (b : ℕ) → Balanced rules (escape_byte b) []
  escaped_byte = by_byte (λ b. Balanced rules (escape_byte b) []) (λ names rest. refl) (λ names rest. refl) (λ names rest. refl) (λ names rest. refl)
      (λ b n38 n60 n62 n34 names rest.
      ap (λ bytes. tags_from rules (InText names) (bytes ++ rest)) (plain_byte b n38 n60 n62 n34)
      ∙ ap (λ place. tags_from rules place rest) (text_stays b rest names n60 (stands b rest n38 n60 n62 n34)))

  pub escaped : (text : List ℕ) → Balanced rules (escape text) []
  escaped [] = empty_balanced rules
  escaped (b ∷ bs) = append_balanced rules [] [] (escape_byte b) (escape bs) (escaped_byte b) (escaped bs)

  -- as a value

  -- a text is read to its end
  pub value_read : (tag before value : List ℕ) (names : List (List ℕ)) → is_text value ≡ true
      → Goes rules (InValue tag before names) value [] (InValue tag (before ++ value) names)
  value_read tag before [] names is rest = ap (λ v. tags_from rules (InValue tag v names) rest) (sym (append-nil before))
  value_read tag before (b ∷ bs) names is rest =
      let parts = and_parts (may_stand b bs) (is_text bs) is in
      ap (λ t. tags_from rules (if t then (if may_be_value rules tag before then InTag (tag ++ codes "\"\"") names else Refused) else InValue tag (before ++ b ∷ []) names) (bs ++ rest)) (no_quotation b bs parts.0)
      ∙ value_read tag (before ++ b ∷ []) bs names parts.1 rest
      ∙ ap (λ v. tags_from rules (InValue tag v names) rest) (append_assoc before (b ∷ []) bs)

  -- and closed by a quotation mark
  pub value_closed : (tag value : List ℕ) (names : List (List ℕ)) → may_be_value rules tag value ≡ true
      → Goes rules (InValue tag value names) (codes "\"") [] (InTag (tag ++ codes "\"\"") names)
  value_closed tag value names may rest = rw may

  -- an attribute, after the text before its value
  pub attribute : (a : Place) (tag front value : List ℕ) (names : List (List ℕ)) → Goes rules a front [] (InValue tag [] names)
      → is_text value ≡ true → may_be_value rules tag value ≡ true → Goes rules a (front ++ value ++ codes "\"") [] (InTag (tag ++ codes "\"\"") names)
  attribute a tag front value names opens is may =
      and_then rules a (InValue tag value names) (InTag (tag ++ codes "\"\"") names) [] [] (front ++ value) (codes "\"")
      (and_then rules a (InValue tag [] names) (InValue tag value names) [] [] front value opens (value_read tag [] value names is))
      (value_closed tag value names may)
