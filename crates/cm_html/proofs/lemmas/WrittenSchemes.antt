-- The scheme of an address as it is written.
use Rattle.std.proofs.Common.{◌≡◌, ℕ, ◌<◌, ◌==◌, Bool, true, false, not, ◌&&◌, ◌||◌, Option, Some, None, List, [], ◌∷◌, ◌++◌, codes, map, ap, refl, sym, subst, ◌∙◌, arith}
use Rattle.std.specs.Prelude.{flat_map, if◌then◌else◌, ◌/◌, ◌%◌}
use Rattle.std.specs.List.{list_all}
use Rattle.std.specs.Option.{option_map, option_map_or}
use Rattle.std.proofs.lemmas.Bool.{agree_below, agree_below_at, and_parts, eqb-true, false≢true}
use Rattle.std.proofs.lemmas.Bool.Decides.{nat_tests}
use Rattle.std.proofs.lemmas.Grind.{flat_map-append}
use Rattle.std.specs.Str.{bytes_eq}
use Rattle.std.specs.Fmt.{digit_glyph}
use Rattle.cm_html.proofs.lemmas.MarkupTexts.{by_byte, plain_byte}
use Rattle.percent_encoding.specs.Percent.{percent_encode_byte}
use Rattle.std.specs.Char.{to_ascii_lowercase}
use Rattle.std.specs.Int.{is_in_range}
use Rattle.cm_text.specs.Rules.{Rules}
use Rattle.cm_text.specs.Addresses.{begins_a_part, address_scheme, is_web_scheme, is_web_address, is_followed}
use Rattle.cm_html.specs.Escape.{escape_byte, escape, is_kept, destination_byte, destination_html}

-- a byte as it is written
abbrev written : ℕ → List ℕ
written b = escape (destination_byte b)

-- bytes of a scheme
abbrev stays : ℕ → Bool
stays b = not (b == 58) && not (begins_a_part b)

-- before a scheme
abbrev onto : List ℕ → Option (List ℕ) → Option (List ℕ)
onto [] scheme = scheme
onto (b ∷ bs) scheme = option_map (λ s. b ∷ s) (onto bs scheme)

scheme-on : (xs rest : List ℕ) → list_all stays xs ≡ true → address_scheme (xs ++ rest) ≡ onto xs (address_scheme rest)
unfolding address_scheme
scheme-on [] rest h = refl
scheme-on (b ∷ bs) rest h =
    let parts = and_parts (stays b) (list_all stays bs) h in
    go (b == 58) (begins_a_part b) parts.0 ∙ ap (option_map (λ s. b ∷ s)) (scheme-on bs rest parts.1)
  where
    go : (s t : Bool) → (not s && not t) ≡ true
        → (if s then Some [] else if t then None else option_map (λ s. b ∷ s) (address_scheme (bs ++ rest))) ≡ option_map (λ s. b ∷ s) (address_scheme (bs ++ rest))
    go true t e = absurd (false≢true e)
    go false true e = absurd (false≢true e)
    go false false e = refl

-- what is kept stays, escaped or not
escaped-stays : (b : ℕ) → stays b ≡ true → list_all stays (escape_byte b) ≡ true
escaped-stays = by_byte (λ b. stays b ≡ true → list_all stays (escape_byte b) ≡ true) (λ h. refl) (λ h. refl) (λ h. refl) (λ h. refl)
    (λ b n38 n60 n62 n34 h. ap (λ xs. list_all stays xs) (plain_byte b n38 n60 n62 n34) ∙ ap (λ t. t && true) h)

-- hexadecimal digits, by computation
digits-stay : agree_below (λ n. list_all stays (escape_byte (digit_glyph true n))) (λ n. true) 16 ≡ true
digits-stay = refl

digit-stays : (n : ℕ) → n < 16 → list_all stays (escape_byte (digit_glyph true n)) ≡ true
digit-stays n low = agree_below_at (λ n. list_all stays (escape_byte (digit_glyph true n))) (λ n. true) 16 n digits-stay low

both-stay : (xs ys : List ℕ) → list_all stays xs ≡ true → list_all stays ys ≡ true → list_all stays (xs ++ ys) ≡ true
both-stay [] ys h k = k
both-stay (x ∷ xs) ys h k =
    let parts = and_parts (stays x) (list_all stays xs) h in
    ap (λ t. t && list_all stays (xs ++ ys)) parts.0 ∙ both-stay xs ys parts.1 k

written-stays : (b : ℕ) → stays b ≡ true → list_all stays (written b) ≡ true
unfolding destination_byte percent_encode_byte
written-stays b h = go (is_kept b)
  where
    go : (t : Bool) → list_all stays (escape (if t then b ∷ [] else percent_encode_byte b)) ≡ true
    go true = both-stay (escape_byte b) [] (escaped-stays b h) refl
    go false =
        both-stay (escape_byte (digit_glyph true (b / 16 % 16))) (escape_byte (digit_glyph true (b % 16)) ++ [])
        (digit-stays (b / 16 % 16) (omega arith))
        (both-stay (escape_byte (digit_glyph true (b % 16))) [] (digit-stays (b % 16) (omega arith)) refl)

abbrev written_of : Option (List ℕ) → Option (List ℕ)
written_of None = None
written_of (Some scheme) = Some (destination_html scheme)

in-front : (b : ℕ) (bs : List ℕ) → destination_html (b ∷ bs) ≡ written b ++ destination_html bs
in-front b bs = flat_map-append escape_byte (destination_byte b) (flat_map destination_byte bs)

onto-none : (xs : List ℕ) → onto xs None ≡ None
onto-none [] = refl
onto-none (x ∷ xs) = ap (option_map (λ s. x ∷ s)) (onto-none xs)

onto-some : (xs scheme : List ℕ) → onto xs (Some scheme) ≡ Some (xs ++ scheme)
onto-some [] scheme = refl
onto-some (x ∷ xs) scheme = ap (option_map (λ s. x ∷ s)) (onto-some xs scheme)

onto-written : (b : ℕ) (o : Option (List ℕ)) → onto (written b) (written_of o) ≡ written_of (option_map (λ s. b ∷ s) o)
onto-written b None = onto-none (written b)
onto-written b (Some scheme) = onto-some (written b) (destination_html scheme) ∙ ap Some (sym (in-front b scheme))

scheme-written : (address : List ℕ) → address_scheme (destination_html address) ≡ written_of (address_scheme address)
unfolding address_scheme is_kept destination_byte
scheme-written [] = refl
scheme-written (b ∷ bs) = at-58 (scheme-written bs) (b == 58) refl
  where
    abbrev-goal : ℕ → Type 0
    abbrev-goal c = address_scheme (destination_html (c ∷ bs)) ≡ written_of (address_scheme (c ∷ bs))

    ends : (c : ℕ) → address_scheme (written c ++ destination_html bs) ≡ written_of (address_scheme (c ∷ bs)) → abbrev-goal c
    ends c e = ap address_scheme (in-front c bs) ∙ e

    stayed : (c : ℕ) → (c == 58) ≡ false → begins_a_part c ≡ false → address_scheme (c ∷ bs) ≡ option_map (λ s. c ∷ s) (address_scheme bs)
    stayed c n m = grind (arith, n, m)

    stays-on : (n : Bool) (m : Bool) → n ≡ false → m ≡ false → (not n && not m) ≡ true
    stays-on n m e f = ap (λ t. not t && not m) e ∙ ap not f

    at-part : address_scheme (destination_html bs) ≡ written_of (address_scheme bs) → (t : Bool) → begins_a_part b ≡ t → (b == 58) ≡ false → abbrev-goal b
    at-part more false m n =
        ends b (scheme-on (written b) (destination_html bs) (written-stays b (stays-on (b == 58) (begins_a_part b) n m))
        ∙ ap (onto (written b)) more ∙ onto-written b (address_scheme bs) ∙ ap written_of (sym (stayed b n m)))
    at-part more true m n = at-47 (b == 47) refl
      where
        at-35 : (t : Bool) → (b == 35) ≡ t → (b == 47) ≡ false → (b == 63) ≡ false → abbrev-goal b
        at-35 true e n47 n63 = subst abbrev-goal (sym (eqb-true b 35 e)) (ends 35 (part-35))
          where
            part-35 : address_scheme (written 35 ++ destination_html bs) ≡ None
            part-35 = refl
        at-35 false e n47 n63 = absurd (false≢true (sym (ap (λ t. t || (b == 63) || (b == 35)) n47 ∙ ap (λ t. t || (b == 35)) n63 ∙ e) ∙ m))

        at-63 : (t : Bool) → (b == 63) ≡ t → (b == 47) ≡ false → abbrev-goal b
        at-63 true e n47 = subst abbrev-goal (sym (eqb-true b 63 e)) (ends 63 part-63)
          where
            part-63 : address_scheme (written 63 ++ destination_html bs) ≡ None
            part-63 = refl
        at-63 false e n47 = at-35 (b == 35) refl n47 e

        at-47 : (t : Bool) → (b == 47) ≡ t → abbrev-goal b
        at-47 true e = subst abbrev-goal (sym (eqb-true b 47 e)) (ends 47 part-47)
          where
            part-47 : address_scheme (written 47 ++ destination_html bs) ≡ None
            part-47 = refl
        at-47 false e = at-63 (b == 63) refl e

    at-58 : address_scheme (destination_html bs) ≡ written_of (address_scheme bs) → (t : Bool) → (b == 58) ≡ t → abbrev-goal b
    at-58 more true e = subst abbrev-goal (sym (eqb-true b 58 e)) (ends 58 part-58)
      where
        part-58 : address_scheme (written 58 ++ destination_html bs) ≡ Some []
        part-58 = refl
    at-58 more false e = at-part more (begins_a_part b) refl e

-- a scheme of the web is written unchanged

abbrev is_letter : ℕ → Bool
is_letter b = is_in_range 65 90 b || is_in_range 97 122 b

letters-kept : agree_below (λ b. not (is_letter b) || is_kept b) (λ b. true) 123 ≡ true
unfolding is_kept
letters-kept = refl

letter-kept : (b : ℕ) → is_letter b ≡ true → is_kept b ≡ true
letter-kept b h =
    let low : b < 123 = below b h in
    ap (λ t. not t || is_kept b) (sym h) ∙ agree_below_at (λ b. not (is_letter b) || is_kept b) (λ b. true) 123 b letters-kept low
  where
    below : (b : ℕ) → is_letter b ≡ true → b < 123
    below b h = grind (arith, nat_tests, h)

letter-alone : (b : ℕ) → is_letter b ≡ true → escape_byte b ≡ b ∷ []
letter-alone b h = grind (arith, nat_tests, h)

letter-written : (b : ℕ) → is_letter b ≡ true → written b ≡ b ∷ []
unfolding destination_byte
letter-written b h = ap (λ t. escape (if t then b ∷ [] else percent_encode_byte b)) (letter-kept b h) ∙ ap (λ xs. xs ++ []) (letter-alone b h)

letters-stand : (s : List ℕ) → list_all is_letter s ≡ true → destination_html s ≡ s
letters-stand [] h = refl
letters-stand (b ∷ bs) h =
    let parts = and_parts (is_letter b) (list_all is_letter bs) h in
    in-front b bs ∙ ap (λ xs. xs ++ destination_html bs) (letter-written b parts.0) ∙ ap (λ xs. b ∷ xs) (letters-stand bs parts.1)

abbrev is_small : ℕ → Bool
is_small b = is_in_range 97 122 b

small-letter : (b c : ℕ) → (to_ascii_lowercase b == c) ≡ true → is_small c ≡ true → is_letter b ≡ true
small-letter b c e h = grind (arith, nat_tests, e, h)

lower-letters : (s w : List ℕ) → bytes_eq (map to_ascii_lowercase s) w ≡ true → list_all is_small w ≡ true → list_all is_letter s ≡ true
lower-letters [] w e h = refl
lower-letters (b ∷ bs) [] e h = absurd (false≢true e)
lower-letters (b ∷ bs) (c ∷ cs) e h =
    let same = and_parts (to_ascii_lowercase b == c) (bytes_eq (map to_ascii_lowercase bs) cs) e in
    let small = and_parts (is_small c) (list_all is_small cs) h in
    ap (λ t. t && list_all is_letter bs) (small-letter b c same.0 small.0) ∙ lower-letters bs cs same.1 small.1

web-letters : (s : List ℕ) → is_web_scheme s ≡ true → list_all is_letter s ≡ true
web-letters s h = go (bytes_eq (map to_ascii_lowercase s) (codes "http")) (bytes_eq (map to_ascii_lowercase s) (codes "https")) (bytes_eq (map to_ascii_lowercase s) (codes "mailto")) refl refl refl h
  where
    go : (a b c : Bool) → bytes_eq (map to_ascii_lowercase s) (codes "http") ≡ a → bytes_eq (map to_ascii_lowercase s) (codes "https") ≡ b → bytes_eq (map to_ascii_lowercase s) (codes "mailto") ≡ c
        → (a || (b || (c || false))) ≡ true → list_all is_letter s ≡ true
    go true b c e f g h = lower-letters s (codes "http") e refl
    go false true c e f g h = lower-letters s (codes "https") f refl
    go false false true e f g h = lower-letters s (codes "mailto") g refl
    go false false false e f g h = absurd (false≢true h)

scheme-of : (o : Option (List ℕ)) → option_map_or is_web_scheme o true ≡ true → option_map_or is_web_scheme (written_of o) true ≡ true
scheme-of None h = refl
scheme-of (Some scheme) h = subst (λ s. is_web_scheme s ≡ true) (sym (letters-stand scheme (web-letters scheme h))) h

written_as_web : (address : List ℕ) → is_web_address address ≡ true → is_web_address (destination_html address) ≡ true
written_as_web address h = ap (λ scheme. option_map_or is_web_scheme scheme true) (scheme-written address) ∙ scheme-of (address_scheme address) h

-- an address that the rules follow is one as it is written
pub written_is_followed : (rules : Rules) (address : List ℕ) → is_followed rules address ≡ true → is_followed rules (destination_html address) ≡ true
written_is_followed rules address follows = either rules.any_address follows
  where
    either : (t : Bool) → (t || is_web_address address) ≡ true → (t || is_web_address (destination_html address)) ≡ true
    either true h = refl
    either false h = written_as_web address h
