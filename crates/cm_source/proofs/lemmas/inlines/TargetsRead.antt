-- A spelled destination and title are read as they are, after the `]` of a link or an image.
use Rattle.std.proofs.Common.{◌≡◌, ℕ, Bool, true, false, not, ◌&&◌, ◌||◌, ◌==◌, List, [], ◌∷◌, ◌++◌, drop, Option, Some, None, refl, sym, ap, ◌∙◌, arith, append_assoc, append-nil}
use Rattle.std.specs.Fmt.{digits}
use Rattle.std.specs.List.{list_all}
use Rattle.std.proofs.lemmas.Bool.{and_parts, or_parts, agree_below, agree_below_at, not-true}
use Rattle.std.proofs.lemmas.Bool.Decides.{nat_tests}
use Rattle.cm_text.specs.Characters.{is_ascii_punct}
use Rattle.cm_text.specs.Rules.{Rules}
use Rattle.cm_text.specs.Addresses.{is_followed}
use Rattle.cm_text.specs.Unescaping.{unescape}
use Rattle.cm_scan.specs.Words.{begins_with, skip, trim_start, after_word, given, ◌<|>◌}
use Rattle.cm_scan.specs.spans.Tags.{after_gap}
use Rattle.cm_scan.specs.inlines.Links.{Reading, beyond, keep_if, escapes_next, up_to_closing, destination, has_blank_line, has_no_blank_line, title_in, title}
use Rattle.cm_scan.specs.inlines.Brackets.{LinkEnd, link_end, closed, after_destination, inline_end, Defined, reference_end, end_if_followed, end_at}
use Rattle.cm_source.specs.Texts.{numbered, spelled_bytes, spelled_title, spelled_target}
use Rattle.cm_source.specs.InlineRefusals.{has_nul}
use Rattle.cm_source.proofs.lemmas.inlines.BytesRead.{reading}
use Rattle.cm_source.proofs.lemmas.shared.ByteSpellings.{SpellsByte, ByNumber, Escaped, AsItIs, SpellsBytes, NoByte, OneByte, is_numbered, spells_bytes}
use Rattle.cm_source.proofs.lemmas.inlines.UnescapeBack.{unescape_bytes}
use Rattle.cm_source.proofs.lemmas.spelling.SpelledTexts.{escapes-none}
use Rattle.cm_source.proofs.lemmas.spelling.NoLineFeeds.{has_feed}
use Rattle.cm_source.proofs.lemmas.shared.BytesOfSpellings.{bytes-without}

-- bytes before what was read
onto : List ℕ → Option Reading → Option Reading
onto [] o = o
onto (b ∷ bs) o = beyond b (onto bs o)

onto_append : (xs ys : List ℕ) (o : Option Reading) → onto (xs ++ ys) o ≡ onto xs (onto ys o)
unfolding onto
onto_append [] ys o = refl
onto_append (x ∷ xs) ys o = ap (beyond x) (onto_append xs ys o)

onto_read : (xs text rest : List ℕ) → onto xs (Some (reading text rest)) ≡ Some (reading (xs ++ text) rest)
unfolding onto
onto_read [] text rest = refl
onto_read (x ∷ xs) text rest = ap (beyond x) (onto_read xs text rest)

-- ---- up to the byte that closes

-- a byte that ends a destination or a title, or can't be in it
abbrev is_stop : ℕ → Bool
is_stop b = b == 10 || b == 34 || b == 60 || b == 62

-- the other bytes are passed, and a backslash is none of these bytes
abbrev PassesOthers : (closes forbidden : ℕ → Bool) → Type 0
PassesOthers closes forbidden = (b : ℕ) → is_stop b ≡ false → (closes b ≡ false) × (forbidden b ≡ false)

abbrev is_passed : ℕ → Bool
is_passed b = not (is_stop b || b == 92)

passed_is : (b : ℕ) → is_passed b ≡ true → (is_stop b ≡ false) × ((b == 92) ≡ false)
passed_is b e = or_parts (is_stop b) (b == 92) (not-true (is_stop b || b == 92) e)

module _ (closes forbidden : ℕ → Bool) (others : PassesOthers closes forbidden) where
  by_tests : ℕ → (rest : List ℕ) → (closing barred escaped : Bool) → Option Reading
  by_tests b rest closing barred escaped = elim closing [ true ↦ Some (reading [] rest) | false ↦ elim barred [ true ↦ None | false ↦ beyond b (up_to_closing closes forbidden escaped rest) ] ]

  -- a byte that neither ends the part nor is forbidden
  byte_passed : (b : ℕ) (rest : List ℕ) (escaped : Bool) → is_stop b ≡ false → escapes_next b rest ≡ escaped
      → up_to_closing closes forbidden false (b ∷ rest) ≡ beyond b (up_to_closing closes forbidden escaped rest)
  unfolding up_to_closing by_tests
  byte_passed b rest escaped e f =
      ap (λ t. by_tests b rest t (forbidden b) (escapes_next b rest)) (others b e).0
      ∙ ap (λ t. by_tests b rest false t (escapes_next b rest)) (others b e).1
      ∙ ap (λ t. by_tests b rest false false t) f

  bytes_passed : (bs rest : List ℕ) → list_all is_passed bs ≡ true → up_to_closing closes forbidden false (bs ++ rest) ≡ onto bs (up_to_closing closes forbidden false rest)
  unfolding onto
  bytes_passed [] rest e = refl
  bytes_passed (b ∷ bs) rest e =
      let both = and_parts (is_passed b) (list_all is_passed bs) e in
      let no = passed_is b both.0 in
      byte_passed b (bs ++ rest) false no.0 (escapes-none b (bs ++ rest) no.1) ∙ ap (beyond b) (bytes_passed bs rest both.1)

  numbers_pass : agree_below (λ b. list_all is_passed (numbered b)) (λ b. true) 128 ≡ true
  unfolding digits
  numbers_pass = refl

  plain_passes : (b : ℕ) → is_numbered b ≡ false → is_ascii_punct b ≡ false → is_passed b ≡ true
  plain_passes b e f = grind (arith, nat_tests, e, f)

  spelling_passed : (b : ℕ) (front rest : List ℕ) → SpellsByte b front → up_to_closing closes forbidden false (front ++ rest) ≡ onto front (up_to_closing closes forbidden false rest)
  unfolding up_to_closing onto
  spelling_passed b front rest (ByNumber low) = bytes_passed (numbered b) rest (agree_below_at (λ b. list_all is_passed (numbered b)) (λ b. true) 128 b numbers_pass low)
  spelling_passed b front rest (Escaped punct tick) = byte_passed 92 (b ∷ rest) true refl punct
  spelling_passed b front rest (AsItIs printed plain) = bytes_passed (b ∷ []) rest (ap (λ t. t && true) (plain_passes b printed plain))

  spellings_passed : (text front rest : List ℕ) → SpellsBytes text front → up_to_closing closes forbidden false (front ++ rest) ≡ onto front (up_to_closing closes forbidden false rest)
  unfolding onto
  spellings_passed text front rest NoByte = refl
  spellings_passed text front rest (OneByte {b = b} {bs = bs} {first = first} {others = further} one more) =
      ap (up_to_closing closes forbidden false) (append_assoc first further rest)
      ∙ spelling_passed b first (further ++ rest) one
      ∙ ap (onto first) (spellings_passed bs further rest more)
      ∙ sym (onto_append first further (up_to_closing closes forbidden false rest))

  -- spelled bytes up to the one that closes
  closed_read : (close : ℕ) (text rest : List ℕ) → closes close ≡ true → up_to_closing closes forbidden false (spelled_bytes text ++ close ∷ rest) ≡ Some (reading (spelled_bytes text) rest)
  unfolding up_to_closing by_tests
  closed_read close text rest e =
      spellings_passed text (spelled_bytes text) (close ∷ rest) (spells_bytes text)
      ∙ ap (λ t. onto (spelled_bytes text) (by_tests close rest t (forbidden close) (escapes_next close rest))) e
      ∙ onto_read (spelled_bytes text) [] rest ∙ ap (λ t. Some (reading t rest)) (append-nil (spelled_bytes text))

-- ---- destination and title

no_stop : (b : ℕ) → is_stop b ≡ false → ((b == 62) ≡ false) × (((b == 60) || (b == 10)) ≡ false)
no_stop b e = (grind (arith, nat_tests, e), grind (arith, nat_tests, e))

no_quote : (b : ℕ) → is_stop b ≡ false → ((b == 34) ≡ false) × (false ≡ false)
no_quote b e = (grind (arith, nat_tests, e), refl)

destination_read : (dest rest : List ℕ) → destination (60 ∷ (spelled_bytes dest ++ 62 ∷ rest)) ≡ Some (reading (spelled_bytes dest) rest)
unfolding destination
destination_read dest rest = closed_read (λ c. c == 62) (λ c. c == 60 || c == 10) no_stop 62 dest rest refl

-- no line feed is in spelled bytes
no_blank_line : (text : List ℕ) → has_feed text ≡ false → has_blank_line text ≡ false
unfolding has_blank_line
no_blank_line [] e = refl
no_blank_line (b ∷ bs) e =
    let parts = or_parts (b == 10) (has_feed bs) e in
    ap (λ t. (t && begins_with 10 (trim_start bs)) || has_blank_line bs) parts.0 ∙ no_blank_line bs parts.1

title_read : (text rest : List ℕ) → title (34 ∷ (spelled_bytes text ++ 34 ∷ rest)) ≡ Some (reading (spelled_bytes text) rest)
unfolding title title_in
title_read text rest =
    ap (keep_if has_no_blank_line) (closed_read (λ c. c == 34) (λ c. false) no_quote 34 text rest refl)
    ∙ ap (λ t. given (not t) (reading (spelled_bytes text) rest)) (no_blank_line (spelled_bytes text) (bytes-without text))

-- ---- the end of a link

after_destination_read : (dest text rest : List ℕ) → after_destination dest (spelled_title text ++ 41 ∷ rest) ≡ Some (link_end (unescape dest, unescape (spelled_bytes text)) rest)
unfolding after_destination after_gap skip after_word
after_destination_read dest [] rest = refl
after_destination_read dest (b ∷ bs) rest =
    ap (λ t. after_destination dest (32 ∷ 34 ∷ t)) (append_assoc (spelled_bytes (b ∷ bs)) (34 ∷ []) (41 ∷ rest))
    ∙ ap (λ o. elim o as (λ _. Option LinkEnd) [
      | Some t ↦ closed dest t.text t.rest
      | None ↦ closed dest [] (32 ∷ 34 ∷ (spelled_bytes (b ∷ bs) ++ 34 ∷ 41 ∷ rest))
    ]) (title_read (b ∷ bs) (41 ∷ rest))

target_parts : (dest text rest : List ℕ) → drop 1 (spelled_target dest text) ++ rest ≡ 40 ∷ 60 ∷ (spelled_bytes dest ++ 62 ∷ (spelled_title text ++ 41 ∷ rest))
unfolding spelled_target
target_parts dest text rest =
    let d : List ℕ = spelled_bytes dest in
    let t : List ℕ = spelled_title text in
    ap (λ l. 40 ∷ 60 ∷ l) (append_assoc (d ++ 62 ∷ [] ++ t) (41 ∷ []) rest ∙ append_assoc (d ++ 62 ∷ []) t (41 ∷ rest) ∙ append_assoc d (62 ∷ []) (t ++ 41 ∷ rest))

inline_end_read : (dest text rest : List ℕ) → inline_end (40 ∷ 60 ∷ (spelled_bytes dest ++ 62 ∷ (spelled_title text ++ 41 ∷ rest))) ≡ Some (link_end (unescape (spelled_bytes dest), unescape (spelled_bytes text)) rest)
unfolding inline_end after_word after_gap skip
inline_end_read dest text rest =
    ap (λ o. elim o as (λ _. Option LinkEnd) [
      | Some d ↦ after_destination d.text d.rest
      | None ↦ closed [] [] (60 ∷ (spelled_bytes dest ++ 62 ∷ (spelled_title text ++ 41 ∷ rest)))
    ]) (destination_read dest (spelled_title text ++ 41 ∷ rest))
    ∙ after_destination_read (spelled_bytes dest) text rest

pub end_read : (rules : Rules) (defined : Defined) (between dest text rest : List ℕ) → has_nul dest ≡ false → has_nul text ≡ false → is_followed rules dest ≡ true
    → end_at rules defined between (drop 1 (spelled_target dest text) ++ rest) ≡ Some (link_end (dest, text) rest)
unfolding end_at
end_read rules defined between dest text rest h k followed =
    ap by_inline
    (ap inline_end (target_parts dest text rest) ∙ inline_end_read dest text rest
    ∙ ap (λ t. Some (link_end (t, unescape (spelled_bytes text)) rest)) (unescape_bytes dest h)
    ∙ ap (λ t. Some (link_end (dest, t) rest)) (unescape_bytes text k))
    ∙ ap (λ (t : Bool). first (given t (link_end (dest, text) rest))) followed
  where
    first : Option LinkEnd → Option LinkEnd
    first o = o <|> end_if_followed rules (reference_end defined between (drop 1 (spelled_target dest text) ++ rest))

    by_inline : Option LinkEnd → Option LinkEnd
    by_inline o = first (end_if_followed rules o)
