-- Which bytes a spelled text has.
use Rattle.std.proofs.Common.{◌≡◌, ℕ, ◌<◌, ◌==◌, ◌&&◌, ◌||◌, not, Bool, true, false, List, [], ◌∷◌, ◌++◌, codes, refl, ap}
use Rattle.std.specs.Fmt.{decimal, digits}
use Rattle.std.specs.List.{list_all, list_any}
use Rattle.std.specs.Char.{is_ascii_control, is_ascii_digit}
use Rattle.std.proofs.lemmas.Bool.{and_parts, agree_below_at, or_from}
use Rattle.cm_text.specs.Characters.{is_ascii_punct}
use Rattle.cm_scan.specs.Words.{is_empty}
use Rattle.cm_source.specs.Texts.{numbered, spelled_byte, spelled_bytes, edge_byte, spelled_text, spelled_title, spelled_target}
use Rattle.cm_source.proofs.lemmas.shared.ByteSpellings.{SpellsByte, ByNumber, Escaped, AsItIs, no-control, spells_byte, spells_edge}
use Rattle.cm_scan.proofs.lemmas.texts.ToldApart.{differs, differs'}
use Rattle.cm_source.proofs.lemmas.shared.AllPass.{all-both, all-so}

-- ---- one byte

pub all-digits : (c : ℕ) → c < 128 → list_all is_ascii_digit (decimal c) ≡ true
unfolding digits
all-digits c low = agree_below_at (λ n. list_all is_ascii_digit (decimal n)) (λ n. true) 128 c refl low

-- ---- the bytes of spelled texts

-- no U+0000, no line ending, no backtick
unfoldable pub is_tame : ℕ → Bool
is_tame b = not (b == 0) && (not (b == 10) && (not (b == 13) && not (b == 96)))

tame : (b : ℕ) → (b == 0) ≡ false → (b == 10) ≡ false → (b == 13) ≡ false → (b == 96) ≡ false → is_tame b ≡ true
unfolding is_tame
tame b e f g h = rw (e, f, g, h) refl

digit-tame : (b : ℕ) → is_ascii_digit b ≡ true → is_tame b ≡ true
digit-tame b d = tame b (differs is_ascii_digit b 0 d refl) (differs is_ascii_digit b 10 d refl) (differs is_ascii_digit b 13 d refl) (differs is_ascii_digit b 96 d refl)

number-tame : (b : ℕ) → b < 128 → list_all is_tame (numbered b) ≡ true
unfolding is_tame
number-tame b low = all-both is_tame (decimal b) (59 ∷ []) (all-so is_ascii_digit is_tame digit-tame (decimal b) (all-digits b low)) refl

spelling-tame : (b : ℕ) (front : List ℕ) → SpellsByte b front → list_all is_tame front ≡ true
unfolding is_tame
spelling-tame b front (ByNumber low) = number-tame b low
spelling-tame b front (Escaped punct tick) =
    ap (λ v. v && true) (tame b (differs is_ascii_punct b 0 punct refl) (differs is_ascii_punct b 10 punct refl) (differs is_ascii_punct b 13 punct refl) tick)
spelling-tame b front (AsItIs printed punct) =
    ap (λ v. v && true) (tame b (differs' is_ascii_control b 0 (no-control b printed) refl) (differs' is_ascii_control b 10 (no-control b printed) refl) (differs' is_ascii_control b 13 (no-control b printed) refl) (differs' is_ascii_punct b 96 punct refl))

pub text-tame : (first last : Bool) (text : List ℕ) → list_all is_tame (spelled_text first last text) ≡ true
unfolding spelled_text
text-tame first last [] = refl
text-tame first last (b ∷ bs) =
    let at_edge = first || last && is_empty bs in
    all-both is_tame (edge_byte at_edge b) (spelled_text false last bs) (spelling-tame b (edge_byte at_edge b) (spells_edge at_edge b)) (text-tame false last bs)

pub bytes-tame : (text : List ℕ) → list_all is_tame (spelled_bytes text) ≡ true
bytes-tame [] = refl
bytes-tame (b ∷ bs) = all-both is_tame (spelled_byte b) (spelled_bytes bs) (spelling-tame b (spelled_byte b) (spells_byte b)) (bytes-tame bs)

title-tame : (title : List ℕ) → list_all is_tame (spelled_title title) ≡ true
unfolding is_tame
title-tame [] = refl
title-tame (b ∷ bs) = all-both is_tame (spelled_bytes (b ∷ bs)) (codes "\"") (bytes-tame (b ∷ bs)) refl

pub target-tame : (dest title : List ℕ) → list_all is_tame (spelled_target dest title) ≡ true
unfolding spelled_target is_tame
target-tame dest title =
    all-both is_tame (codes "](<" ++ spelled_bytes dest ++ codes ">" ++ spelled_title title) (codes ")")
    (all-both is_tame (codes "](<" ++ spelled_bytes dest ++ codes ">") (spelled_title title)
    (all-both is_tame (codes "](<" ++ spelled_bytes dest) (codes ">") (bytes-tame dest) refl) (title-tame title)) refl

-- so none of the others is in them
pub none-tame : (c : ℕ) → is_tame c ≡ false → (text : List ℕ) → list_all is_tame text ≡ true → list_any (λ b. b == c) text ≡ false
none-tame c other [] e = refl
none-tame c other (b ∷ bs) e =
    let parts = and_parts (is_tame b) (list_all is_tame bs) e in
    or_from (b == c) (list_any (λ d. d == c) bs) (differs is_tame b c parts.0 other) (none-tame c other bs parts.1)

no-feed : is_tame 10 ≡ false
unfolding is_tame
no-feed = refl

pub text-without : (first last : Bool) (text : List ℕ) → list_any (λ b. b == 10) (spelled_text first last text) ≡ false
text-without first last text = none-tame 10 no-feed (spelled_text first last text) (text-tame first last text)

pub bytes-without : (text : List ℕ) → list_any (λ b. b == 10) (spelled_bytes text) ≡ false
bytes-without text = none-tame 10 no-feed (spelled_bytes text) (bytes-tame text)

pub target-without : (dest title : List ℕ) → list_any (λ b. b == 10) (spelled_target dest title) ≡ false
target-without dest title = none-tame 10 no-feed (spelled_target dest title) (target-tame dest title)
