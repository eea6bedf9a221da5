-- What was spelled is unescaped to what it was.
use Rattle.std.proofs.Common.{◌≡◌, ℕ, ◌<◌, true, false, ◌==◌, List, [], ◌∷◌, ◌++◌, length, drop, Some, encode_utf8_all, refl, sym, ap, ◌∙◌, arith}
use Rattle.std.proofs.lemmas.Bool.{or_parts}
use Rattle.std.proofs.lemmas.Bool.Decides.{nat_tests}
use Rattle.std.proofs.lemmas.Str.{encode_ascii}
use lib.Seq.{drop_at}
use Rattle.cm_text.specs.Characters.{is_ascii_punct}
use Rattle.cm_text.specs.Unescaping.{escape, unescape_after, unescape}
use Rattle.cm_text.proofs.lemmas.UnescapingLemmas.{special-escape, special-reference, special-none, unescape-special, unescape-other}
use Rattle.cm_source.specs.Texts.{numbered, spelled_bytes, spelled_text}
use Rattle.cm_source.specs.InlineRefusals.{has_nul}
use Rattle.cm_source.specs.steps.ContentBack.{TextUnescapes, BytesUnescape}
use Rattle.cm_source.proofs.lemmas.shared.ByteSpellings.{SpellsByte, ByNumber, Escaped, AsItIs, SpellsBytes, NoByte, OneByte, spells_bytes, spells_text, number_read}

pub punct_small : (b : ℕ) → is_ascii_punct b ≡ true → b < 128
punct_small b e = grind (arith, nat_tests, e)

-- a character of ASCII is its byte
pub ascii_alone : (b : ℕ) → b < 128 → encode_utf8_all (b ∷ []) ≡ b ∷ []
ascii_alone b low = ap (λ t. t ++ []) (encode_ascii b low)

pub no_backslash : (b : ℕ) → is_ascii_punct b ≡ false → (b == 92) ≡ false
no_backslash b e = grind (arith, nat_tests, e)

pub no_ampersand : (b : ℕ) → is_ascii_punct b ≡ false → (b == 38) ≡ false
no_ampersand b e = grind (arith, nat_tests, e)

pub escape_here : (b : ℕ) (rest : List ℕ) → is_ascii_punct b ≡ true → escape (92 ∷ b ∷ rest) ≡ Some (b ∷ [], 2)
escape_here b rest e = grind (arith, e)

byte_unescaped : (b : ℕ) (front rest : List ℕ) → (b == 0) ≡ false → SpellsByte b front → unescape (front ++ rest) ≡ b ∷ unescape rest
byte_unescaped b front rest some (ByNumber low) =
    let text : List ℕ = numbered b ++ rest in
    unescape-special text (b ∷ []) (length (numbered b)) (special-reference text refl ∙ number_read b rest low some)
    ∙ ap (λ t. t ++ unescape (drop (length (numbered b)) text)) (ascii_alone b low)
    ∙ ap (λ t. b ∷ unescape t) (drop_at (numbered b) rest (length (numbered b)) refl)
byte_unescaped b front rest some (Escaped punct tick) =
    unescape-special (92 ∷ b ∷ rest) (b ∷ []) 2 (sym (special-escape (92 ∷ b ∷ rest) (b ∷ []) 2 (sym (escape_here b rest punct))))
    ∙ ap (λ t. t ++ unescape rest) (ascii_alone b (punct_small b punct))
byte_unescaped b front rest some (AsItIs printed plain) = unescape-other b rest (special-none b rest (no_backslash b plain) (no_ampersand b plain))

pub all_unescaped : (text front : List ℕ) → SpellsBytes text front → has_nul text ≡ false → unescape front ≡ text
unfolding unescape_after
all_unescaped text front NoByte some = refl
all_unescaped text front (OneByte {b = b} {bs = bs} {first = first} {others = others} one more) some =
    let parts = or_parts (b == 0) (has_nul bs) some in
    byte_unescaped b first others parts.0 one ∙ ap (λ t. b ∷ t) (all_unescaped bs others more parts.1)

-- a text of an inline, or an info string, which is on a line by itself
pub unescape_text : TextUnescapes
unescape_text first last text some = all_unescaped text (spelled_text first last text) (spells_text first last text) some

-- a destination or a title
pub unescape_bytes : BytesUnescape
unescape_bytes text some = all_unescaped text (spelled_bytes text) (spells_bytes text) some
