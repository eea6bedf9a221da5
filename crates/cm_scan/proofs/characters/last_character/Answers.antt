use Rattle.std.proofs.Common.{◌≡◌, ℕ, ◌++◌, [], ◌∷◌, ◌&&◌, true, List, length, take, reverse, Option, None, Some, MatchOption, IsUtf8, refl, sym, ap, subst, ◌∙◌}
use Rattle.std.specs.Prelude.{slice_get, chars, encode_utf8}
use Rattle.std.specs.Char.{IsScalar}
use Rattle.std.proofs.lemmas.List.{reverse-append, reverse-reverse, append-nil}
use Rattle.std.proofs.lemmas.Str.{chars-append, chars-encodes, chars-nil, IsUtf8-encode, IsUtf8-take, IsCharBoundary-at_seam}
use Rattle.std.proofs.Math.Seq.{take-append_seam}
use Rattle.cm_scan.proofs.characters.last_character.Lts as lts
use Rattle.cm_scan.proofs.characters.last_character.Goals as goal

-- a text that ends with a character
ends-with : (text front : List ℕ) (x : ℕ) → IsUtf8 text → IsScalar x → text ≡ front ++ encode_utf8 x → Some x ≡ slice_get (reverse (chars text)) 0
ends-with text front x utf8 scalar ends =
    let there = IsCharBoundary-at_seam text front (encode_utf8 x) ends (IsUtf8-encode x scalar) in
    let whole : take (length front) text ≡ front = ap (take (length front)) ends ∙ take-append_seam front (encode_utf8 x) in
    let begins : IsUtf8 front = subst IsUtf8 whole (IsUtf8-take text (length front) utf8 there) in
    let one : chars (encode_utf8 x) ≡ x ∷ [] = ap chars (sym (append-nil (encode_utf8 x))) ∙ chars-encodes (x ∷ []) (ap (λ v. v && true) scalar) in
    sym (
    ap (λ t. slice_get (reverse t) 0) (ap chars ends ∙ chars-append front (encode_utf8 x) begins ∙ ap (λ t. chars front ++ t) one)
    ∙ ap (λ t. slice_get t 0) (reverse-append (chars front) (x ∷ []))
    )

none-left : (text : List ℕ) → length text ≡ 0 → None ≡ slice_get (reverse (chars text)) 0
none-left [] e = ap (λ t. slice_get (reverse t) 0) (sym chars-nil)
none-left (b ∷ bs) e = absurd (cc e)

-- a character comes off the end, or nothing is left
came-off : (text left : List ℕ) (r : Option ℕ) (stays : Type 0) → IsUtf8 text → ((x : ℕ) → r ≡ Some x → IsScalar x) → MatchOption r ((length text ≡ 0) × stays) (λ x. text ≡ left ++ encode_utf8 x)
    → r ≡ slice_get (reverse (chars text)) 0
came-off text left None stays utf8 scalar steps = none-left text steps.0
came-off text left (Some x) stays utf8 scalar steps = ends-with text left x utf8 (scalar x refl) steps

pub returns : goal.returns
returns c = record {
  character = let text = c.args.text.now in
      subst (λ t. c.next_back.result ≡ slice_get (reverse (chars t)) 0) (c.chars.ensures.rest ∙ sym (reverse-reverse text))
      (came-off c.chars.result.rest.now c.next_back.new.self.rest.now c.next_back.result (c.next_back.new.self ≡ c.chars.result) (subst IsUtf8 (sym c.chars.ensures.rest) c.utf8.text) (λ x e. is-scalar c.next_back.result c.next_back.type_inv x e) c.next_back.ensures.steps);
}
  where
    is-scalar : (r : Option ℕ) → lts.r-1.is.Ok c.next_back.lifetimes r → (x : ℕ) → r ≡ Some x → IsScalar x
    is-scalar None ok x e = absurd (cc e)
    is-scalar (Some y) ok x e = let same : y ≡ x = cc e in subst IsScalar same ok.1.1.1.1.0.1
