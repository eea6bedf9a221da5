-- Texts in HTML.
use Rattle.cm_inline.proofs.lemmas.Words.{◌≡◌, ℕ, zero, suc, ◌+◌, ◌-◌, ◌<◌, true, false, List, [], ◌∷◌, ◌++◌, refl, sym, ap, ◌∙◌, arith, append_assoc, Result}
use Rattle.cm_inline.proofs.lemmas.Words.{list_all, flat_map-append, and_parts, escape_byte, escape, one_line, Marker, Star, Tilde, rules, nat_tests}
use Rattle.std.specs.Prelude.{replicate, OnOk}
use Rattle.cm_inline.specs.declared.delimiter_runs.Marker.TheVariants.{Underscore}
use Rattle.cm_inline.specs.steps.Marks.{stays_text}
use Rattle.cm_inline.specs.steps.Runs.{byte_of}

-- the text of a run is its own HTML
pub run-html : (marker : Marker) (n : ℕ) → escape (replicate n (byte_of marker)) ≡ replicate n (byte_of marker)
run-html marker zero = refl
run-html Star (suc n) = ap (λ t. 42 ∷ t) (run-html Star n)
run-html Underscore (suc n) = ap (λ t. 95 ∷ t) (run-html Underscore n)
run-html Tilde (suc n) = ap (λ t. 126 ∷ t) (run-html Tilde n)

-- one more character of a run
pub run-next : (done : List ℕ) (b left counter : ℕ) → counter < left → (done ++ b ∷ []) ++ replicate (left - (counter + 1)) b ≡ done ++ replicate (left - counter) b
run-next done b left counter below =
    let next : left - counter ≡ suc (left - (counter + 1)) = omega (arith, below) in
    append_assoc done (b ∷ []) (replicate (left - (counter + 1)) b) ∙ sym (ap (λ n. done ++ replicate n b) next)

-- a line, with the space for its line feed
pub line-html : (html line rest whole : List ℕ) → line ++ 32 ∷ one_line rest ≡ whole → ((html ++ escape line) ++ 32 ∷ []) ++ escape (one_line rest) ≡ html ++ escape whole
line-html html line rest whole e =
    append_assoc (html ++ escape line) (32 ∷ []) (escape (one_line rest)) ∙ append_assoc html (escape line) (32 ∷ escape (one_line rest))
    ∙ ap (λ t. html ++ t) (sym (flat_map-append escape_byte line (32 ∷ one_line rest)) ∙ ap escape e)

-- a byte of text is its own HTML
pub byte-html : (b : ℕ) → stays_text false b ≡ true → escape_byte b ≡ b ∷ []
byte-html b h = search rules

pub text-html : (text : List ℕ) → list_all (stays_text false) text ≡ true → escape text ≡ text
text-html [] h = refl
text-html (b ∷ bs) h =
    let parts = and_parts (stays_text false b) (list_all (stays_text false) bs) h in
    ap (λ t. t ++ escape bs) (byte-html b parts.0) ∙ ap (λ t. b ∷ t) (text-html bs parts.1)

-- what follows where there was memory
pub on-ok : {T E : Type 0} {P Q : Type 0} (r : Result T E) → OnOk r P → (P → Q) → OnOk r Q
on-ok r p f = grind (arith, nat_tests)
