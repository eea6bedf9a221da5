use Rattle.std.proofs.Common.{◌≡◌, ℕ, true, false, List, [], ◌∷◌, ◌++◌, Option, ap, sym, subst, ◌∙◌, append_assoc, arith}
use Rattle.std.specs.Prelude.{string_bytes, MatchOption}
use Rattle.std.specs.Borrow.{Bor}
use Rattle.std.proofs.lemmas.Str.Pattern.{strip_suffix_char}
use Rattle.cm_source.specs.Texts.{numbered, spelled_bytes, spelled_text}
use Rattle.cm_source.proofs.lemmas.spelling.WrittenLineLemmas.{then-ok}
use Rattle.cm_source.proofs.lemmas.spelling.SpelledTexts.{inner-text, space-last, no-space-last}
use Rattle.cm_source.proofs.texts.push_to_end.Goals as goal

pub returns-then-not-last : goal.returns-then-not-last
returns-then-not-last c =
    let text = c.args.text.now in
    then-ok c.push_spelled.result (λ is. is ∙ ap (λ t. string_bytes c.args.out.now ++ t) (sym (ap (λ last. spelled_text false last text) c.if-not-last.true ∙ inner-text text))) c.push_spelled.ensures

pub returns-in_ok-push_spelled-in-Some : goal.returns-in_ok-push_spelled-in-Some
returns-in_ok-push_spelled-in-Some c =
    let old = string_bytes c.args.out.now in
    let text = c.args.text.now in
    let before = c.in-Some.before.now in
    let found = strip_suffix_char 32 text c.strip_suffix.result c.strip_suffix.ensures.cases (omega arith) in
    let parts = subst (λ (o : Option (Bor (List ℕ))). MatchOption o ((front : List ℕ) → text ≡ front ++ 32 ∷ [] → ⊥) (λ x. text ≡ x.now ++ 32 ∷ [])) c.in-Some.is found in
    let whole = ap (λ last. spelled_text false last text) c.if-not-last.false ∙ ap (spelled_text false true) parts ∙ space-last before in
    then-ok c.push_numbered.result (λ is. is ∙ ap (λ t. t ++ numbered 32) c.in_ok-push_spelled-in-Some.ensures ∙ append_assoc old (spelled_bytes before) (numbered 32) ∙ ap (λ t. old ++ t) (sym whole)) c.push_numbered.ensures

pub returns-in-None : goal.returns-in-None
returns-in-None c =
    let text = c.args.text.now in
    let found = strip_suffix_char 32 text c.strip_suffix.result c.strip_suffix.ensures.cases (omega arith) in
    let none = subst (λ (o : Option (Bor (List ℕ))). MatchOption o ((front : List ℕ) → text ≡ front ++ 32 ∷ [] → ⊥) (λ x. text ≡ x.now ++ 32 ∷ [])) c.in-None.is found in
    let whole = ap (λ last. spelled_text false last text) c.if-not-last.false ∙ no-space-last text none in
    then-ok c.push_spelled-in-None.result (λ is. is ∙ ap (λ t. string_bytes c.args.out.now ++ t) (sym whole)) c.push_spelled-in-None.ensures
