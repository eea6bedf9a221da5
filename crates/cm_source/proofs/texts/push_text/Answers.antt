use Rattle.std.proofs.Common.{◌≡◌, ℕ, true, false, List, ◌∷◌, ◌++◌, Option, ap, sym, subst, ◌∙◌, append_assoc, arith}
use Rattle.std.specs.Prelude.{string_bytes, MatchOption}
use Rattle.std.specs.Borrow.{Bor}
use Rattle.std.proofs.lemmas.Str.Pattern.{strip_prefix_char}
use Rattle.cm_source.specs.Texts.{numbered, spelled_text}
use Rattle.cm_source.proofs.lemmas.spelling.WrittenLineLemmas.{then-ok}
use Rattle.cm_source.proofs.lemmas.spelling.SpelledTexts.{space-first, no-space-first}
use Rattle.cm_source.proofs.texts.push_text.Goals as goal

pub returns-then-not-first : goal.returns-then-not-first
returns-then-not-first c =
    then-ok c.push_to_end.result (λ is. is ∙ ap (λ first. string_bytes c.args.out.now ++ spelled_text first c.args.last c.args.text.now) (sym c.if-not-first.true)) c.push_to_end.ensures

pub returns-in_ok-push_numbered-in-Some : goal.returns-in_ok-push_numbered-in-Some
returns-in_ok-push_numbered-in-Some c =
    let old = string_bytes c.args.out.now in
    let text = c.args.text.now in
    let last = c.args.last in
    let beyond = c.in-Some.beyond.now in
    let found = strip_prefix_char 32 text c.strip_prefix.result c.strip_prefix.ensures.cases (omega arith) in
    let parts = subst (λ (o : Option (Bor (List ℕ))). MatchOption o ((rest : List ℕ) → text ≡ 32 ∷ rest → ⊥) (λ x. text ≡ 32 ∷ x.now)) c.in-Some.is found in
    let whole = ap (λ first. spelled_text first last text) c.if-not-first.false ∙ ap (spelled_text true last) parts ∙ space-first last beyond in
    then-ok c.push_to_end-in-Some.result (λ is. is ∙ ap (λ t. t ++ spelled_text false last beyond) c.in_ok-push_numbered-in-Some.ensures ∙ append_assoc old (numbered 32) (spelled_text false last beyond) ∙ ap (λ t. old ++ t) (sym whole)) c.push_to_end-in-Some.ensures

pub returns-in-None : goal.returns-in-None
returns-in-None c =
    let text = c.args.text.now in
    let found = strip_prefix_char 32 text c.strip_prefix.result c.strip_prefix.ensures.cases (omega arith) in
    let none = subst (λ (o : Option (Bor (List ℕ))). MatchOption o ((rest : List ℕ) → text ≡ 32 ∷ rest → ⊥) (λ x. text ≡ 32 ∷ x.now)) c.in-None.is found in
    let whole = ap (λ first. spelled_text first c.args.last text) c.if-not-first.false ∙ no-space-first c.args.last text none in
    then-ok c.push_to_end-in-None.result (λ is. is ∙ ap (λ t. string_bytes c.args.out.now ++ t) (sym whole)) c.push_to_end-in-None.ensures
