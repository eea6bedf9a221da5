-- The ends that raw HTML needs.
use Rattle.std.proofs.Common.{◌≡◌, ℕ, Bool, true, false, List, [], ◌∷◌, ◌++◌, Option, Some, None, codes, refl, sym, ap, ◌∙◌}
use Rattle.cm_scan.specs.Words.{after_word, ◌<|>◌}
use Rattle.cm_scan.specs.spans.RawHtml.{beyond_word, short_end, after_comment, raw_html}
use Rattle.cm_scan.specs.laws.SpanLaws.{NeedsEnd}
use Rattle.cm_scan.proofs.lemmas.texts.WordsGoOn.{none-some}
use Rattle.cm_scan.proofs.lemmas.spans.RawHtmlByFirstBytes.{mark-comment, mark-section, html-instruction}
use Rattle.cm_scan.proofs.lemmas.spans.RawHtmlEnds.{raw_html-ends}
use Rattle.cm_scan.proofs.lemmas.spans.RawHtmlGoesOn.{no-tag}
use Rattle.cm_scan.proofs.lemmas.spans.OlderRawHtml.{older-inside}

-- what no later place has
second-none : (a b : Option (List ℕ)) → elim a as (λ _. Option (List ℕ)) [ Some rest ↦ Some rest | None ↦ b ] ≡ None → b ≡ None
second-none (Some r) b h = none-some (sym h)
second-none None b h = h

-- a comment: the end may share hyphens with the start
inside-none : (inside : List ℕ) → beyond_word (codes "-->") (codes "<!--" ++ inside) ≡ None → after_comment false inside ≡ None
unfolding beyond_word after_comment short_end after_word
inside-none inside h = go (after_word (codes ">") inside) (after_word (codes "->") inside) h
  where
    go : (a b : Option (List ℕ)) → elim a as (λ _. Option (List ℕ)) [
      | Some rest ↦ Some rest
      | None ↦ elim b as (λ _. Option (List ℕ)) [ Some rest ↦ Some rest | None ↦ beyond_word (codes "-->") inside ]
    ] ≡ None → (a <|> b) <|> beyond_word (codes "-->") inside ≡ None
    go (Some r) b e = e
    go None (Some r) e = e
    go None None e = e

comment-none : (older : Bool) (inside : List ℕ) → beyond_word (codes "-->") (codes "<!--" ++ inside) ≡ None → after_comment older inside ≡ None
comment-none false inside h = inside-none inside h
comment-none true inside h = go (after_comment true inside) refl
  where
    go : (o : Option (List ℕ)) → after_comment true inside ≡ o → o ≡ None
    go None e = refl
    go (Some r) e = none-some (sym (inside-none inside h) ∙ older-inside inside r e)

dashes-next : (inside : List ℕ) → Some inside ≡ after_word (codes "--") (45 ∷ 45 ∷ inside)
unfolding after_word
dashes-next inside = refl

section-next : (inside : List ℕ) → Some inside ≡ after_word (codes "[CDATA[") (codes "[CDATA[" ++ inside)
unfolding after_word
section-next inside = refl

pub comment-needs : NeedsEnd (codes "<!--") (codes "-->")
comment-needs rules after h = no-tag rules (codes "<!--" ++ after) (sym (mark-comment rules (45 ∷ 45 ∷ after) after (dashes-next after)) ∙ comment-none rules.older after h)

pub section-needs : NeedsEnd (codes "<![CDATA[") (codes "]]>")
unfolding beyond_word after_word
section-needs rules after h = no-tag rules (codes "<![CDATA[" ++ after) (sym (mark-section rules (codes "[CDATA[" ++ after) after (section-next after)) ∙ h)

pub instruction-needs : NeedsEnd (codes "<?") (codes "?>")
unfolding beyond_word after_word
instruction-needs rules after h =
    no-tag rules (codes "<?" ++ after) (sym (html-instruction rules after) ∙ second-none (after_word (codes ">") after) (beyond_word (codes "?>") after) h)

-- any raw HTML

bracket-in : (front rest : List ℕ) → beyond_word (codes ">") (front ++ 62 ∷ rest) ≡ None → None ≡ Some rest
unfolding beyond_word after_word
bracket-in [] rest h = sym h
bracket-in (b ∷ bs) rest h = bracket-in bs rest (second-none (after_word (codes ">") (b ∷ (bs ++ 62 ∷ rest))) (beyond_word (codes ">") (bs ++ 62 ∷ rest)) h)

pub any-needs : NeedsEnd [] (codes ">")
any-needs rules after h = go (raw_html rules after) refl
  where
    go : (o : Option (List ℕ)) → raw_html rules after ≡ o → o ≡ None
    go None e = refl
    go (Some rest) e = let ends = raw_html-ends rules after rest e in none-some (bracket-in ends.front rest (ap (beyond_word (codes ">")) (sym ends.is) ∙ h))
