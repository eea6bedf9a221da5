-- Raw HTML that starts and isn't read lacks its end: so no second search has to tell.
use Rattle.std.proofs.Common.{◌≡◌, ℕ, zero, suc, true, false, List, [], ◌∷◌, ◌++◌, drop, Option, Some, None, codes, refl, sym, ap, ◌∙◌, arith}
use Rattle.cm_text.specs.Rules.{Rules}
use Rattle.std.specs.Char.{is_ascii_alphabetic}
use Rattle.cm_scan.specs.Words.{after_word, ◌<|>◌}
use Rattle.cm_scan.specs.spans.RawHtml.{beyond_word, short_end, after_comment, html_tag}
use Rattle.cm_scan.proofs.lemmas.texts.WordsGoOn.{none-some}
use Rattle.cm_scan.proofs.lemmas.spans.RawHtmlByFirstBytes.{mark-comment, mark-section, mark-declaration, declaration-letter, html-instruction}

second-none : (a b : Option (List ℕ)) → elim a as (λ _. Option (List ℕ)) [ Some rest ↦ Some rest | None ↦ b ] ≡ None → b ≡ None
second-none (Some r) b h = none-some (sym h)
second-none None b h = h

or-none : (a b : Option (List ℕ)) → (a <|> b) ≡ None → b ≡ None
or-none (Some r) b h = none-some (sym h)
or-none None b h = h

-- what no later place has either
past-tail : (word : List ℕ) (b : ℕ) (bs : List ℕ) → beyond_word word (b ∷ bs) ≡ None → beyond_word word bs ≡ None
unfolding beyond_word
past-tail word b bs h = second-none (after_word word (b ∷ bs)) (beyond_word word bs) h

pub past-drop : (word : List ℕ) (n : ℕ) (text : List ℕ) → beyond_word word text ≡ None → beyond_word word (drop n text) ≡ None
past-drop word zero text h = h
past-drop word (suc n) [] h = h
past-drop word (suc n) (b ∷ bs) h = past-drop word n bs (past-tail word b bs h)

dashes-next : (inside : List ℕ) → Some inside ≡ after_word (codes "--") (45 ∷ 45 ∷ inside)
unfolding after_word
dashes-next inside = refl

section-next : (inside : List ℕ) → Some inside ≡ after_word (codes "[CDATA[") (codes "[CDATA[" ++ inside)
unfolding after_word
section-next inside = refl

no-dashes : (b : ℕ) (bs : List ℕ) → is_ascii_alphabetic b ≡ true → None ≡ after_word (codes "--") (b ∷ bs)
unfolding after_word
no-dashes b bs letter = grind (arith, letter)

no-section : (b : ℕ) (bs : List ℕ) → is_ascii_alphabetic b ≡ true → None ≡ after_word (codes "[CDATA[") (b ∷ bs)
unfolding after_word
no-section b bs letter = grind (arith, letter)

long-none : (inside : List ℕ) → after_comment false inside ≡ None → beyond_word (codes "-->") inside ≡ None
unfolding after_comment
long-none inside h = or-none (short_end inside) (beyond_word (codes "-->") inside) h

pub comment-lacks : (rules : Rules) (inside : List ℕ) → rules.older ≡ false → html_tag rules (codes "<!--" ++ inside) ≡ None → beyond_word (codes "-->") inside ≡ None
comment-lacks rules inside strict h =
    long-none inside (sym (ap (λ older. after_comment older inside) strict) ∙ mark-comment rules (45 ∷ 45 ∷ inside) inside (dashes-next inside) ∙ h)

pub section-lacks : (rules : Rules) (inside : List ℕ) → html_tag rules (codes "<![CDATA[" ++ inside) ≡ None → beyond_word (codes "]]>") inside ≡ None
section-lacks rules inside h = mark-section rules (codes "[CDATA[" ++ inside) inside (section-next inside) ∙ h

pub instruction-lacks : (rules : Rules) (inside : List ℕ) → html_tag rules (codes "<?" ++ inside) ≡ None → beyond_word (codes "?>") inside ≡ None
instruction-lacks rules inside h = html-instruction rules inside ∙ h

pub declaration-lacks : (rules : Rules) (b : ℕ) (bs : List ℕ) → is_ascii_alphabetic b ≡ true → html_tag rules (codes "<!" ++ b ∷ bs) ≡ None → beyond_word (codes ">") bs ≡ None
declaration-lacks rules b bs letter h =
    declaration-letter b bs letter ∙ mark-declaration rules (b ∷ bs) (no-dashes b bs letter) (no-section b bs letter) ∙ h
