-- Which form starts with a `<`, and where none does.
use Rattle.cm_inline.proofs.lemmas.Words.{◌≡◌, ℕ, Bool, true, false, not, List, [], ◌∷◌, ◌++◌, length, get_or, Option, Some, None, IfSome, codes, refl, sym, ap, subst, ◌∙◌, arith, rules}
use Rattle.cm_inline.proofs.lemmas.Words.{Comment, Declaration}
use Rattle.cm_inline.proofs.lemmas.Words.{◌+◌, ◌<◌, ◌≤◌, suc, drop, add-one, if◌then◌else◌}
use Rattle.std.proofs.Common.{nat_eq, drop-cons}
use Rattle.std.specs.List.{starts_with}
use Rattle.std.specs.Bool.{then_some}
use Rattle.std.specs.Char.{is_ascii_alphabetic}
use Rattle.cm_scan.specs.Words.{after_word}
use Rattle.cm_scan.specs.spans.Reach.{declared, needed_after_mark, needed}
use Rattle.cm_scan.proofs.lemmas.blocks.WordsInAnyCase.{starts_at}
use Rattle.cm_scan.proofs.lemmas.texts.FoundWords.{word-there, word-absent}
use Rattle.cm_scan.proofs.lemmas.spans.RawHtmlGoesOn.{word-front}
use Rattle.cm_scan.proofs.lemmas.spans.ReachLemmas.{needed_declared, word-shorter}
use Rattle.cm_inline.specs.declared.missing_ends.Form.{Form}
use Rattle.cm_inline.specs.declared.missing_ends.Form.TheVariants.{Instruction, CharacterData}
use Rattle.cm_inline.specs.steps.Missing.{start_of, Starts}

-- a word that comes next, or doesn't

pub word-rest : (word text : List ℕ) (told : Bool) → told ≡ starts_with nat_eq text word → told ≡ true → (rest : List ℕ) × (text ≡ word ++ rest) × (after_word word text ≡ Some rest)
word-rest word text told is there-is =
    let there = word-there word text (sym (is ∙ starts_at word text) ∙ there-is) in
    (Rattle.std.proofs.Common.drop (length word) text, word-front word text (Rattle.std.proofs.Common.drop (length word) text) there, there)

pub word-none : (word text : List ℕ) (told : Bool) → told ≡ starts_with nat_eq text word → told ≡ false → None ≡ after_word word text
word-none word text told is absent = sym (word-absent word text (sym (is ∙ starts_at word text) ∙ absent))

-- the forms

pub starts-instruction : (older : Bool) (text inside : List ℕ) → text ≡ 63 ∷ inside → Starts older (60 ∷ text) Instruction
starts-instruction older text inside is = record { rest = inside; is = ap (λ t. 60 ∷ t) is; strict = λ e. cc; letter = λ e. cc }

pub starts-section : (older : Bool) (inside : List ℕ) → ((rest : List ℕ) × (inside ≡ codes "[CDATA[" ++ rest) × (after_word (codes "[CDATA[") inside ≡ Some rest)) → Starts older (60 ∷ 33 ∷ inside) CharacterData
starts-section older inside w = record { rest = w.0; is = ap (λ t. 60 ∷ 33 ∷ t) w.1; strict = λ e. cc; letter = λ e. cc }

pub starts-comment : (older : Bool) (inside : List ℕ) (result : Option Form) → result ≡ then_some (not older) Comment
    → ((rest : List ℕ) × (inside ≡ codes "--" ++ rest) × (after_word (codes "--") inside ≡ Some rest)) → IfSome result (Starts older (60 ∷ 33 ∷ inside))
starts-comment true inside result is w = subst (λ o. IfSome o (Starts true (60 ∷ 33 ∷ inside))) (sym is) tt
starts-comment false inside result is w =
    subst (λ o. IfSome o (Starts false (60 ∷ 33 ∷ inside))) (sym is) (record { rest = w.0; is = ap (λ t. 60 ∷ 33 ∷ t) w.1; strict = λ _. refl; letter = λ e. cc })

pub starts-declaration : (older : Bool) (inside : List ℕ) (b : ℕ) (bs : List ℕ) (letter : Bool) (result : Option Form) → inside ≡ b ∷ bs → letter ≡ is_ascii_alphabetic b → result ≡ then_some letter Declaration
    → IfSome result (Starts older (60 ∷ 33 ∷ inside))
starts-declaration older inside b bs true result is letter told =
    subst (λ o. IfSome o (Starts older (60 ∷ 33 ∷ inside))) (sym told) (record { rest = inside; is = refl; strict = λ e. cc; letter = λ _. ap (λ t. is_ascii_alphabetic (get_or t 0 0)) is ∙ sym letter })
starts-declaration older inside b bs false result is letter told = subst (λ o. IfSome o (Starts older (60 ∷ 33 ∷ inside))) (sym told) tt

pub map-starts : (older told : Bool) (text inside : List ℕ) (result : Option Form) → told ≡ older → text ≡ 33 ∷ inside → IfSome result (Starts told (60 ∷ 33 ∷ inside)) → IfSome result (Starts older (60 ∷ text))
map-starts older told text inside result same is h = subst (λ o. IfSome result (Starts o (60 ∷ text))) same (subst (λ t. IfSome result (Starts told (60 ∷ t))) (sym is) h)

-- no form

pub needed-alone : (older : Bool) (text : List ℕ) → text ≡ [] → needed older (60 ∷ text) ≡ 0
unfolding needed
needed-alone older text is = rw is refl

pub needed-mark : (older told : Bool) (text inside : List ℕ) → told ≡ older → text ≡ 33 ∷ inside → needed_after_mark told inside ≡ 0 → needed older (60 ∷ text) ≡ 0
unfolding needed
needed-mark older told text inside same is h = rw is (ap (λ o. needed_after_mark o inside) (sym same) ∙ h)

pub needed-other : (older : Bool) (text : List ℕ) (c : ℕ) (inside : List ℕ) → text ≡ c ∷ inside → (c ≡ 33 → ⊥) → (c ≡ 63 → ⊥) → needed older (60 ∷ text) ≡ 0
unfolding needed
needed-other older text c inside is other other' = rw is (grind (arith, other, other'))

pub needed-older : (older : Bool) (inside : List ℕ) (result : Option Form) → result ≡ then_some (not older) Comment → result ≡ None
    → ((rest : List ℕ) × (inside ≡ codes "--" ++ rest) × (after_word (codes "--") inside ≡ Some rest)) → needed_after_mark older inside ≡ 0
unfolding needed_after_mark after_word
needed-older true inside result is none w = rw w.2 refl
needed-older false inside result is none w = cc

pub needed-none : (older : Bool) (inside : List ℕ) → inside ≡ [] → needed_after_mark older inside ≡ 0
unfolding needed_after_mark declared after_word
needed-none older inside is = ap (needed_after_mark older) is

pub needed-no-letter : (older : Bool) (inside : List ℕ) (b : ℕ) (bs : List ℕ) (letter : Bool) (result : Option Form) → inside ≡ b ∷ bs → letter ≡ is_ascii_alphabetic b → result ≡ then_some letter Declaration → result ≡ None
    → None ≡ after_word (codes "--") inside → None ≡ after_word (codes "[CDATA[") inside → needed_after_mark older inside ≡ 0
unfolding declared
needed-no-letter older inside b bs true result is letter told none h k = cc
needed-no-letter older inside b bs false result is letter told none h k = needed_declared older inside h k ∙ rw is (rw (← letter) refl)

-- what is needed is within what is left

declared-within : (text : List ℕ) → declared text ≤ length text
unfolding declared
declared-within [] = omega arith
declared-within (b ∷ bs) = grind arith

mark-within : (older : Bool) (inside : List ℕ) → needed_after_mark older inside ≤ length inside
unfolding needed_after_mark
mark-within older inside = first (after_word (codes "--") inside) refl
  where
    second : (o : Option (List ℕ)) → after_word (codes "[CDATA[") inside ≡ o → elim o as (λ _. ℕ) [ Some section ↦ length section | None ↦ declared inside ] ≤ length inside
    second (Some section) e = word-shorter (codes "[CDATA[") inside section e
    second None e = declared-within inside

    some : (o : Bool) (comment : List ℕ) → length comment ≤ length inside → (if o then 0 else length comment) ≤ length inside
    some true comment h = omega arith
    some false comment h = h

    first : (o : Option (List ℕ)) → after_word (codes "--") inside ≡ o
        → elim o as (λ _. ℕ) [
          | Some comment ↦ if older then 0 else length comment
          | None ↦ elim (after_word (codes "[CDATA[") inside) as (λ _. ℕ) [ Some section ↦ length section | None ↦ declared inside ]
        ] ≤ length inside
    first (Some comment) e = some older comment (word-shorter (codes "--") inside comment e)
    first None e = second (after_word (codes "[CDATA[") inside) refl

pub needed-within : (older : Bool) (text : List ℕ) → needed older text ≤ length text
unfolding needed
needed-within older [] = omega arith
needed-within older (b ∷ []) = omega arith
needed-within older (b ∷ c ∷ bs) = grind (arith, mark-within older bs)

-- a text from a `<` on
pub from-bracket : (source : List ℕ) (at : ℕ) → at < length source → get_or source at 0 ≡ 60 → 60 ∷ drop (at + 1) source ≡ drop at source
from-bracket source at within is = ap (λ k. 60 ∷ drop k source) (add-one at) ∙ ap (λ b. b ∷ drop (suc at) source) (sym is) ∙ sym (drop-cons source at 0 within)
