-- The class of a code block is one word with rules without raw HTML.
use Rattle.std.proofs.Common.{◌≡◌, ℕ, Bool, true, false, not, ◌||◌, List, [], ◌∷◌, ◌++◌, ◌+◌, suc, ap, ap₂, arith, refl, ◌∙◌}
use Rattle.std.specs.Prelude.{cond, take}
use Rattle.std.specs.List.{list_any, before_first, position_or_len}
use Rattle.std.proofs.lemmas.Bool.{or_parts, false≢true}
use Rattle.cm_text.specs.Rules.{Rules}
use Rattle.cm_text.specs.Characters.{is_space_or_tab}
use Rattle.cm_tree.specs.Followed.{is_line_space, is_read_info}
use Rattle.cm_html.specs.Escape.{escape_byte, escape, class_word}
use Rattle.cm_html.specs.Markup.{is_html_space}
use Rattle.cm_html.proofs.lemmas.MarkupTexts.{by_byte, plain_byte}

-- the word as it is written
abbrev pub ClassStays : Rules → List ℕ → Type 0
ClassStays rules word = (rules.raw_html || not (list_any is_html_space (escape word))) ≡ true

escaped_byte : (b : ℕ) (rest : List ℕ) → list_any is_html_space (escape_byte b ++ rest) ≡ (is_html_space b || list_any is_html_space rest)
escaped_byte = by_byte (λ b. (rest : List ℕ) → list_any is_html_space (escape_byte b ++ rest) ≡ (is_html_space b || list_any is_html_space rest))
    (λ rest. refl) (λ rest. refl) (λ rest. refl) (λ rest. refl)
    (λ b n38 n60 n62 n34 rest. ap (λ bytes. list_any is_html_space (bytes ++ rest)) (plain_byte b n38 n60 n62 n34))

escaped_spaces : (text : List ℕ) → list_any is_html_space (escape text) ≡ list_any is_html_space text
escaped_spaces [] = refl
escaped_spaces (b ∷ bs) = escaped_byte b (escape bs) ∙ ap (λ t. is_html_space b || t) (escaped_spaces bs)

one_more : (n : ℕ) → 1 + n ≡ suc n
one_more n = omega arith

-- a word ends at the first space or tab
no_space : (info : List ℕ) → list_any is_line_space info ≡ false → list_any is_html_space (before_first is_space_or_tab info) ≡ false
no_space [] free = refl
no_space (b ∷ bs) free =
    let parts = or_parts (is_line_space b) (list_any is_line_space bs) free in
    either (is_space_or_tab b) refl parts.0 (no_space bs parts.1)
  where
    more : List ℕ
    more = before_first is_space_or_tab bs

    either : (ends : Bool) → is_space_or_tab b ≡ ends → is_line_space b ≡ false → list_any is_html_space more ≡ false
        → list_any is_html_space (take (cond (not ends) (1 + position_or_len is_space_or_tab bs) 0) (b ∷ bs)) ≡ false
    either true e f rest = refl
    either false e f rest =
        ap (λ n. list_any is_html_space (take n (b ∷ bs))) (one_more (position_or_len is_space_or_tab bs))
        ∙ ap₂ (λ s t. (s || t) || list_any is_html_space more) e f ∙ rest

pub class_stays : (rules : Rules) (info : List ℕ) → is_read_info rules info ≡ true → ClassStays rules (class_word info)
unfolding class_word
class_stays rules info reads = either rules.raw_html (list_any is_line_space info) refl reads
  where
    either : (raw lines : Bool) → list_any is_line_space info ≡ lines → (raw || not lines) ≡ true
        → (raw || not (list_any is_html_space (escape (before_first is_space_or_tab info)))) ≡ true
    either true lines e h = refl
    either false true e h = absurd (false≢true h)
    either false false e h = ap not (escaped_spaces (before_first is_space_or_tab info) ∙ no_space info e)
