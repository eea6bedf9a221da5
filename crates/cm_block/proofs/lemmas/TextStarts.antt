-- A text that starts with a byte of a line of text starts no other block, and underlines nothing.
use Rattle.std.specs.Char.{is_ascii_digit}
use Rattle.std.proofs.Common.{◌≡◌, ℕ, ◌||◌, ◌==◌, not, true, false, List, [], ◌∷◌, None, refl, ◌∙◌, ap, arith}
use Rattle.std.proofs.lemmas.Bool.Decides.{nat_tests}
use Rattle.cm_text.specs.Rules.{Rules}
use Rattle.cm_text.specs.TextLines.{begins_text, is_text_after}
use Rattle.cm_scan.specs.Words.{is_space_or_tab}
use Rattle.cm_scan.specs.blocks.LineForms.{underline}
use Rattle.cm_scan.specs.blocks.Starts.{TextLine, start_of_content}
use Rattle.cm_scan.proofs.lemmas.texts.ToldApart.{differs, none-passes}
use Rattle.cm_scan.proofs.lemmas.blocks.QuietStarts.{starters, is_quiet, unmarked-start, no-number, no-level}

quiet : (b : ℕ) → begins_text b ≡ true → is_quiet b ≡ true
unfolding is_quiet
quiet b h = ap not (none-passes begins_text b starters h refl)

no-digit : (b : ℕ) → begins_text b ≡ true → is_ascii_digit b ≡ false
no-digit b h = grind (arith, nat_tests, h)

pub text-start : (rules : Rules) (text : List ℕ) → is_text_after 0 text ≡ true → start_of_content rules text ≡ TextLine
text-start rules [] h = absurd (cc (h))
text-start rules (b ∷ bs) h = unmarked-start rules b bs (quiet b h) (no-number b bs (no-digit b h))

pub text-level : (text : List ℕ) → is_text_after 0 text ≡ true → underline text ≡ None
text-level [] h = absurd (cc (h))
text-level (b ∷ bs) h = no-level b bs (differs begins_text b 61 h refl) (differs begins_text b 45 h refl)

-- its first byte is neither a space nor a tab
pub text-shows : (b : ℕ) → begins_text b ≡ true → is_space_or_tab b ≡ false
text-shows b h = ap (λ v. v || b == 9) (differs begins_text b 32 h refl) ∙ differs begins_text b 9 h refl
