-- A first byte with which nothing but text starts.
use Rattle.std.proofs.Common.{◌≡◌, ℕ, suc, ◌==◌, not, Bool, true, false, List, [], ◌∷◌, None, refl, ap, ◌∙◌, codes}
use Rattle.std.specs.List.{list_any}
use Rattle.std.specs.Char.{is_ascii_digit}
use Rattle.cm_text.specs.Rules.{Rules}
use Rattle.cm_scan.specs.Words.{skip, front_of, run_length}
use Rattle.cm_scan.specs.blocks.LineForms.{is_thematic_break, atx_heading, underline, opening_fence, fence_of, item_marker, bullet_marker, ordered_marker, marker_after}
use Rattle.cm_scan.specs.blocks.HtmlBlocks.{html_start}
use Rattle.cm_scan.specs.blocks.Starts.{TextLine, start_of_content}
use Rattle.cm_scan.proofs.lemmas.texts.ToldApart.{differs}

-- the bytes with which a block other than text, or an underline, may start, but for digits; blanks, and the end of a line
abbrev pub starters : List ℕ
starters = codes ">#`~<-_*+= \t\n"

unfoldable pub is_quiet : ℕ → Bool
is_quiet b = not (list_any (λ c. b == c) starters)

pub no-run : (marker b : ℕ) (bs : List ℕ) → (b == marker) ≡ false → run_length marker (b ∷ bs) ≡ 0
unfolding run_length
no-run marker b bs e = ap (λ v. elim v as (λ _. ℕ) [ true ↦ suc (run_length marker bs) | false ↦ 0 ]) e

pub no-heading : (b : ℕ) (bs : List ℕ) → (b == 35) ≡ false → atx_heading (b ∷ bs) ≡ None
unfolding atx_heading
no-heading b bs e = rw (no-run 35 b bs e) refl

pub no-fence-of : (marker b : ℕ) (bs : List ℕ) → (b == marker) ≡ false → fence_of marker (b ∷ bs) ≡ None
unfolding fence_of
no-fence-of marker b bs e = rw (no-run marker b bs e) refl

pub no-fence : (b : ℕ) (bs : List ℕ) → (b == 96) ≡ false → (b == 126) ≡ false → opening_fence (b ∷ bs) ≡ None
unfolding opening_fence
no-fence b bs e f = rw (no-fence-of 96 b bs e, no-fence-of 126 b bs f) refl

pub no-html-start : (rules : Rules) (b : ℕ) (bs : List ℕ) → (b == 60) ≡ false → html_start rules (b ∷ bs) ≡ None
unfolding html_start
no-html-start rules b bs e = rw (e, html_start) refl

pub no-bullet : (b : ℕ) (bs : List ℕ) → (b == 45) ≡ false → (b == 43) ≡ false → (b == 42) ≡ false → bullet_marker (b ∷ bs) ≡ None
unfolding bullet_marker
no-bullet b bs e f g = rw (e, f, g) refl

no-digits : (text : List ℕ) → marker_after [] text ≡ None
unfolding marker_after
no-digits [] = refl
no-digits (b ∷ bs) = refl

pub no-number : (b : ℕ) (bs : List ℕ) → is_ascii_digit b ≡ false → ordered_marker (b ∷ bs) ≡ None
unfolding ordered_marker front_of
no-number b bs e = ap (λ v. marker_after (elim v as (λ _. List ℕ) [ true ↦ b ∷ front_of is_ascii_digit bs | false ↦ [] ]) (skip is_ascii_digit (b ∷ bs))) e ∙ no-digits (skip is_ascii_digit (b ∷ bs))

pub no-break : (b : ℕ) (bs : List ℕ) → (b == 45) ≡ false → (b == 95) ≡ false → (b == 42) ≡ false → (b == 32) ≡ false → (b == 9) ≡ false → is_thematic_break (b ∷ bs) ≡ false
unfolding is_thematic_break
no-break b bs e f g h k = rw (e, f, g, h, k) refl

pub unmarked-start : (rules : Rules) (b : ℕ) (bs : List ℕ) → is_quiet b ≡ true → ordered_marker (b ∷ bs) ≡ None → start_of_content rules (b ∷ bs) ≡ TextLine
unfolding start_of_content item_marker is_quiet
unmarked-start rules b bs q none =
    let no : (c : ℕ) → is_quiet c ≡ false → (b == c) ≡ false = λ c. differs is_quiet b c q in
    rw (
      no 62 refl,
      no-heading b bs (no 35 refl),
      no-fence b bs (no 96 refl) (no 126 refl),
      no-html-start rules b bs (no 60 refl),
      no-break b bs (no 45 refl) (no 95 refl) (no 42 refl) (no 32 refl) (no 9 refl),
      no-bullet b bs (no 45 refl) (no 43 refl) (no 42 refl),
      none,
    ) refl

pub no-level : (b : ℕ) (bs : List ℕ) → (b == 61) ≡ false → (b == 45) ≡ false → underline (b ∷ bs) ≡ None
unfolding underline
no-level b bs e f = rw (no-run 61 b bs e, no-run 45 b bs f) refl
