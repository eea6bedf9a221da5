-- What the next line is to a run of text.
use Rattle.std.proofs.Common.{◌≡◌, ℕ, zero, suc, ◌-◌, ◌<◌, ◌≤◌, Bool, true, false, List, [], ◌∷◌, length, take, drop, Option, Some, None, refl, sym, ap, subst, ◌∙◌, arith, option_map}
use Rattle.std.specs.Prelude.{not, ◌==◌, ◌&&◌}
use Rattle.std.proofs.lemmas.Bool.Decides.{nat_tests}
use Rattle.cm_text.specs.Rules.{Rules}
use Rattle.cm_text.specs.Lines.{LineView}
use Rattle.cm_text.specs.Indentation.{indent_of}
use Rattle.cm_scan.specs.Words.{is_blank_text, is_empty, trim_end}
use Rattle.cm_scan.specs.blocks.Lines.{is_blank, content_of, past}
use Rattle.cm_scan.specs.blocks.LineForms.{ItemMarker, underline}
use Rattle.cm_scan.specs.Scanned.{ending}
use Rattle.cm_scan.specs.inlines.Links.{definitions_of}
use Rattle.cm_scan.specs.blocks.Starts.{Start, TextLine, start_of, ItemStart, starts_at_one, can_interrupt, interrupts_paragraph, underline_of}
use Rattle.cm_text.specs.Views.{seen_view}
use Rattle.cm_text.specs.declared.view.View.{View}
use Rattle.cm_text.specs.TextLines.{is_text_after}
use Rattle.cm_scan.specs.blocks.Blocks.{rest_of, NextLine, GoesOn, Ends, Underlines, by_underline, next_line}
use Rattle.cm_scan.specs.steps.LineSteps.{by_interruption}
use Rattle.std.specs.List.{slice_range}
use Rattle.cm_scan.proofs.lemmas.blocks.WordsInAnyCase.{slice_from}
use Rattle.cm_block.specs.steps.LeafSteps.{level_above, heading_level}
use Rattle.cm_block.proofs.lemmas.StartLemmas.{text_shows, text_starts, text_underlines}

-- an underline

pub underline_lazy : (line : LineView) → line.lazy ≡ true → None ≡ underline_of line
unfolding underline_of
underline_lazy line lazy = grind (arith, lazy)

pub underline_far : (line : LineView) → 3 < indent_of line → None ≡ underline_of line
unfolding underline_of
underline_far line far = grind (arith, far)

underline-near : (line : LineView) → line.lazy ≡ false → indent_of line ≤ 3 → underline (content_of line) ≡ underline_of line
unfolding underline_of
underline-near line lazy near = grind (arith, lazy, near)

no-ending : (read : Option ℕ) (end : ℕ) → None ≡ ending read end → None ≡ read
no-ending None end e = refl
no-ending (Some level) end e = absurd (cc)

an-ending : (read : Option ℕ) (end level : ℕ) (at : ℕ) → Some (level, at) ≡ ending read end → Some level ≡ read
an-ending None end level at e = absurd (cc)
an-ending (Some other) end level at e = ap (option_map (λ (p : ℕ × ℕ). p.0)) e

pub underline_none : (line : LineView) (text : List ℕ) (end : ℕ) → line.lazy ≡ false → indent_of line ≤ 3 → text ≡ content_of line → None ≡ ending (underline text) end → None ≡ underline_of line
underline_none line text end lazy near is none = no-ending (underline text) end none ∙ ap underline is ∙ underline-near line lazy near

pub underline_some : (line : LineView) (text : List ℕ) (end level at : ℕ) → line.lazy ≡ false → indent_of line ≤ 3 → text ≡ content_of line → Some (level, at) ≡ ending (underline text) end
    → Some level ≡ underline_of line
underline_some line text end level at lazy near is some = an-ending (underline text) end level at some ∙ ap underline is ∙ underline-near line lazy near

-- an interruption

module _ (rules : Rules) where
  pub interrupts : (start : Start) (line : LineView) (b : Bool) → start ≡ start_of rules line → b ≡ can_interrupt start line → b ≡ interrupts_paragraph rules line
  unfolding interrupts_paragraph
  interrupts start line b is e = e ∙ ap (λ s. can_interrupt s line) is

  pub lazy_interrupts : (line : LineView) → line.lazy ≡ true → interrupts_paragraph rules line ≡ false
  unfolding interrupts_paragraph start_of
  lazy_interrupts line lazy = grind (arith, lazy)

pub item_interrupts : (marker : ItemMarker) (line : LineView) (text : List ℕ) → text ≡ content_of line → starts_at_one marker.kind ≡ true
    → not (is_blank_text (drop (suc marker.digits) text)) ≡ can_interrupt (ItemStart marker) line
unfolding past
item_interrupts marker line text is one = rw one (ap (λ t. not (is_blank_text (drop (suc marker.digits) t))) is)

-- what is left above an underline

pub empty_is : (text : List ℕ) → (length text == 0) ≡ is_empty text
empty_is [] = refl
empty_is (b ∷ bs) = grind (arith, nat_tests)

pub rest_is : (source trimmed left : List ℕ) → trimmed ≡ trim_end source → left ≡ (definitions_of trimmed).left → not (length left == 0) ≡ not (is_empty (rest_of source))
unfolding rest_of
rest_is source trimmed left t l = ap not (empty_is left ∙ ap is_empty l ∙ ap (λ x. is_empty (definitions_of x).left) t)

-- the line

module _ (rules : Rules) where
  pub ends_blank : (source : List ℕ) (line : LineView) → is_blank line ≡ true → Ends ≡ next_line rules source line
  unfolding next_line
  ends_blank source line blank = grind (arith, blank)

  by_blank : (P : NextLine → Type 0) (source : List ℕ) (line : LineView) → is_blank line ≡ false
      → P (by_underline (underline_of line) (not (is_empty (rest_of source))) (interrupts_paragraph rules line)) → P (next_line rules source line)
  unfolding next_line
  by_blank P source line blank h =
      subst (λ (b : Bool). P (elim b as (λ _. NextLine) [
        | true ↦ Ends
        | false ↦ by_underline (underline_of line) (not (is_empty (rest_of source))) (interrupts_paragraph rules line)
      ])) (sym blank) h

  pub underlines : (source : List ℕ) (line : LineView) (level : ℕ) → is_blank line ≡ false → Some level ≡ heading_level source line → Underlines level ≡ next_line rules source line
  underlines source line level blank e = by_blank (λ x. Underlines level ≡ x) source line blank (go (underline_of line) (not (is_empty (rest_of source))) e)
    where
      go : (u : Option ℕ) (rest : Bool) → Some level ≡ level_above rest u → Underlines level ≡ by_underline u rest (interrupts_paragraph rules line)
      go u false e = absurd (cc)
      go None true e = absurd (cc)
      go (Some other) true e = cc

  pub interrupted : (source : List ℕ) (line : LineView) → is_blank line ≡ false → None ≡ heading_level source line → by_interruption (interrupts_paragraph rules line) ≡ next_line rules source line
  interrupted source line blank e = by_blank (λ x. by_interruption (interrupts_paragraph rules line) ≡ x) source line blank (go (underline_of line) (not (is_empty (rest_of source))) e)
    where
      go : (u : Option ℕ) (rest : Bool) → None ≡ level_above rest u → by_interruption (interrupts_paragraph rules line) ≡ by_underline u rest (interrupts_paragraph rules line)
      go None false e = refl
      go (Some other) false e = refl
      go None true e = refl
      go (Some other) true e = absurd (cc)

-- what is after the first byte of a part

drop-one : (n : ℕ) (text : List ℕ) → drop 1 (drop n text) ≡ drop (suc n) text
drop-one zero text = refl
drop-one (suc n) [] = refl
drop-one (suc n) (b ∷ bs) = drop-one n bs

pub after_first : (text part : List ℕ) (n : ℕ) → part ≡ slice_range text n (length text) → take (length part - 1) (drop 1 part) ≡ drop (suc n) text
after_first text part n e = slice_from 1 part ∙ ap (drop 1) (e ∙ slice_from n text) ∙ drop-one n text

-- a line that starts as text continues any run

next-plain : (rules : Rules) (source : List ℕ) (line : LineView) → is_blank line ≡ false → underline_of line ≡ None → interrupts_paragraph rules line ≡ false
    → GoesOn ≡ next_line rules source line
unfolding next_line
next-plain rules source line b u i =
    sym (λ k. elim (b k) as (λ _. NextLine) [ true ↦ Ends | false ↦ by_underline (u k) (not (is_empty (rest_of source))) (i k) ])

pub text_goes_on : (view : View) → ((view.spaces == 0) && is_text_after 0 view.rest.now) ≡ true → (rules : Rules) (source : List ℕ)
    → GoesOn ≡ next_line rules source (seen_view view)
text_goes_on view text rules source =
    next-plain rules source (seen_view view) (text_shows view text) (underlines-none view.lazy refl)
    (sym (interrupts rules TextLine (seen_view view) false (sym (text_starts view text rules)) refl))
  where
    underlines-none : (lazy : Bool) → view.lazy ≡ lazy → underline_of (seen_view view) ≡ None
    underlines-none true lazy = sym (underline_lazy (seen_view view) lazy)
    underlines-none false eager = text_underlines view text eager
