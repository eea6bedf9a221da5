-- The examples of lines, by what is in a file.
use Rattle.std.proofs.Common.{◌≡◌, ◌≢◌, ◌∙◌, ◌+◌, ◌++◌, ◌<◌, ◌≤◌, ◌⊎◌, ℕ, zero, suc, Bool, true, false, List, [], ◌∷◌, refl, sym, ap, ap₂, subst, append_assoc, append-nil, bytes_eq, flat_map, length, length-append, arith, true≢false}
use mathlib.Core.Logic.{inl, inr}
use Rattle.std.specs.Prelude.{Result, Err}
use Rattle.std.proofs.lemmas.List.Elements.{All-nil, All-cons, All-head, All-tail}
use Rattle.std.proofs.lemmas.Slice.Eq.{bytes_eq-Decides}
use Rattle.cm_tool.specs.ExampleFiles.{Example, closing_line, example_line, examples_from, middle_line, opening_line, put_example, InHtml, InSource}
use Rattle.cm_tool.specs.ExampleLaws.{ExamplesAreDetermined, ExamplesAreTold, NoneIs, TellsExamples, Telling, example_lines, example_with, examples_of_lines}

abbrev found : Type 0
found = Result (List Example) ℕ

-- ---- lines that are none of these

first_apart : (line other : List ℕ) (lines : List (List ℕ)) → NoneIs line (other ∷ lines) → other ≢ line
first_apart line other lines none = All-head (λ x. x ≢ line) other lines none

first_differs : (line other : List ℕ) (lines : List (List ℕ)) → NoneIs line (other ∷ lines) → bytes_eq other line ≡ false
first_differs line other lines none = go (bytes_eq other line) refl
  where
    go : (b : Bool) → bytes_eq other line ≡ b → b ≡ false
    go true is = absurd (first_apart line other lines none ((bytes_eq-Decides other line).0 is))
    go false is = refl

others_differ : (line other : List ℕ) (lines : List (List ℕ)) → NoneIs line (other ∷ lines) → NoneIs line lines
others_differ line other lines none = All-tail (λ x. x ≢ line) other lines none

one_more : (line other : List ℕ) (lines : List (List ℕ)) → bytes_eq other line ≡ false → NoneIs line lines → NoneIs line (other ∷ lines)
one_more line other lines differs none =
    All-cons (λ x. x ≢ line) other lines (λ same. true≢false (sym ((bytes_eq-Decides other line).1 same) ∙ differs)) none

none_before : (line : List ℕ) (before beyond : List (List ℕ)) → NoneIs line (before ++ beyond) → NoneIs line before
none_before line [] beyond none = All-nil (λ x. x ≢ line)
none_before line (other ∷ before) beyond none =
    All-cons (λ x. x ≢ line) other before (first_apart line other (before ++ beyond) none)
    (none_before line before beyond (others_differ line other (before ++ beyond) none))

none_beyond : (line : List ℕ) (before beyond : List (List ℕ)) → NoneIs line (before ++ beyond) → NoneIs line beyond
none_beyond line [] beyond none = none
none_beyond line (other ∷ before) beyond none = none_beyond line before beyond (others_differ line other (before ++ beyond) none)

-- the first line that is this one, among others
record FirstPlace (line : List ℕ) (lines : List (List ℕ)) : Type 0 where
  before : List (List ℕ)
  beyond : List (List ℕ)
  none : NoneIs line before
  is : lines ≡ before ++ line ∷ beyond

first : (line : List ℕ) (lines : List (List ℕ)) → NoneIs line lines ⊎ FirstPlace line lines
first line [] = inl (All-nil (λ x. x ≢ line))
first line (other ∷ lines) = go (bytes_eq other line) refl (first line lines)
  where
    go : (b : Bool) → bytes_eq other line ≡ b → NoneIs line lines ⊎ FirstPlace line lines → NoneIs line (other ∷ lines) ⊎ FirstPlace line (other ∷ lines)
    go true is more = inr (record { before = []; beyond = lines; none = All-nil (λ x. x ≢ line); is = ap (λ x. x ∷ lines) ((bytes_eq-Decides other line).0 is) })
    go false differs (inl none) = inl (one_more line other lines differs none)
    go false differs (inr at) = inr (record {
      before = other ∷ at.before;
      beyond = at.beyond;
      none = one_more line other at.before differs at.none;
      is = ap (λ ls. other ∷ ls) at.is;
    })

-- ---- lines that are taken one after another

lines_passed : (number : ℕ) (outside lines : List (List ℕ)) → NoneIs opening_line outside
    → examples_of_lines number (outside ++ lines) ≡ examples_of_lines (number + length outside) lines
lines_passed number [] lines none = let same : number ≡ number + 0 = omega arith in ap (λ n. examples_of_lines n lines) same
lines_passed number (line ∷ outside) lines none =
    let same : number + 1 + length outside ≡ number + length (line ∷ outside) = omega arith in
    ap (λ (b : Bool). elim b as (λ _. found) [ true ↦ examples_from (InSource number []) (number + 1) (outside ++ lines) | false ↦ examples_of_lines (number + 1) (outside ++ lines) ])
    (first_differs opening_line line outside none)
    ∙ lines_passed (number + 1) outside lines (others_differ opening_line line outside none)
    ∙ ap (λ n. examples_of_lines n lines) same

-- in the example that this line opened
module _ (opened : ℕ) where
  source_passed : (number : ℕ) (so_far : List ℕ) (source lines : List (List ℕ)) → NoneIs middle_line source → NoneIs closing_line source
      → examples_from (InSource opened so_far) number (source ++ lines)
      ≡ examples_from (InSource opened (so_far ++ flat_map example_line source)) (number + length source) lines
  source_passed number so_far [] lines no_middle no_closing =
      let same : number ≡ number + 0 = omega arith in
      ap₂ (λ text n. examples_from (InSource opened text) n lines) (sym (append-nil so_far)) same
  source_passed number so_far (line ∷ source) lines no_middle no_closing =
      let same : number + 1 + length source ≡ number + length (line ∷ source) = omega arith in
      ap (λ (b : Bool). elim b as (λ _. found) [ true ↦ examples_from (InHtml opened so_far []) (number + 1) (source ++ lines) | false ↦ elim (bytes_eq line closing_line) as (λ _. found) [ true ↦ Err opened | false ↦ more ] ])
      (first_differs middle_line line source no_middle)
      ∙ ap (λ (b : Bool). elim b as (λ _. found) [ true ↦ Err opened | false ↦ more ]) (first_differs closing_line line source no_closing)
      ∙ source_passed (number + 1) (so_far ++ example_line line) source lines (others_differ middle_line line source no_middle) (others_differ closing_line line source no_closing)
      ∙ ap₂ (λ text n. examples_from (InSource opened text) n lines) (append_assoc so_far (example_line line) (flat_map example_line source)) same
    where
      more : found
      more = examples_from (InSource opened (so_far ++ example_line line)) (number + 1) (source ++ lines)

  html_passed : (number : ℕ) (source so_far : List ℕ) (html lines : List (List ℕ)) → NoneIs closing_line html
      → examples_from (InHtml opened source so_far) number (html ++ lines)
      ≡ examples_from (InHtml opened source (so_far ++ flat_map example_line html)) (number + length html) lines
  html_passed number source so_far [] lines none =
      let same : number ≡ number + 0 = omega arith in
      ap₂ (λ text n. examples_from (InHtml opened source text) n lines) (sym (append-nil so_far)) same
  html_passed number source so_far (line ∷ html) lines none =
      let same : number + 1 + length html ≡ number + length (line ∷ html) = omega arith in
      ap (λ (b : Bool). elim b as (λ _. found) [ true ↦ put_example (record { source = source; html = so_far }) (examples_of_lines (number + 1) (html ++ lines)) | false ↦ examples_from (InHtml opened source (so_far ++ example_line line)) (number + 1) (html ++ lines) ])
      (first_differs closing_line line html none)
      ∙ html_passed (number + 1) source (so_far ++ example_line line) html lines (others_differ closing_line line html none)
      ∙ ap₂ (λ text n. examples_from (InHtml opened source text) n lines) (append_assoc so_far (example_line line) (flat_map example_line html)) same

  html_unclosed : (number : ℕ) (source so_far : List ℕ) (lines : List (List ℕ)) → NoneIs closing_line lines → examples_from (InHtml opened source so_far) number lines ≡ Err opened
  html_unclosed number source so_far [] none = refl
  html_unclosed number source so_far (line ∷ lines) none =
      ap (λ (b : Bool). elim b as (λ _. found) [ true ↦ put_example (record { source = source; html = so_far }) (examples_of_lines (number + 1) lines) | false ↦ examples_from (InHtml opened source (so_far ++ example_line line)) (number + 1) lines ])
      (first_differs closing_line line lines none)
      ∙ html_unclosed (number + 1) source (so_far ++ example_line line) lines (others_differ closing_line line lines none)

  source_unclosed : (number : ℕ) (so_far : List ℕ) (lines : List (List ℕ)) → NoneIs closing_line lines → examples_from (InSource opened so_far) number lines ≡ Err opened
  source_unclosed number so_far [] none = refl
  source_unclosed number so_far (line ∷ lines) none =
      ap (λ (b : Bool). elim (bytes_eq line middle_line) as (λ _. found) [ true ↦ html | false ↦ elim b as (λ _. found) [ true ↦ Err opened | false ↦ more ] ])
      (first_differs closing_line line lines none)
      ∙ go (bytes_eq line middle_line) (html_unclosed (number + 1) so_far [] lines (others_differ closing_line line lines none))
      (source_unclosed (number + 1) (so_far ++ example_line line) lines (others_differ closing_line line lines none))
    where
      html : found
      html = examples_from (InHtml opened so_far []) (number + 1) lines

      more : found
      more = examples_from (InSource opened (so_far ++ example_line line)) (number + 1) lines

      go : (is_middle : Bool) → html ≡ Err opened → more ≡ Err opened → elim is_middle as (λ _. found) [ true ↦ html | false ↦ more ] ≡ Err opened
      go true in_html in_source = in_html
      go false in_html in_source = in_source

  source_closed : (number : ℕ) (so_far : List ℕ) (source lines : List (List ℕ)) → NoneIs middle_line source
      → examples_from (InSource opened so_far) number (source ++ closing_line ∷ lines) ≡ Err opened
  source_closed number so_far [] lines none = refl
  source_closed number so_far (line ∷ source) lines none =
      ap (λ (b : Bool). elim b as (λ _. found) [ true ↦ examples_from (InHtml opened so_far []) (number + 1) (source ++ closing_line ∷ lines) | false ↦ elim (bytes_eq line closing_line) as (λ _. found) [ true ↦ Err opened | false ↦ more ] ])
      (first_differs middle_line line source none)
      ∙ go (bytes_eq line closing_line) (source_closed (number + 1) (so_far ++ example_line line) source lines (others_differ middle_line line source none))
    where
      more : found
      more = examples_from (InSource opened (so_far ++ example_line line)) (number + 1) (source ++ closing_line ∷ lines)

      go : (is_closing : Bool) → more ≡ Err opened → elim is_closing as (λ _. found) [ true ↦ Err opened | false ↦ more ] ≡ Err opened
      go true beyond = refl
      go false beyond = beyond

-- ---- an example

-- its lines with others after them
abbrev lines_with : (source html lines : List (List ℕ)) → List (List ℕ)
lines_with source html lines = opening_line ∷ source ++ (middle_line ∷ html ++ (closing_line ∷ lines))

with_others : (source html lines : List (List ℕ)) → example_lines source html ++ lines ≡ lines_with source html lines
with_others source html lines =
    append_assoc (opening_line ∷ source ++ middle_line ∷ html) (closing_line ∷ []) lines
    ∙ append_assoc (opening_line ∷ source) (middle_line ∷ html) (closing_line ∷ lines)

one_example : (number : ℕ) (source html lines : List (List ℕ)) → NoneIs middle_line source → NoneIs closing_line source → NoneIs closing_line html
    → examples_of_lines number (example_lines source html ++ lines)
    ≡ put_example (example_with source html) (examples_of_lines (number + length (example_lines source html)) lines)
one_example number source html lines no_middle no_closing none =
    let same : number + 1 + length source + 1 + length html + 1 ≡ number + length (example_lines source html)
    = omega (arith, length-append (opening_line ∷ source ++ middle_line ∷ html) (closing_line ∷ []), length-append (opening_line ∷ source) (middle_line ∷ html)) in
    ap (examples_of_lines number) (with_others source html lines)
    ∙ source_passed number (number + 1) [] source (middle_line ∷ html ++ (closing_line ∷ lines)) no_middle no_closing
    ∙ html_passed number (number + 1 + length source + 1) (flat_map example_line source) [] html (closing_line ∷ lines) none
    ∙ ap (λ n. put_example (example_with source html) (examples_of_lines n lines)) same

pub examples_are_told : ExamplesAreTold
examples_are_told = record {
  no_examples = λ number outside none.
      ap (examples_of_lines number) (sym (append-nil outside)) ∙ lines_passed number outside [] none;
  passed_over = lines_passed;
  example_in_front = one_example;
  closed_early = λ number source lines none. source_closed number (number + 1) [] source lines none;
  unclosed = λ number lines none. source_unclosed number (number + 1) [] lines none;
}

-- ---- no other way

module _ (told : Telling) (tells : TellsExamples told) where
  -- after an opening line, where what follows it is known
  after_opening : (number : ℕ) (lines : List (List ℕ))
      → ((n : ℕ) (rest : List (List ℕ)) → length rest ≤ length lines → told n rest ≡ examples_of_lines n rest)
      → told number (opening_line ∷ lines) ≡ examples_of_lines number (opening_line ∷ lines)
  after_opening number lines more = by_closing (first closing_line lines)
    where
      by_middle : (closing : FirstPlace closing_line lines) → NoneIs middle_line closing.before ⊎ FirstPlace middle_line closing.before
          → told number (opening_line ∷ closing.before ++ closing_line ∷ closing.beyond)
          ≡ examples_of_lines number (opening_line ∷ closing.before ++ closing_line ∷ closing.beyond)
      by_middle closing (inl none) =
          tells.closed_early number closing.before closing.beyond none ∙ sym (examples_are_told.closed_early number closing.before closing.beyond none)
      by_middle closing (inr middle) =
          ap (told number) are
          ∙ tells.example_in_front number middle.before middle.beyond closing.beyond middle.none in_source in_html
          ∙ ap (put_example (example_with middle.before middle.beyond)) (more (number + length (example_lines middle.before middle.beyond)) closing.beyond shorter)
          ∙ sym (examples_are_told.example_in_front number middle.before middle.beyond closing.beyond middle.none in_source in_html)
          ∙ sym (ap (examples_of_lines number) are)
        where
          are : opening_line ∷ closing.before ++ closing_line ∷ closing.beyond ≡ example_lines middle.before middle.beyond ++ closing.beyond
          are = ap (λ ls. opening_line ∷ ls ++ closing_line ∷ closing.beyond) middle.is
              ∙ sym (append_assoc (opening_line ∷ middle.before ++ middle_line ∷ middle.beyond) (closing_line ∷ []) closing.beyond)

          apart : NoneIs closing_line (middle.before ++ middle_line ∷ middle.beyond)
          apart = subst (NoneIs closing_line) middle.is closing.none

          in_source : NoneIs closing_line middle.before
          in_source = none_before closing_line middle.before (middle_line ∷ middle.beyond) apart

          in_html : NoneIs closing_line middle.beyond
          in_html = others_differ closing_line middle_line middle.beyond (none_beyond closing_line middle.before (middle_line ∷ middle.beyond) apart)

          shorter : length closing.beyond ≤ length lines
          shorter = omega (arith, ap length closing.is, length-append closing.before (closing_line ∷ closing.beyond))

      by_closing : NoneIs closing_line lines ⊎ FirstPlace closing_line lines → told number (opening_line ∷ lines) ≡ examples_of_lines number (opening_line ∷ lines)
      by_closing (inl none) = tells.unclosed number lines none ∙ sym (examples_are_told.unclosed number lines none)
      by_closing (inr closing) =
          ap (λ ls. told number (opening_line ∷ ls)) closing.is
          ∙ by_middle closing (first middle_line closing.before)
          ∙ sym (ap (λ ls. examples_of_lines number (opening_line ∷ ls)) closing.is)

  within : (bound number : ℕ) (lines : List (List ℕ)) → length lines < bound → told number lines ≡ examples_of_lines number lines
  within zero number lines small = absurd (omega (arith, small))
  within (suc bound) number lines small = go (first opening_line lines) (λ n rest fits. within bound n rest fits)
    where
      go : NoneIs opening_line lines ⊎ FirstPlace opening_line lines
          → ((n : ℕ) (rest : List (List ℕ)) → length rest < bound → told n rest ≡ examples_of_lines n rest)
          → told number lines ≡ examples_of_lines number lines
      go (inl none) more = tells.no_examples number lines none ∙ sym (examples_are_told.no_examples number lines none)
      go (inr opening) more =
          ap (told number) opening.is
          ∙ tells.passed_over number opening.before (opening_line ∷ opening.beyond) opening.none
          ∙ after_opening (number + length opening.before) opening.beyond
          (λ n rest fits. more n rest (omega (arith, fits, small, ap length opening.is, length-append opening.before (opening_line ∷ opening.beyond))))
          ∙ sym (examples_are_told.passed_over number opening.before (opening_line ∷ opening.beyond) opening.none)
          ∙ sym (ap (examples_of_lines number) opening.is)

pub examples_are_determined : ExamplesAreDetermined
examples_are_determined told tells number lines = within told tells (suc (length lines)) number lines (omega arith)
