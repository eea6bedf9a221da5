-- Lines that start with four spaces, and lines that show by their first bytes that they close no fence.
use Rattle.std.proofs.Common.{◌≡◌, ℕ, ◌+◌, ◌≤◌, ◌&&◌, true, false, List, [], ◌∷◌, ◌++◌, length, take, drop, get_or, replicate, zero, suc, ◌<◌, Bool, refl, ◌∙◌, sym, ap, ap₂, subst, arith}
use Rattle.std.specs.Prelude.{nat_le, not, if◌then◌else◌}
use Rattle.std.proofs.lemmas.Bool.Decides.{nat_tests}
use Rattle.cm_text.specs.Lines.{LineView}
use Rattle.cm_text.specs.Indentation.{indent_from, indent_of, strip_from, strip_columns}
use Rattle.cm_text.specs.LineText.{tabs}
use Rattle.cm_text.specs.Views.{seen_view}
use Rattle.cm_text.specs.declared.view.View.{View}
use Rattle.cm_text.proofs.lemmas.ViewLemmas.{indent_spaces, strip_some}
use Rattle.cm_scan.specs.Words.{begins_with, run_length, after_run}
use Rattle.cm_scan.specs.blocks.Lines.{content_of}
use Rattle.cm_scan.specs.blocks.LineForms.{Fence, is_closing_fence}
use Rattle.cm_scan.specs.blocks.Blocks.{closes_fence}
use Rattle.cm_block.specs.steps.ContinuationViews.{begins_plain, may_close_fence}
use Rattle.cm_block.proofs.lemmas.PlainItems.{plain_content}
use Rattle.cm_block.proofs.lemmas.ContinuationLemmas.{some_spaces, run_within}

four_columns : (text : List ℕ) → 4 ≤ run_length 32 text → (column : ℕ) → 4 ≤ indent_from column text
four_columns text run column =
    omega (arith, ap (indent_from column) (some_spaces 4 text run), indent_spaces 4 column (drop 4 text))

pub four_there : (text : List ℕ) → 4 ≤ length text → get_or text 0 0 ≡ 32 → get_or text 1 0 ≡ 32 → get_or text 2 0 ≡ 32 → get_or text 3 0 ≡ 32
    → true ≡ nat_le 4 (run_length 32 text)
unfolding run_length
four_there [] within e f g h = absurd (omega (arith, within))
four_there (a ∷ []) within e f g h = absurd (omega (arith, within))
four_there (a ∷ b ∷ []) within e f g h = absurd (omega (arith, within))
four_there (a ∷ b ∷ c ∷ []) within e f g h = absurd (omega (arith, within))
four_there (a ∷ b ∷ c ∷ d ∷ rest) within e f g h =
    subst (λ t. true ≡ nat_le 4 (run_length 32 t)) (ap₂ (λ x y. x ∷ y ∷ 32 ∷ 32 ∷ rest) (sym e) (sym f) ∙ ap₂ (λ x y. a ∷ b ∷ x ∷ y ∷ rest) (sym g) (sym h)) (grind (arith, nat_tests))

module _ (text : List ℕ) where
  pub not_four : (4 ≤ run_length 32 text → ⊥) → false ≡ nat_le 4 (run_length 32 text)
  not_four not = go (nat_le 4 (run_length 32 text)) refl
    where
      go : (b : Bool) → nat_le 4 (run_length 32 text) ≡ b → false ≡ b
      go true e = absurd (not (grind (arith, nat_tests, e)))
      go false e = refl

  pub no_room : length text < 4 → false ≡ nat_le 4 (run_length 32 text)
  no_room few = not_four (λ run. omega (arith, few, run, run_within text))

  -- one of the first four bytes is another
  pub other_byte : (k : ℕ) → k < 4 → (get_or text k 0 ≡ 32 → ⊥) → false ≡ nat_le 4 (run_length 32 text)
  other_byte k near other = not_four (λ run. other (ap (λ t. get_or t k 0) (some_spaces 4 text run) ∙ at k near))
    where
      at : (k : ℕ) → k < 4 → get_or (replicate 4 32 ++ drop 4 text) k 0 ≡ 32
      at zero near = refl
      at (suc zero) near = refl
      at (suc (suc zero)) near = refl
      at (suc (suc (suc zero))) near = refl
      at (suc (suc (suc (suc k)))) near = absurd (omega (arith, near))

pub four_plain : (text : List ℕ) → 4 ≤ run_length 32 text → tabs (take 4 text) ≡ 0
four_plain text run = ap (λ t. tabs (take 4 t)) (some_spaces 4 text run)

-- a line that starts with four spaces, without them
pub four_stripped : (view : View) → view.spaces ≡ 0 → 4 ≤ run_length 32 view.rest.now
    → record { column = view.column + 4; text = drop 4 view.rest.now; lazy = view.lazy } ≡ strip_columns 4 (seen_view view)
four_stripped view none run =
    let rest = view.rest.now in
    sym (ap (λ (left : ℕ × List ℕ). record { column = left.0; text = left.1; lazy = view.lazy }) (
    ap₂ (λ n t. strip_from 4 view.column (replicate n 32 ++ t)) none (some_spaces 4 rest run)
    ∙ strip_some 4 4 view.column (drop 4 rest) (omega arith)
    ))

module _ (fence : Fence) (view : View) where
  abbrev line : LineView
  line = seen_view view

  far_from_closing : ((column : ℕ) → 4 ≤ indent_from column view.rest.now) → closes_fence fence line ≡ false
  far_from_closing far =
      let indent : indent_of line ≡ view.spaces + indent_from (view.column + view.spaces) view.rest.now = indent_spaces view.spaces view.column view.rest.now in
      let over : 4 ≤ indent_of line = omega (arith, indent, far (view.column + view.spaces)) in
      let no-room : nat_le (indent_of line) 3 ≡ false = grind (arith, nat_tests, over) in
      ap (λ b. b && is_closing_fence fence (content_of line)) no-room

  -- its content has another first byte, which isn't blank
  other-first : (text : List ℕ) → begins_plain text ≡ true → begins_with fence.marker text ≡ false → is_closing_fence fence text ≡ false
  unfolding is_closing_fence after_run
  other-first [] plain other = absurd (cc (plain))
  other-first (b ∷ bs) plain other = grind (arith, nat_tests, plain, other)

  plain_closes_none : begins_plain view.rest.now ≡ true → begins_with fence.marker view.rest.now ≡ false → closes_fence fence line ≡ false
  plain_closes_none plain other =
      let content : content_of line ≡ view.rest.now = sym (plain_content view.spaces view.rest.now plain) in
      let none : is_closing_fence fence (content_of line) ≡ false = ap (is_closing_fence fence) content ∙ other-first view.rest.now plain other in
      grind (arith, none)

  pub closes_none : may_close_fence fence.marker view.rest.now ≡ false → closes_fence fence line ≡ false
  closes_none none = go (begins_plain view.rest.now) refl none
    where
      go : (plain : Bool) → begins_plain view.rest.now ≡ plain
          → (if plain then begins_with fence.marker view.rest.now else not (nat_le 4 (run_length 32 view.rest.now))) ≡ false → closes_fence fence line ≡ false
      go true is other = plain_closes_none is other
      go false is far = far_from_closing (four_columns view.rest.now (grind (arith, nat_tests, far)))
