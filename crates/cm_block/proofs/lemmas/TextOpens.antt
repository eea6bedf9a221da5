-- A line of text where nothing is open: it opens a run of text.
use Rattle.std.proofs.Common.{◌≡◌, ℕ, zero, suc, ◌+◌, ◌==◌, Bool, true, false, List, [], ◌∷◌, refl, ◌∙◌, sym, ap, ap₂, arith}
use Rattle.std.specs.Prelude.{nat_le}
use Rattle.std.proofs.lemmas.Bool.{and_parts}
use Rattle.cm_text.specs.Rules.{Rules}
use Rattle.cm_text.specs.Lines.{LineView}
use Rattle.cm_text.specs.Indentation.{indent_from, indent_of, tab_width}
use Rattle.cm_text.specs.TextLines.{begins_text, is_text_after}
use Rattle.cm_scan.specs.blocks.Lines.{content_of, marks}
use Rattle.cm_scan.specs.blocks.Starts.{TextLine, start_of_content, start_of}
use Rattle.cm_scan.specs.steps.LineSteps.{start_by}
use Rattle.cm_scan.proofs.lemmas.texts.ToldApart.{differs}
use Rattle.cm_block.specs.OpenLeaf.{no_leaf, open_text, stays_open, LineOpens, begins_nothing, begins_leaf, begin_of_start, begin_of, closed_leaves, line_of_leaf}
use Rattle.cm_block.specs.Level.{Level, block_opens}
use Rattle.cm_block.specs.Stack.{Owned, push_by, push_within, push_begin, push_in, push_line, own_leaves, own_blanks, own_open, close_leaves, push_blanks, close_open}
use Rattle.cm_block.specs.Frames.{nest, stack_with}
use Rattle.cm_block.proofs.lemmas.TextGoesOn.{shows}
use Rattle.cm_block.proofs.lemmas.TextStarts.{text-start}

-- the indentation of a line of text is its spaces
pub indent-beyond : (spaces column : ℕ) (line : List ℕ) → is_text_after spaces line ≡ true → indent_from column line ≡ spaces
indent-beyond spaces column [] h = absurd (cc (h))
indent-beyond zero column (b ∷ bs) h =
    ap₂ (λ (space tab : Bool). elim space as (λ _. ℕ) [
      | true ↦ 1 + indent_from (column + 1) bs
      | false ↦ elim tab as (λ _. ℕ) [ true ↦ tab_width column + indent_from (column + tab_width column) bs | false ↦ 0 ]
    ]) (differs begins_text b 32 h refl) (differs begins_text b 9 h refl)
indent-beyond (suc n) column (b ∷ bs) h =
    let parts = and_parts (b == 32) (is_text_after n bs) h in
    ap (λ (space : Bool). elim space as (λ _. ℕ) [
      | true ↦ 1 + indent_from (column + 1) bs
      | false ↦ elim (b == 9) as (λ _. ℕ) [ true ↦ tab_width column + indent_from (column + tab_width column) bs | false ↦ 0 ]
    ]) parts.0
    ∙ omega (arith, indent-beyond n (column + 1) bs parts.1)

module _ (rules : Rules) (line : LineView) (text : is_text_after 0 (content_of line) ≡ true) (eager : line.lazy ≡ false) (near : nat_le 4 (indent_of line) ≡ false) where
  starts : start_of rules line ≡ TextLine
  unfolding start_of
  starts = ap₂ (λ (lazy indented : Bool). start_by lazy indented (start_of_content rules (content_of line))) eager near ∙ text-start rules (content_of line) text

  begins : begin_of rules line ≡ begins_leaf (stays_open (open_text (content_of line)))
  unfolding begin_of
  begins = ap₂ (λ (blank : Bool) start. elim blank as (λ _. LineOpens) [ true ↦ begins_nothing | false ↦ begin_of_start rules start line ]) (shows line.text text) starts

  pub opens : (bare : Bool) (v : Level) (s : Owned) → stack_with false [] (block_opens v) (open_text (content_of line)) s ≡ push_line rules (stack_with bare [] v no_leaf s) line
  unfolding push_line push_in push_begin push_within nest line_of_leaf own_open own_blanks own_leaves close_open push_blanks close_leaves closed_leaves
  opens bare v s = sym (ap (push_by (λ in_a_quote owned level inner. push_within rules (marks line.text) in_a_quote owned level inner) false s v) begins)
