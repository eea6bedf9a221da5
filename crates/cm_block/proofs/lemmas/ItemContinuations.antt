-- What the spaces before the rest of a line say of an open item.
use Rattle.std.specs.Prelude.{nat_le, ◌||◌}
use Rattle.std.proofs.lemmas.Bool.Decides.{nat_tests}
use Rattle.std.proofs.Common.{◌≡◌, ℕ, ◌+◌, ◌-◌, ◌<◌, ◌≤◌, Bool, true, false, List, [], ◌++◌, replicate, sym, ◌∙◌, ap, arith}
use Rattle.cm_text.specs.Lines.{LineView}
use Rattle.cm_text.specs.Indentation.{indent_of, strip_from, strip_columns}
use Rattle.cm_text.proofs.lemmas.ViewLemmas.{indent_spaces, strip_all}
use Rattle.cm_scan.specs.Words.{is_blank_text}
use Rattle.cm_scan.specs.blocks.Lines.{is_blank}
use Rattle.cm_block.specs.steps.ContinuationViews.{begins_plain}
use Rattle.cm_block.proofs.lemmas.ContinuationLemmas.{blank_spaces}
use Rattle.cm_block.proofs.lemmas.PlainItems.{plain_indent, plain_some}

module _ (column spaces from : ℕ) (rest : List ℕ) (lazy : Bool) where
  abbrev pub line : LineView
  line = record { column = from; text = replicate spaces 32 ++ rest; lazy = lazy }

  -- the spaces reach its column
  pub spaces_reach : column ≤ spaces → (nat_le column (indent_of line) || is_blank line) ≡ true
  spaces_reach few =
      let e = indent_spaces spaces from rest in
      let h : nat_le column (indent_of line) ≡ true = grind (arith, nat_tests, e, few) in
      grind (arith, h)

  -- nothing is after them
  pub nothing_after : rest ≡ [] → (nat_le column (indent_of line) || is_blank line) ≡ true
  nothing_after none =
      let blank : is_blank line ≡ true = blank_spaces spaces rest ∙ ap is_blank_text none in
      grind (arith, blank)

  pub all_taken : rest ≡ [] → spaces ≤ column → strip_columns spaces line ≡ strip_columns column line
  all_taken none few =
      ap (λ (left : ℕ × List ℕ). record { column = left.0; text = left.1; lazy = lazy }) (
      strip_all spaces spaces from rest (omega arith)
      ∙ ap (strip_from (spaces - spaces) (from + spaces)) none
      ∙ sym (strip_all spaces column from rest few ∙ ap (strip_from (column - spaces) (from + spaces)) none)
      )

  -- something else is after them, and they don't reach it
  pub plain_after : begins_plain rest ≡ true → spaces < column → (nat_le column (indent_of line) || is_blank line) ≡ false
  plain_after plain near =
      let e = plain_indent spaces from rest plain in
      let h : nat_le column (indent_of line) ≡ false = grind (arith, nat_tests, e, near) in
      let blank = plain_some spaces rest plain in
      grind (arith, h, blank)
