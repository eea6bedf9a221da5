-- An empty line, where each open container is an item: it stays in all of them.
use Rattle.std.proofs.Common.{◌≡◌, ℕ, suc, Bool, true, false, ◌&&◌, List, [], ◌∷◌, length, Some, None, refl, ◌∙◌, sym, ap, ap₂, arith}
use Rattle.cm_text.specs.Rules.{Rules}
use Rattle.cm_text.specs.Lines.{LineView}
use Rattle.cm_scan.specs.blocks.Lines.{is_blank}
use Rattle.cm_scan.specs.blocks.Starts.{Stays, continuation_in_item}
use Rattle.cm_scan.specs.laws.PartLaws.{goes_inward}
use Rattle.cm_block.specs.OpenLeaf.{OpenLeaf, no_leaf, open_text, open_code, open_fence, open_html, is_open_text, line_of_text, line_of_leaf}
use Rattle.cm_block.specs.Machine.{in_leaf}
use Rattle.cm_block.specs.Level.{Level}
use Rattle.cm_block.specs.Stack.{Owned, close_open, own_open, push_line}
use Rattle.cm_block.specs.Frames.{Container, a_quote, an_item, Frame, is_last, stack_with}
use Rattle.cm_block.specs.steps.FrameSteps.{inward, matching, quoted_in, quoted_by}
use Rattle.cm_block.specs.steps.FrameStarts.{begun_in, blank_in}
use Rattle.cm_block.specs.steps.ParserSteps.{ends_at_blank}
use Rattle.cm_block.proofs.lemmas.Matching.{quoted_true, all_stay}
use Rattle.cm_block.proofs.lemmas.NextLineLemmas.{ends_blank}
use Rattle.cm_block.proofs.lemmas.OpenedInTurn.{blank_next}
use Rattle.cm_block.proofs.lemmas.ParserLemmas.{pushed_no_leaf}

-- the first of containers that are no quotes
item_first : (c : Container) (fs : List Frame) → quoted_by (quoted_in c false) fs ≡ false → quoted_in c false ≡ false
item_first a_quote fs e = absurd (cc (e, quoted_true fs))
item_first (an_item kind column) fs e = refl

module _ (rules : Rules) (line : LineView) (none : line.text ≡ []) (eager : line.lazy ≡ false) where
  pub blank : is_blank line ≡ true
  blank = ap (λ t. is_blank (record { column = 0; text = t; lazy = false })) none

  stays : (column : ℕ) → continuation_in_item rules column false line ≡ Stays line
  unfolding continuation_in_item
  stays column = grind (arith, none, eager)

  enters : (c : Container) (f : Bool) (run : Bool) → quoted_in c false ≡ false → inward rules c (false && f) run line ≡ Some line
  unfolding inward
  enters a_quote f run e = absurd (cc (e))
  enters (an_item kind column) f run e = ap (λ k. goes_inward k run) (stays column)

  pub matches_all : (run : Bool) (fs : List Frame) → quoted_by false fs ≡ false → (length fs, line) ≡ matching rules false run fs line
  unfolding matching quoted_by
  matches_all run [] e = refl
  matches_all run (f ∷ fs) e =
      let item : quoted_in f.container false ≡ false = item_first f.container fs e in
      let inside : (length fs, line) ≡ matching rules false run fs line = matches_all run fs (ap (λ q. quoted_by q fs) (sym item) ∙ e) in
      ap (λ (k : ℕ × LineView). (suc k.0, k.1)) inside
      ∙ ap (λ o. elim o as (λ _. ℕ × LineView) [ Some inner ↦ let k = matching rules false run fs inner in (suc k.0, k.1) | None ↦ (0, line) ]) (sym (enters f.container (is_last fs) run item))

  leaves : (x : OpenLeaf) → ends_at_blank x ≡ true → line_of_leaf rules x line ≡ None
  unfolding line_of_leaf
  leaves no_leaf e = refl
  leaves (open_text source) e = ap (line_of_text source line) (sym (ends_blank rules source line blank))
  leaves (open_code text lines blank_text blank_lines) e = absurd (cc (e))
  leaves (open_fence fence columns text lines) e = absurd (cc (e))
  leaves (open_html kind text lines) e = absurd (cc (e))

  -- the open leaf is closed, and the line is blank in the innermost container
  pub empty_pushes : (fs gs : List Frame) (v w : Level) (x : OpenLeaf) (s t : Owned) → quoted_by false fs ≡ false → ends_at_blank x ≡ true → gs ≡ fs
      → w ≡ close_open v (in_leaf x) → t ≡ own_open (quoted_by false fs) s (in_leaf x)
      → blank_in false gs w t ≡ push_line rules (stack_with false fs v x s) line
  empty_pushes fs gs v w x s t items leaf same level owned =
      ap₂ (λ hs u. blank_in false hs u t) same level
      ∙ ap (blank_in false fs (close_open v (in_leaf x))) owned
      ∙ sym (pushed_no_leaf rules false fs v x s line (length fs, line) (matches_all (is_open_text x) fs items) refl (leaves x leaf)
      ∙ sym (ap₂ (λ hs u. begun_in rules hs u line (own_open (quoted_by false fs) s (in_leaf x))) (all_stay (length fs) fs (close_open v (in_leaf x)) refl).0 (all_stay (length fs) fs (close_open v (in_leaf x)) refl).1)
      ∙ blank_next rules fs (close_open v (in_leaf x)) line (own_open (quoted_by false fs) s (in_leaf x)) blank)
