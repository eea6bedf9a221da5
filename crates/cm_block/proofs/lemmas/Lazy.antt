-- A lazy continuation line goes to the end of the open run, through every level, unread.
use Rattle.std.proofs.Common.{◌≡◌, ℕ, Bool, true, false, List, ◌∙◌, sym, ap, ap₂, arith, Option, Some, None}
use Rattle.cm_text.specs.Rules.{Rules}
use Rattle.cm_text.specs.Lines.{LineView}
use Rattle.cm_scan.specs.blocks.Lines.{is_blank, as_lazy}
use Rattle.cm_scan.specs.blocks.Starts.{TextLine, start_of, interrupts_paragraph, underline_of, Continuation, StaysIfOpen, continuation_if_lazy, continuation_in_quote, continuation_in_item, quote_continuation}
use Rattle.cm_scan.specs.blocks.Blocks.{GoesOn, next_line}
use Rattle.cm_scan.specs.laws.PartLaws.{goes_inward}
use Rattle.cm_block.specs.OpenLeaf.{no_leaf, open_text, open_code, open_fence, open_html, line_of_text, line_of_leaf}
use Rattle.cm_block.specs.Machine.{Open, in_leaf, in_quote, in_item, has_open_text}
use Rattle.cm_block.specs.Level.{Level}
use Rattle.cm_block.specs.Stack.{Owned, Stack, stack, push_after, push_to_leaf, push_in}
use Rattle.cm_block.specs.Lazy.{with_text, LazyLine}

pub starts_text : (rules : Rules) (line : LineView) → line.lazy ≡ true → start_of rules line ≡ TextLine
unfolding start_of
starts_text rules line lazy = grind (arith, lazy)

module _ (rules : Rules) (line : LineView) (lazy : line.lazy ≡ true) (some : is_blank line ≡ false) where
  starts-text : start_of rules line ≡ TextLine
  starts-text = starts_text rules line lazy

  underlines-nothing : underline_of line ≡ None
  unfolding underline_of
  underlines-nothing = grind (arith, lazy)

  interrupts-nothing : interrupts_paragraph rules line ≡ false
  unfolding interrupts_paragraph
  interrupts-nothing = let h : start_of rules line ≡ TextLine = starts-text in grind (arith, h)

  pub goes-on : (source : List ℕ) → next_line rules source line ≡ GoesOn
  unfolding next_line
  goes-on source =
      let h : underline_of line ≡ None = underlines-nothing in
      let k : interrupts_paragraph rules line ≡ false = interrupts-nothing in
      grind (arith, h, k, some)

  continuation-lazy : continuation_if_lazy rules line ≡ StaysIfOpen line
  unfolding continuation_if_lazy
  continuation-lazy =
      let h : start_of rules line ≡ TextLine = starts-text in
      (let k : continuation_if_lazy rules line ≡ StaysIfOpen (as_lazy line) = grind (arith, h, some) in k)
      ∙ ap (λ b. StaysIfOpen (record { column = line.column; text = line.text; lazy = b })) (sym lazy)

  pub continuation-quote : continuation_in_quote rules line ≡ StaysIfOpen line
  unfolding continuation_in_quote
  continuation-quote = ap (λ start. quote_continuation rules start line) starts-text ∙ continuation-lazy

  pub continuation-item : (column : ℕ) (bare : Bool) → continuation_in_item rules column bare line ≡ StaysIfOpen line
  unfolding continuation_in_item
  continuation-item column bare = let h : continuation_if_lazy rules line ≡ StaysIfOpen line = continuation-lazy in grind (arith, lazy, h)

  inward : (p : Continuation) (b : Bool) → p ≡ StaysIfOpen line → b ≡ true → goes_inward p b ≡ Some line
  inward p b e o = ap₂ goes_inward e o

  push-lazy : (now : Open Level) (q : Bool) (s : Owned) (v : Level) → has_open_text now ≡ true → push_in rules q s v now line ≡ stack v (with_text now line) s
  unfolding has_open_text push_in with_text line_of_leaf
  push-lazy (in_leaf (open_text source)) q s v e = ap (λ n. push_to_leaf rules q s v (open_text source) line (line_of_text source line n)) (goes-on source)
  push-lazy (in_leaf no_leaf) q s v e = grind (arith, e)
  push-lazy (in_leaf (open_code text lines blank_text blank_lines)) q s v e = grind (arith, e)
  push-lazy (in_leaf (open_fence fence columns text lines)) q s v e = grind (arith, e)
  push-lazy (in_leaf (open_html kind text lines)) q s v e = grind (arith, e)
  push-lazy (in_quote w now) q s v e =
      ap pushed (inward (continuation_in_quote rules line) (has_open_text now) continuation-quote e)
      ∙ ap (λ (c : Stack). stack v (in_quote c.level c.now) c.owned) (push-lazy now true s w e)
    where
      pushed : Option LineView → Stack
      pushed l = elim l as (λ _. Stack) [
        | Some inner ↦ let c = push_in rules true s w now inner in stack v (in_quote c.level c.now) c.owned
        | None ↦ push_after rules q s v (in_quote w now) line
      ]
  push-lazy (in_item kind column bare w now) q s v e =
      ap pushed (inward (continuation_in_item rules column bare line) (has_open_text now) (continuation-item column bare) e)
      ∙ ap (λ (c : Stack). stack v (in_item kind column false c.level c.now) c.owned) (push-lazy now q s w e)
    where
      pushed : Option LineView → Stack
      pushed l = elim l as (λ _. Stack) [
        | Some inner ↦ let c = push_in rules q s w now inner in stack v (in_item kind column false c.level c.now) c.owned
        | None ↦ push_after rules q s v (in_item kind column bare w now) line
      ]

pub lazy_line : LazyLine
lazy_line rules line q s v now lazy some open_now = push-lazy rules line lazy some now q s v open_now
