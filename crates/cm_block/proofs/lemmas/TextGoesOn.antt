-- A line of text continues the open run of text, through every level.
use Rattle.std.proofs.Common.{◌≡◌, ℕ, Bool, true, false, ◌&&◌, not, List, [], ◌∷◌, ◌++◌, refl, ◌∙◌, sym, ap, ap₂, subst, arith, Option, Some, None}
use Rattle.std.specs.Prelude.{nat_le}
use Rattle.cm_text.specs.Rules.{Rules}
use Rattle.cm_text.specs.Lines.{LineView}
use Rattle.cm_text.specs.Indentation.{indent_of, strip_columns}
use Rattle.cm_text.specs.TextLines.{is_text_after}
use Rattle.cm_text.proofs.lemmas.StripLemmas.{strip_takes_columns}
use Rattle.cm_scan.specs.Words.{is_space_or_tab, is_blank_text, trim_start, skip}
use Rattle.cm_scan.specs.blocks.Lines.{is_blank, content_of, as_lazy}
use Rattle.cm_scan.specs.blocks.Starts.{Start, start_of_content, start_of, may_be_lazy, can_interrupt, interrupts_paragraph, underline_of, Continuation, StaysIfOpen, continuation_if_lazy, quote_continuation, continuation_in_quote, item_continuation, continuation_in_item}
use Rattle.cm_scan.specs.blocks.Blocks.{add_text, GoesOn, next_line}
use Rattle.cm_scan.specs.laws.PartLaws.{goes_inward}
use Rattle.cm_scan.specs.steps.LineSteps.{start_by, underline_if}
use Rattle.cm_block.specs.OpenLeaf.{no_leaf, open_text, open_code, open_fence, open_html, line_of_text, line_of_leaf}
use Rattle.cm_block.specs.Machine.{Open, in_leaf, in_quote, in_item, has_open_text}
use Rattle.cm_block.specs.Level.{Level}
use Rattle.cm_block.specs.Stack.{Owned, Stack, stack, push_after, push_to_leaf, push_in}
use Rattle.cm_block.specs.Lazy.{with_text, TextGoesOn}
use Rattle.cm_block.proofs.lemmas.TextStarts.{text-start, text-level}
use Rattle.cm_block.proofs.lemmas.StartLemmas.{content-after}
use Rattle.cm_block.proofs.lemmas.Lazy.{lazy_line}

-- a line whose content starts like this isn't blank
pub shows : (text : List ℕ) → is_text_after 0 (trim_start text) ≡ true → is_blank_text text ≡ false
unfolding skip
shows [] h = absurd (cc (h))
shows (b ∷ bs) h = go (is_space_or_tab b) refl h (λ k. shows bs k)
  where
    go : (blank : Bool) → is_space_or_tab b ≡ blank → is_text_after 0 (elim blank as (λ _. List ℕ) [ true ↦ trim_start bs | false ↦ b ∷ bs ]) ≡ true
        → (is_text_after 0 (trim_start bs) ≡ true → is_blank_text bs ≡ false) → is_blank_text (b ∷ bs) ≡ false
    go true e h rest = ap (λ v. v && is_blank_text bs) e ∙ rest h
    go false e h rest = ap (λ v. v && is_blank_text bs) e

-- starts code or text, which can't interrupt a paragraph and may be lazy

abbrev IsText : Start → Type 0
IsText start = (may_be_lazy start ≡ true) × (((line : LineView) → can_interrupt start line ≡ false) × ((rules : Rules) (line : LineView) → quote_continuation rules start line ≡ continuation_if_lazy rules line))

module _ (rules : Rules) (line : LineView) (text : is_text_after 0 (content_of line) ≡ true) where
  some : is_blank line ≡ false
  some = shows line.text text

  starts : IsText (start_of rules line)
  unfolding start_of
  starts = by-start line.lazy (nat_le 4 (indent_of line))
    where
      by-start : (lazy indented : Bool) → IsText (start_by lazy indented (start_of_content rules (content_of line)))
      by-start true indented = (refl, ((λ line. refl), (λ rules line. refl)))
      by-start false true = (refl, ((λ line. refl), (λ rules line. refl)))
      by-start false false = subst IsText (sym (text-start rules (content_of line) text)) (refl, ((λ line. refl), (λ rules line. refl)))

  underlines : underline_of line ≡ None
  unfolding underline_of
  underlines = go (not line.lazy && nat_le (indent_of line) 3)
    where
      go : (b : Bool) → underline_if b (content_of line) ≡ None
      go true = text-level (content_of line) text
      go false = refl

  interrupts : interrupts_paragraph rules line ≡ false
  unfolding interrupts_paragraph
  interrupts = starts.1.0 line

  goes-on : (source : List ℕ) → next_line rules source line ≡ GoesOn
  unfolding next_line
  goes-on source =
      let u : underline_of line ≡ None = underlines in
      let i : interrupts_paragraph rules line ≡ false = interrupts in
      let s : is_blank line ≡ false = some in
      grind (arith, u, i, s)

  lazily : continuation_if_lazy rules line ≡ StaysIfOpen (as_lazy line)
  unfolding continuation_if_lazy
  lazily =
      let m : may_be_lazy (start_of rules line) ≡ true = starts.0 in
      let s : is_blank line ≡ false = some in
      grind (arith, m, s)

  in-quote : continuation_in_quote rules line ≡ StaysIfOpen (as_lazy line)
  unfolding continuation_in_quote
  in-quote = starts.1.1 rules line ∙ lazily

-- what a line adds is its content

added : (source : List ℕ) (l m : LineView) → content_of l ≡ content_of m → add_text source l ≡ add_text source m
added [] l m e = e
added (b ∷ bs) l m e = ap (λ t. (b ∷ bs) ++ 10 ∷ t) e

with-same : (now : Open Level) (l m : LineView) → content_of l ≡ content_of m → with_text now l ≡ with_text now m
unfolding with_text
with-same (in_leaf no_leaf) l m e = refl
with-same (in_leaf (open_text source)) l m e = ap (λ t. in_leaf (open_text t)) (added source l m e)
with-same (in_leaf (open_code text lines blank_text blank_lines)) l m e = refl
with-same (in_leaf (open_fence fence columns text lines)) l m e = refl
with-same (in_leaf (open_html kind text lines)) l m e = refl
with-same (in_quote w now) l m e = ap (in_quote w) (with-same now l m e)
with-same (in_item kind column bare w now) l m e = ap (in_item kind column false w) (with-same now l m e)

content-stripped : (n : ℕ) (line : LineView) → content_of (strip_columns n line) ≡ content_of line
content-stripped n line =
    sym (content-after (strip_columns n line).text) ∙ (strip_takes_columns n line).2 ∙ content-after line.text

-- through every level
module _ (rules : Rules) where
  beyond-lazy : (line : LineView) (q : Bool) (s : Owned) (v : Level) (now : Open Level) → is_text_after 0 (content_of line) ≡ true → has_open_text now ≡ true
      → push_in rules q s v now (as_lazy line) ≡ stack v (with_text now line) s
  beyond-lazy line q s v now text open_now =
      lazy_line rules (as_lazy line) q s v now refl (shows line.text text) open_now ∙ ap (λ n. stack v n s) (with-same now (as_lazy line) line refl)

  push-text : (now : Open Level) (line : LineView) (q : Bool) (s : Owned) (v : Level) → is_text_after 0 (content_of line) ≡ true → has_open_text now ≡ true
      → push_in rules q s v now line ≡ stack v (with_text now line) s
  unfolding has_open_text push_in with_text line_of_leaf continuation_in_item
  push-text (in_leaf (open_text source)) line q s v text e =
      ap (λ n. push_to_leaf rules q s v (open_text source) line (line_of_text source line n)) (goes-on rules line text source)
  push-text (in_leaf no_leaf) line q s v text e = grind (arith, e)
  push-text (in_leaf (open_code t lines blank_text blank_lines)) line q s v text e = grind (arith, e)
  push-text (in_leaf (open_fence fence columns t lines)) line q s v text e = grind (arith, e)
  push-text (in_leaf (open_html kind t lines)) line q s v text e = grind (arith, e)
  push-text (in_quote w now) line q s v text e =
      ap pushed (ap₂ goes_inward (in-quote rules line text) e)
      ∙ ap (λ (c : Stack). stack v (in_quote c.level c.now) c.owned) (beyond-lazy line true s w now text e)
    where
      pushed : Option LineView → Stack
      pushed l = elim l as (λ _. Stack) [
        | Some inner ↦ let c = push_in rules true s w now inner in stack v (in_quote c.level c.now) c.owned
        | None ↦ push_after rules q s v (in_quote w now) line
      ]
  push-text (in_item kind column bare w now) line q s v text e =
      let inner = strip_columns column line in
      let same = content-stripped column line in
      by-continuation line.lazy (is_blank line) (nat_le column (indent_of line)) (some rules line text)
      (push-text now inner q s w (ap (is_text_after 0) same ∙ text) e ∙ ap (λ n. stack w n s) (with-same now inner line same))
    where
      pushed : Option LineView → Stack
      pushed l = elim l as (λ _. Stack) [
        | Some inner ↦ let c = push_in rules q s w now inner in stack v (in_item kind column false c.level c.now) c.owned
        | None ↦ push_after rules q s v (in_item kind column bare w now) line
      ]

      into : Stack → Stack
      into c = stack v (in_item kind column false c.level c.now) c.owned

      if-lazy : pushed (goes_inward (continuation_if_lazy rules line) (has_open_text now)) ≡ stack v (in_item kind column false w (with_text now line)) s
      if-lazy = ap pushed (ap₂ goes_inward (lazily rules line text) e) ∙ ap into (beyond-lazy line q s w now text e)

      by-continuation : (lazy blank reaches : Bool) → blank ≡ false → push_in rules q s w now (strip_columns column line) ≡ stack w (with_text now line) s
          → pushed (goes_inward (elim lazy as (λ _. Continuation) [
            | true ↦ continuation_if_lazy rules line
            | false ↦ item_continuation blank bare reaches (strip_columns column line) (continuation_if_lazy rules line)
          ]) (has_open_text now)) ≡ stack v (in_item kind column false w (with_text now line)) s
      by-continuation true blank reaches h reached = if-lazy
      by-continuation false true reaches h reached = absurd (cc (h))
      by-continuation false false true h reached = ap into reached
      by-continuation false false false h reached = if-lazy

pub text_goes_on : TextGoesOn
text_goes_on rules line q s v now text open_now = push-text rules now line q s v text open_now
