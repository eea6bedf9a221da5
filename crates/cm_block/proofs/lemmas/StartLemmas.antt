-- What a line starts, by what each scanner returns.
use Rattle.std.proofs.Common.{◌≡◌, ℕ, length, drop, get_or, subst, ◌<◌, ◌≤◌, Bool, true, false, ◌==◌, ◌&&◌, ◌||◌, not, None, Some, List, [], ◌∷◌, ◌++◌, replicate, Option, refl, ◌∙◌, sym, ap, arith}
use Rattle.cm_text.specs.Lines.{LineView}
use Rattle.cm_text.specs.TextLines.{is_text_after}
use Rattle.cm_block.specs.steps.StartViews.{begins_break, begins_fence}
use Rattle.cm_block.proofs.lemmas.TextStarts.{text-start, text-level, text-shows}
use Rattle.cm_text.specs.Indentation.{indent_from, indent_of, strip_columns, after_indent}
use Rattle.cm_text.specs.Views.{seen_view}
use Rattle.cm_text.specs.declared.view.View.{View}
use Rattle.cm_text.proofs.lemmas.StripLemmas.{strip_takes_columns}
use Rattle.cm_scan.specs.blocks.Lines.{is_blank, content_of}
use Rattle.cm_scan.specs.laws.BlockLaws.{is_unindented}
use Rattle.cm_scan.proofs.lemmas.blocks.SingleBlocks.{unindented_line}
use Rattle.std.specs.Option.{is_some, option_map}
use Rattle.std.specs.Char.{is_ascii_digit}
use Rattle.cm_text.specs.Rules.{Rules}
use Rattle.cm_scan.specs.Words.{begins_with, given, ◌<|>◌, skip, front_of, run_length, trim_start, is_blank_text}
use Rattle.cm_scan.specs.blocks.LineForms.{Heading, Fence, ItemMarker, is_thematic_break, atx_heading, opening_fence, fence_of, item_marker, bullet_marker, ordered_marker, marker_after}
use Rattle.cm_scan.specs.blocks.HtmlBlocks.{HtmlKind, html_start}
use Rattle.cm_scan.proofs.lemmas.texts.ToldApart.{differs}
use Rattle.std.proofs.lemmas.Bool.Decides.{nat_tests}
use Rattle.cm_scan.proofs.lemmas.blocks.QuietStarts.{no-heading, no-fence, no-html-start, no-bullet, no-number, no-break}
use Rattle.std.proofs.lemmas.Bool.{and_parts, eqb-true, ne_eqb}
use Rattle.cm_scan.specs.blocks.Starts.{Start, IndentedCode, QuoteMarker, AtxHeading, OpeningFence, HtmlStart, BreakLine, ItemStart, TextLine, or_text, start_of_content, start_of, underline_of}

-- the first of these that is there
abbrev pub first : Bool → Option Heading → Option Fence → Option HtmlKind → Bool → Option ItemMarker → Start
first quote heading fence kind break_line marker = or_text (
    given quote QuoteMarker
    <|> option_map AtxHeading heading
    <|> option_map OpeningFence fence
    <|> option_map HtmlStart kind
    <|> given break_line BreakLine
    <|> option_map ItemStart marker)

module _ (rules : Rules) where
  pub first_is : (text : List ℕ) (quote : Bool) (heading : Option Heading) (fence : Option Fence) (kind : Option HtmlKind) (break_line : Bool) (marker : Option ItemMarker)
      → begins_with 62 text ≡ quote → atx_heading text ≡ heading → opening_fence text ≡ fence → html_start rules text ≡ kind
      → is_thematic_break text ≡ break_line → item_marker text ≡ marker → first quote heading fence kind break_line marker ≡ start_of_content rules text
  unfolding start_of_content
  first_is text quote heading fence kind break_line marker q h f k b m =
      sym (λ i. first (q i) (h i) (f i) (k i) (b i) (m i))

-- ---- by its first byte

pub no-item : (b : ℕ) (bs : List ℕ) → (b == 45) ≡ false → (b == 43) ≡ false → (b == 42) ≡ false → is_ascii_digit b ≡ false → item_marker (b ∷ bs) ≡ None
unfolding item_marker
no-item b bs d p s n = rw (no-bullet b bs d p s, no-number b bs n) refl

-- a byte that starts neither a quote, a heading, a fence, HTML nor a break
abbrev pub begins_item : ℕ → Bool
begins_item b = not (b == 62 || b == 35 || b == 60 || begins_break b || begins_fence b)

module _ (rules : Rules) where
  pub starts-none : TextLine ≡ start_of_content rules []
  unfolding start_of_content atx_heading opening_fence fence_of html_start item_marker bullet_marker ordered_marker marker_after is_thematic_break run_length skip front_of
  starts-none = refl

  pub starts-quote : (bs : List ℕ) → QuoteMarker ≡ start_of_content rules (62 ∷ bs)
  unfolding start_of_content
  starts-quote bs = refl

  pub starts-heading : (bs : List ℕ) → or_text (option_map AtxHeading (atx_heading (35 ∷ bs))) ≡ start_of_content rules (35 ∷ bs)
  starts-heading bs =
      let h = atx_heading (35 ∷ bs) in
      alone h ∙ first_is rules (35 ∷ bs) false h None None false None refl refl (no-fence 35 bs refl refl) (no-html-start rules 35 bs refl)
      (no-break 35 bs refl refl refl refl refl) (no-item 35 bs refl refl refl refl)
    where
      alone : (h : Option Heading) → or_text (option_map AtxHeading h) ≡ first false h None None false None
      alone None = refl
      alone (Some h) = refl

  pub starts-fence : (b : ℕ) (bs : List ℕ) → begins_fence b ≡ true → or_text (option_map OpeningFence (opening_fence (b ∷ bs))) ≡ start_of_content rules (b ∷ bs)
  starts-fence b bs is =
      let other : (c : ℕ) → begins_fence c ≡ false → (b == c) ≡ false = λ c. differs begins_fence b c is in
      let digit : is_ascii_digit b ≡ false = grind (arith, nat_tests, is) in
      let f = opening_fence (b ∷ bs) in
      alone f ∙ first_is rules (b ∷ bs) false None f None false None (other 62 refl) (no-heading b bs (other 35 refl)) refl (no-html-start rules b bs (other 60 refl))
      (no-break b bs (other 45 refl) (other 95 refl) (other 42 refl) (other 32 refl) (other 9 refl)) (no-item b bs (other 45 refl) (other 43 refl) (other 42 refl) digit)
    where
      alone : (f : Option Fence) → or_text (option_map OpeningFence f) ≡ first false None f None false None
      alone None = refl
      alone (Some f) = refl

  pub starts-html : (bs : List ℕ) → or_text (option_map HtmlStart (html_start rules (60 ∷ bs))) ≡ start_of_content rules (60 ∷ bs)
  starts-html bs =
      let k = html_start rules (60 ∷ bs) in
      alone k ∙ first_is rules (60 ∷ bs) false None None k false None refl (no-heading 60 bs refl) (no-fence 60 bs refl refl) refl
      (no-break 60 bs refl refl refl refl refl) (no-item 60 bs refl refl refl refl)
    where
      alone : (k : Option HtmlKind) → or_text (option_map HtmlStart k) ≡ first false None None k false None
      alone None = refl
      alone (Some k) = refl

  pub starts-break : (b : ℕ) (bs : List ℕ) → begins_break b ≡ true
      → or_text (given (is_thematic_break (b ∷ bs)) BreakLine <|> option_map ItemStart (item_marker (b ∷ bs))) ≡ start_of_content rules (b ∷ bs)
  starts-break b bs is =
      let other : (c : ℕ) → begins_break c ≡ false → (b == c) ≡ false = λ c. differs begins_break b c is in
      first_is rules (b ∷ bs) false None None None (is_thematic_break (b ∷ bs)) (item_marker (b ∷ bs)) (other 62 refl) (no-heading b bs (other 35 refl))
      (no-fence b bs (other 96 refl) (other 126 refl)) (no-html-start rules b bs (other 60 refl)) refl refl

  pub starts-item : (b : ℕ) (bs : List ℕ) → begins_item b ≡ true → or_text (option_map ItemStart (item_marker (b ∷ bs))) ≡ start_of_content rules (b ∷ bs)
  starts-item b bs is =
      let other : (c : ℕ) → begins_item c ≡ false → (b == c) ≡ false = λ c. differs begins_item b c is in
      first_is rules (b ∷ bs) false None None None false (item_marker (b ∷ bs)) (other 62 refl) (no-heading b bs (other 35 refl))
      (no-fence b bs (other 96 refl) (other 126 refl)) (no-html-start rules b bs (other 60 refl))
      (no-break b bs (other 45 refl) (other 95 refl) (other 42 refl) (other 32 refl) (other 9 refl)) refl

pub item-byte : (b : ℕ) → (b ≡ 62 → ⊥) → (b ≡ 35 → ⊥) → (b ≡ 60 → ⊥) → begins_break b ≡ false → begins_fence b ≡ false → begins_item b ≡ true
item-byte b q h l d f = rw (ne_eqb b 62 q, ne_eqb b 35 h, ne_eqb b 60 l, d, f) refl

-- what holds of a text by its first byte
pub in-front : (P : List ℕ → Type 0) (bytes text : List ℕ) → bytes ≡ text → (length bytes == 0) ≡ false → (b : ℕ) → get_or bytes 0 0 ≡ b → P (b ∷ drop 1 bytes) → P text
in-front P [] text e some b is holds = absurd (cc (some))
in-front P (c ∷ cs) text e some b is holds = subst P (ap (λ x. x ∷ cs) (sym is) ∙ e) holds

-- no byte
pub in-none : (P : List ℕ → Type 0) (bytes text : List ℕ) → bytes ≡ text → (length bytes == 0) ≡ true → P [] → P text
in-none P [] text e none holds = subst P e holds
in-none P (c ∷ cs) text e none holds = absurd (omega (arith, eqb-true (length (c ∷ cs)) 0 none))

-- a scanner that only returns a place

pub is_there : (there : Bool) (place : ℕ) (read : Option ℕ) → read ≡ given there place → true ≡ is_some read → there ≡ true
is_there true place read e h = refl
is_there false place read e h = grind (arith, e, h)

pub is_not_there : (there : Bool) (place : ℕ) (read : Option ℕ) → read ≡ given there place → false ≡ is_some read → there ≡ false
is_not_there true place read e h = grind (arith, e, h)
is_not_there false place read e h = refl

-- by the line's mark and its indentation

module _ (rules : Rules) where
  pub starts_lazy : (line : LineView) → line.lazy ≡ true → TextLine ≡ start_of rules line
  unfolding start_of
  starts_lazy line lazy = grind (arith, lazy)

  pub starts_code : (line : LineView) → line.lazy ≡ false → 4 ≤ indent_of line → IndentedCode ≡ start_of rules line
  unfolding start_of
  starts_code line lazy far = grind (arith, lazy, far)

  pub starts_content : (line : LineView) → line.lazy ≡ false → indent_of line < 4 → start_of_content rules (content_of line) ≡ start_of rules line
  unfolding start_of
  starts_content line lazy near = grind (arith, lazy, near)

-- a line without its indentation has its content left

pub content-after : (text : List ℕ) → after_indent text ≡ trim_start text
unfolding skip
content-after [] = refl
content-after (b ∷ bs) = let h : after_indent bs ≡ trim_start bs = content-after bs in grind (arith, h)

no_indent : (column : ℕ) (text : List ℕ) → indent_from column text ≡ 0 → after_indent text ≡ text
no_indent column [] e = refl
no_indent column (b ∷ bs) e = grind (arith, e)

pub content_left : (line : LineView) (n : ℕ) (view : View) → n ≡ indent_of line → seen_view view ≡ strip_columns n line → view.spaces ≡ 0 → view.rest.now ≡ content_of line
content_left line n view all left none =
    let text : replicate view.spaces 32 ++ view.rest.now ≡ (strip_columns n line).text = ap (λ (l : LineView). l.text) left in
    let bare : view.rest.now ≡ (strip_columns n line).text = rw none at text in
    let law = strip_takes_columns n line in
    let nothing : indent_of (strip_columns n line) ≡ 0 = omega (arith, law.1, all) in
    bare ∙ sym (no_indent _ (strip_columns n line).text nothing) ∙ law.2 ∙ content-after line.text

module _ (rules : Rules) where
  pub starts_near : (line : LineView) (n : ℕ) (view : View) → line.lazy ≡ false → n ≡ indent_of line → n < 4 → seen_view view ≡ strip_columns n line → view.spaces ≡ 0
      → start_of_content rules view.rest.now ≡ start_of rules line
  starts_near line n view lazy all near left none =
      ap (start_of_content rules) (content_left line n view all left none) ∙ starts_content _ line lazy (omega (arith, all, near))

-- a line that begins as text, without indentation

unindented-text : (text : List ℕ) → is_text_after 0 text ≡ true → is_unindented text ≡ true
unindented-text [] h = h
unindented-text (b ∷ bs) h = ap not (text-shows b h)

module _ (view : View) (begins : ((view.spaces == 0) && is_text_after 0 view.rest.now) ≡ true) where
  at-text : is_text_after 0 (seen_view view).text ≡ true
  at-text =
      let parts = and_parts (view.spaces == 0) (is_text_after 0 view.rest.now) begins in
      ap (λ n. is_text_after 0 (replicate n 32 ++ view.rest.now)) (eqb-true view.spaces 0 parts.0) ∙ parts.1

  pub text_shows : is_blank (seen_view view) ≡ false
  text_shows = go (seen_view view).text at-text
    where
      go : (text : List ℕ) → is_text_after 0 text ≡ true → is_blank_text text ≡ false
      go [] h = absurd (cc (h))
      go (b ∷ bs) h = ap (λ v. v && is_blank_text bs) (text-shows b h)

  unindented : is_unindented (seen_view view).text ≡ true
  unindented = unindented-text (seen_view view).text at-text

  pub text_starts : (rules : Rules) → start_of rules (seen_view view) ≡ TextLine
  text_starts rules = go view.lazy refl
    where
      go : (lazy : Bool) → view.lazy ≡ lazy → start_of rules (seen_view view) ≡ TextLine
      go true lazy = sym (starts_lazy rules (seen_view view) lazy)
      go false eager = (unindented_line rules (seen_view view) eager unindented).start ∙ text-start rules (seen_view view).text at-text

  pub text_underlines : view.lazy ≡ false → underline_of (seen_view view) ≡ None
  text_underlines eager =
      (unindented_line (record { older = false; strike = false; raw_html = true; any_address = true }) (seen_view view) eager unindented).level
      ∙ text-level (seen_view view).text at-text
