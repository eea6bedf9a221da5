-- What is left of a line in containers is an end of it, indentation aside.
use Rattle.std.proofs.Common.{◌≡◌, ℕ, Bool, true, false, not, ◌&&◌, ◌||◌, ◌==◌, List, [], ◌∷◌, drop, refl, sym, ◌∙◌}
use Rattle.std.specs.Prelude.{nat_le}
use Rattle.cm_text.specs.Rules.{Rules}
use Rattle.cm_text.specs.Lines.{LineView}
use Rattle.cm_text.specs.Indentation.{indent_of, strip_columns, after_indent}
use Rattle.cm_text.proofs.lemmas.StripLemmas.{strip_takes_columns}
use Rattle.cm_scan.specs.Words.{is_space_or_tab, skip, trim_start}
use Rattle.cm_scan.specs.blocks.Lines.{is_blank, content_of, past, as_lazy}
use Rattle.cm_scan.specs.blocks.LineForms.{marker_width}
use Rattle.cm_scan.specs.blocks.Starts.{Start, QuoteMarker, IndentedCode, AtxHeading, OpeningFence, HtmlStart, BreakLine, ItemStart, TextLine, start_of, Continuation, StaysIfOpen, Leaves, may_be_lazy, continuation_if_lazy, after_quote_marker, quote_continuation, continuation_in_quote, after_marker, content_offset, first_content, item_continuation, continuation_in_item}
use Rattle.cm_scan.specs.laws.BlockLaws.{EndsLine, EndsIfInside, ContentEndsText, QuotedEndsLine, StayingInQuoteEndsLine, ListedEndsLine, StayingInItemEndsLine}
use Rattle.cm_scan.proofs.lemmas.texts.EndsOfTexts.{same-left, end-of-end, skip-end, drop-end}

-- columns are taken of the indentation alone
content-after : (text : List ℕ) → after_indent text ≡ trim_start text
unfolding skip
content-after [] = refl
content-after (b ∷ bs) = go (b == 32 || b == 9) (content-after bs)
  where
    go : (v : Bool) → after_indent bs ≡ trim_start bs
        → elim v as (λ _. List ℕ) [ true ↦ after_indent bs | false ↦ b ∷ bs ] ≡ elim v as (λ _. List ℕ)
        [ true ↦ trim_start bs | false ↦ b ∷ bs ]
    go true e = e
    go false e = refl

content-stripped : (n : ℕ) (line : LineView) → content_of (strip_columns n line) ≡ content_of line
content-stripped n line = sym (content-after (strip_columns n line).text) ∙ (strip_takes_columns n line).2 ∙ content-after line.text

stripped-ends : (n : ℕ) (line : LineView) → EndsLine (strip_columns n line) line
stripped-ends n line = ([], sym (content-stripped n line))

past-ends : (n m : ℕ) (line : LineView) → EndsLine (strip_columns n (past m line)) line
unfolding past
past-ends n m line =
    let dropped = drop m (content_of line) in
    let end = same-left (trim_start dropped) (content_of (strip_columns n (past m line))) (sym (content-stripped n (past m line)))
    (end-of-end (drop-end m (content_of line)) (skip-end is_space_or_tab dropped)) in
    (end.front, end.is)

pub content_ends_text : ContentEndsText
content_ends_text line = let end = skip-end is_space_or_tab line.text in (end.front, end.is)

pub quoted_ends_line : QuotedEndsLine
unfolding after_quote_marker
quoted_ends_line line = past-ends 1 1 line

pub listed_ends_line : ListedEndsLine
unfolding first_content
listed_ends_line marker line = past-ends (content_offset (after_marker marker line)) (marker_width marker) line

lazy-ends : (rules : Rules) (line : LineView) → EndsIfInside (continuation_if_lazy rules line) line
unfolding continuation_if_lazy
lazy-ends rules line = go (not (is_blank line) && may_be_lazy (start_of rules line))
  where
    go : (v : Bool) → EndsIfInside (elim v as (λ _. Continuation) [ true ↦ StaysIfOpen (as_lazy line) | false ↦ Leaves ]) line
    go true = ([], refl)
    go false = tt

pub staying_in_quote_ends_line : StayingInQuoteEndsLine
unfolding continuation_in_quote
staying_in_quote_ends_line rules line = go (start_of rules line)
  where
    go : (s : Start) → EndsIfInside (quote_continuation rules s line) line
    go QuoteMarker = quoted_ends_line line
    go IndentedCode = lazy-ends rules line
    go (AtxHeading heading) = lazy-ends rules line
    go (OpeningFence fence) = lazy-ends rules line
    go (HtmlStart kind) = lazy-ends rules line
    go BreakLine = lazy-ends rules line
    go (ItemStart marker) = lazy-ends rules line
    go TextLine = lazy-ends rules line

pub staying_in_item_ends_line : StayingInItemEndsLine
unfolding continuation_in_item
staying_in_item_ends_line rules column bare line = go line.lazy
  where
    by : (blank bare reaches : Bool)
        → EndsIfInside (item_continuation blank bare reaches (strip_columns column line) (continuation_if_lazy rules line)) line
    by true true reaches = tt
    by true false reaches = stripped-ends column line
    by false bare true = stripped-ends column line
    by false bare false = lazy-ends rules line

    go : (v : Bool) → EndsIfInside (elim v as (λ _. Continuation) [
      | true ↦ continuation_if_lazy rules line
      | false ↦ item_continuation (is_blank line) bare (nat_le column (indent_of line)) (strip_columns column line)
          (continuation_if_lazy rules line)
    ]) line
    go true = lazy-ends rules line
    go false = by (is_blank line) bare (nat_le column (indent_of line))
