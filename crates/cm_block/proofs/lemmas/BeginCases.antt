-- What a line starts is given by the cases, with no word of how deep the calls go.
use Rattle.std.proofs.Common.{◌≡◌, ℕ, zero, suc, ◌<◌, Bool, true, false, [], refl, ap, arith, le_refl}
use Rattle.std.specs.Prelude.{⊤}
use Rattle.cm_text.specs.Rules.{Rules}
use Rattle.cm_text.specs.Lines.{LineView}
use Rattle.cm_scan.specs.blocks.Lines.{is_blank, marks}
use Rattle.cm_scan.specs.blocks.Starts.{Start, IndentedCode, QuoteMarker, AtxHeading, OpeningFence, HtmlStart, BreakLine, ItemStart, TextLine, start_of}
use Rattle.cm_scan.proofs.lemmas.blocks.LineSizes.{marks-after_quote_marker, marks-first_content}
use Rattle.cm_block.specs.OpenLeaf.{LineOpens, begins_nothing, begins_leaf, begins_quote, begins_item, begin_of_start, begin_of}
use Rattle.cm_block.specs.Machine.{Change, change, in_quote, in_item, begin_by, begin_within, begin}

-- the line after a marker, if the line starts a container, passes a test
abbrev pub OfInner : (LineView → Type 0) → LineOpens → Type 0
OfInner P (begins_quote inner) = P inner
OfInner P (begins_item kind column inner) = P inner
OfInner P _ = ⊤

-- after a marker there are fewer marks
pub inner-less : (rules : Rules) (line : LineView) → OfInner (λ inner. marks inner.text < marks line.text) (begin_of rules line)
unfolding begin_of
inner-less rules line = go (is_blank line) refl
  where
    of_start : (start : Start) → is_blank line ≡ false → OfInner (λ inner. marks inner.text < marks line.text) (begin_of_start rules start line)
    of_start IndentedCode e = tt
    of_start QuoteMarker e = marks-after_quote_marker line e
    of_start (AtxHeading h) e = tt
    of_start (OpeningFence fence) e = tt
    of_start (HtmlStart kind) e = tt
    of_start BreakLine e = tt
    of_start (ItemStart marker) e = marks-first_content marker line e
    of_start TextLine e = tt

    go : (v : Bool) → is_blank line ≡ v → OfInner (λ inner. marks inner.text < marks line.text) (elim v as (λ _. LineOpens) [ true ↦ begins_nothing | false ↦ begin_of_start rules (start_of rules line) line ])
    go true e = tt
    go false e = of_start (start_of rules line) e

-- two functions that agree on the line after the marker give the same
agree-by : (f g : LineView → Change) (b : LineOpens) → OfInner (λ inner. f inner ≡ g inner) b → begin_by f b ≡ begin_by g b
agree-by f g begins_nothing h = refl
agree-by f g (begins_leaf x) h = refl
agree-by f g (begins_quote inner) h = ap (λ (c : Change). change [] (in_quote c.closed c.now)) h
agree-by f g (begins_item kind column inner) h = ap (λ (c : Change). change [] (in_item kind column (is_blank inner) c.closed c.now)) h

-- what is said of every line with fewer marks is said of the line after the marker
pub of-less : (P Q : LineView → Type 0) → ((l : LineView) → P l → Q l) → (b : LineOpens) → OfInner P b → OfInner Q b
of-less P Q h begins_nothing p = tt
of-less P Q h (begins_leaf x) p = tt
of-less P Q h (begins_quote inner) p = h inner p
of-less P Q h (begins_item kind column inner) p = h inner p

within-agree : (rules : Rules) (n m : ℕ) (line : LineView) → marks line.text < n → marks line.text < m → begin_within rules n line ≡ begin_within rules m line
unfolding begin_within
within-agree rules zero m line h k = absurd (omega arith)
within-agree rules (suc n) zero line h k = absurd (omega arith)
within-agree rules (suc n) (suc m) line h k =
    agree-by (λ l. begin_within rules n l) (λ l. begin_within rules m l) (begin_of rules line)
    (of-less (λ l. marks l.text < marks line.text) _ (λ l less. within-agree rules n m l (omega arith) (omega arith)) (begin_of rules line) (inner-less rules line))

pub begin-cases : (rules : Rules) (line : LineView) → begin rules line ≡ begin_by (begin rules) (begin_of rules line)
unfolding begin begin_within
begin-cases rules line =
    agree-by (λ l. begin_within rules (marks line.text) l) (begin rules) (begin_of rules line)
    (of-less (λ l. marks l.text < marks line.text) _ (λ l less. within-agree rules (marks line.text) (suc (marks l.text)) l less (le_refl _)) (begin_of rules line) (inner-less rules line))
