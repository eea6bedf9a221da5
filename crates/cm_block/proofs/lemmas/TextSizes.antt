-- How many bytes the texts of leaves have: at most those of their lines, with two more for each tab and one for each line.
use Rattle.std.proofs.Common.{◌≡◌, ℕ, zero, suc, ◌+◌, ◌-◌, ◌*◌, ◌≤◌, ◌<◌, ◌==◌, Bool, true, false, List, [], ◌∷◌, ◌++◌, length, drop, refl, sym, ap, subst, ◌∙◌, arith, le_refl, Option, Some, None, length-append}
use Rattle.std.specs.Prelude.{⊤, replicate, if◌then◌else◌, nat_le}
use Rattle.std.specs.List.{flat_map}
use Rattle.cm_text.specs.Rules.{Rules}
use Rattle.cm_text.specs.Lines.{LineView}
use Rattle.cm_text.specs.Indentation.{blank_width, tab_width, strip_from, strip_columns, indent_of}
use Rattle.cm_scan.specs.Words.{is_space_or_tab, skip, trim_start}
use Rattle.cm_scan.specs.blocks.Lines.{is_blank, past, content_of, with_ending}
use Rattle.cm_scan.specs.blocks.LineForms.{Fence, ItemMarker}
use Rattle.cm_scan.specs.blocks.HtmlBlocks.{HtmlKind}
use Rattle.cm_scan.specs.blocks.Parts.{Parts}
use Rattle.cm_scan.specs.blocks.Starts.{Start, IndentedCode, QuoteMarker, AtxHeading, OpeningFence, HtmlStart, BreakLine, ItemStart, TextLine, start_of, item_continuation, Continuation, Stays, StaysIfOpen, Leaves, continuation_if_lazy, after_quote_marker, quote_continuation, continuation_in_quote, content_offset, after_marker, first_content, continuation_in_item}
use Rattle.cm_scan.proofs.lemmas.blocks.LineSizes.{by_continuation}
use Rattle.cm_scan.specs.blocks.Blocks.{add_text, text_run, fenced, html_to_end, html_to_blank, html_lines, code_line, indented, Inside, inside, is_bare}

-- a tab that is cut leaves up to three spaces
abbrev pub byte_weight : ℕ → ℕ
byte_weight b = if b == 9 then 3 else 1

-- what a text may become once some columns of its indentation are taken
unfoldable pub weight : List ℕ → ℕ
weight [] = 0
weight (b ∷ bs) = byte_weight b + weight bs

pub weight-length : (bs : List ℕ) → length bs ≤ weight bs
unfolding weight
weight-length [] = le_refl _
weight-length (b ∷ bs) =
    let h : length bs ≤ weight bs = weight-length bs in
    grind (arith, h)

weight-drop : (n : ℕ) (bs : List ℕ) → weight (drop n bs) ≤ weight bs
unfolding weight
weight-drop zero bs = le_refl _
weight-drop (suc n) [] = le_refl _
weight-drop (suc n) (b ∷ bs) =
    let h : weight (drop n bs) ≤ weight bs = weight-drop n bs in
    omega (arith, h)

weight-skip : (test : ℕ → Bool) (bs : List ℕ) → weight (skip test bs) ≤ weight bs
unfolding weight skip
weight-skip test [] = le_refl _
weight-skip test (b ∷ bs) =
    let h : weight (skip test bs) ≤ weight bs = weight-skip test bs in
    grind (arith, h)

weight-spaces : (n : ℕ) (bs : List ℕ) → weight (replicate n 32 ++ bs) ≡ n + weight bs
unfolding weight
weight-spaces zero bs = omega arith
weight-spaces (suc n) bs =
    let h : weight (replicate n 32 ++ bs) ≡ n + weight bs = weight-spaces n bs in
    omega (arith, h)

weight-strip_from : (n column : ℕ) (bs : List ℕ) → weight (strip_from n column bs).1 ≤ weight bs
unfolding weight
weight-strip_from n column [] = le_refl _
weight-strip_from n column (b ∷ bs) =
    let width = blank_width column b in
    let h : weight (strip_from (n - width) (column + width) bs).1 ≤ weight bs = weight-strip_from (n - width) (column + width) bs in
    let k : weight (replicate (width - n) 32 ++ bs) ≡ (width - n) + weight bs = weight-spaces (width - n) bs in
    let w : tab_width column ≤ 4 = omega arith in
    grind (arith, h, k, w)

pub weight-strip : (n : ℕ) (line : LineView) → weight (strip_columns n line).text ≤ weight line.text
weight-strip n line = weight-strip_from n line.column line.text

pub weight-content : (line : LineView) → weight (content_of line) ≤ weight line.text
weight-content line = weight-skip is_space_or_tab line.text

weight-past : (n : ℕ) (line : LineView) → weight (past n line).text ≤ weight line.text
unfolding past
weight-past n line = omega (arith, weight-drop n (trim_start line.text), weight-skip is_space_or_tab line.text)

pub weight-after_quote_marker : (line : LineView) → weight (after_quote_marker line).text ≤ weight line.text
unfolding after_quote_marker
weight-after_quote_marker line = omega (arith, weight-strip 1 (past 1 line), weight-past 1 line)

pub weight-first_content : (marker : ItemMarker) (line : LineView) → weight (first_content marker line).text ≤ weight line.text
unfolding first_content
weight-first_content marker line =
    omega (arith, weight-strip (content_offset (after_marker marker line)) (after_marker marker line), weight-past (suc marker.digits) line)

-- a line that stays goes inward with no more
abbrev pub Lighter : LineView → Continuation → Type 0
Lighter line (Stays inner) = weight inner.text ≤ weight line.text
Lighter line (StaysIfOpen inner) = weight inner.text ≤ weight line.text
Lighter line Leaves = ⊤

-- lines, each with its line feed
unfoldable pub weight_of : List LineView → ℕ
weight_of [] = 0
weight_of (line ∷ lines) = suc (weight line.text + weight_of lines)

weight_of-append : (ks ls : List LineView) → weight_of (ks ++ ls) ≡ weight_of ks + weight_of ls
unfolding weight_of
weight_of-append [] ls = omega arith
weight_of-append (k ∷ ks) ls = omega (arith, weight_of-append ks ls)

ended-length : (line : LineView) → length (with_ending line) ≤ suc (weight line.text)
ended-length line = omega (arith, length-append line.text (10 ∷ []), weight-length line.text)

pub code-length : (n : ℕ) (line : LineView) → length (with_ending (strip_columns n line)) ≤ suc (weight line.text)
code-length n line = omega (arith, ended-length (strip_columns n line), weight-strip n line)

added-length : (source : List ℕ) (line : LineView) → length (add_text source line) ≤ length source + suc (weight line.text)
added-length [] line = omega (arith, weight-length (content_of line), weight-content line)
added-length (b ∷ bs) line =
    omega (arith, length-append (b ∷ bs) (10 ∷ content_of line), weight-length (content_of line), weight-content line)

pub run-size : (rules : Rules) (source : List ℕ) (lines : List LineView)
    → length (text_run rules source lines).source + weight_of (text_run rules source lines).following ≤ length source + weight_of lines
unfolding text_run weight_of
run-size rules source [] = le_refl _
run-size rules source (line ∷ lines) =
    let h : length (text_run rules (add_text source line) lines).source + weight_of (text_run rules (add_text source line) lines).following
    ≤ length (add_text source line) + weight_of lines
    = run-size rules (add_text source line) lines in
    let more : length (add_text source line) ≤ length source + suc (weight line.text) = added-length source line in
    grind (arith, h, more)

pub fenced-size : (fence : Fence) (columns : ℕ) (text : List ℕ) (n : ℕ) (lines : List LineView)
    → length (fenced fence columns text n lines).text + weight_of (fenced fence columns text n lines).following ≤ length text + weight_of lines
unfolding fenced weight_of
fenced-size fence columns text n [] = le_refl _
fenced-size fence columns text n (line ∷ lines) =
    let longer = text ++ with_ending (strip_columns columns line) in
    let h : length (fenced fence columns longer (suc n) lines).text + weight_of (fenced fence columns longer (suc n) lines).following ≤ length longer + weight_of lines
    = fenced-size fence columns longer (suc n) lines in
    let more : length longer ≡ length text + length (with_ending (strip_columns columns line)) = length-append text (with_ending (strip_columns columns line)) in
    let one : length (with_ending (strip_columns columns line)) ≤ suc (weight line.text) = code-length columns line in
    grind (arith, h, more, one)

html-to_end : (kind : HtmlKind) (text : List ℕ) (n : ℕ) (lines : List LineView)
    → length (html_to_end kind text n lines).text + weight_of (html_to_end kind text n lines).following ≤ length text + weight_of lines
unfolding html_to_end weight_of
html-to_end kind text n [] = le_refl _
html-to_end kind text n (line ∷ lines) =
    let longer = text ++ with_ending line in
    let h : length (html_to_end kind longer (suc n) lines).text + weight_of (html_to_end kind longer (suc n) lines).following ≤ length longer + weight_of lines
    = html-to_end kind longer (suc n) lines in
    let more : length longer ≡ length text + length (with_ending line) = length-append text (with_ending line) in
    let one : length (with_ending line) ≤ suc (weight line.text) = ended-length line in
    grind (arith, h, more, one)

html-to_blank : (text : List ℕ) (n : ℕ) (lines : List LineView)
    → length (html_to_blank text n lines).text + weight_of (html_to_blank text n lines).following ≤ length text + weight_of lines
unfolding html_to_blank weight_of
html-to_blank text n [] = le_refl _
html-to_blank text n (line ∷ lines) =
    let longer = text ++ with_ending line in
    let h : length (html_to_blank longer (suc n) lines).text + weight_of (html_to_blank longer (suc n) lines).following ≤ length longer + weight_of lines
    = html-to_blank longer (suc n) lines in
    let more : length longer ≡ length text + length (with_ending line) = length-append text (with_ending line) in
    let one : length (with_ending line) ≤ suc (weight line.text) = ended-length line in
    grind (arith, h, more, one)

pub html-size : (kind : HtmlKind) (lines : List LineView)
    → length (html_lines kind lines).text + weight_of (html_lines kind lines).following ≤ weight_of lines
unfolding html_lines
html-size kind lines =
    let h : length (html_to_end kind [] 0 lines).text + weight_of (html_to_end kind [] 0 lines).following ≤ 0 + weight_of lines = html-to_end kind [] 0 lines in
    let k : length (html_to_blank [] 0 lines).text + weight_of (html_to_blank [] 0 lines).following ≤ 0 + weight_of lines = html-to_blank [] 0 lines in
    grind (arith, h, k)

blanks-length : (lines : List LineView) → length (flat_map code_line lines) ≤ weight_of lines
unfolding weight_of
blanks-length [] = le_refl _
blanks-length (line ∷ lines) =
    omega (arith, length-append (code_line line) (flat_map code_line lines), code-length 4 line, blanks-length lines)

pub indented-size : (text : List ℕ) (n : ℕ) (blanks lines : List LineView)
    → length (indented text n blanks lines).text + weight_of (indented text n blanks lines).following ≤ length text + weight_of blanks + weight_of lines
unfolding indented weight_of
indented-size text n blanks [] = omega arith
indented-size text n blanks (line ∷ lines) =
    let longer = text ++ flat_map code_line blanks ++ code_line line in
    let m = n + length blanks + 1 in
    let h : length (indented longer m [] lines).text + weight_of (indented longer m [] lines).following ≤ length longer + weight_of [] + weight_of lines
    = indented-size longer m [] lines in
    let k : length (indented text n (blanks ++ line ∷ []) lines).text + weight_of (indented text n (blanks ++ line ∷ []) lines).following
    ≤ length text + weight_of (blanks ++ line ∷ []) + weight_of lines
    = indented-size text n (blanks ++ line ∷ []) lines in
    let waiting : weight_of (blanks ++ line ∷ []) ≡ weight_of blanks + weight_of (line ∷ []) = weight_of-append blanks (line ∷ []) in
    let kept : weight_of (blanks ++ line ∷ lines) ≡ weight_of blanks + weight_of (line ∷ lines) = weight_of-append blanks (line ∷ lines) in
    let all : length longer ≤ length text + weight_of blanks + suc (weight line.text)
    = omega (arith, length-append (text ++ flat_map code_line blanks) (code_line line), length-append text (flat_map code_line blanks), blanks-length blanks, code-length 4 line) in
    grind (arith, h, k, waiting, kept, all)

lighter-lazy : (rules : Rules) (line : LineView) → Lighter line (continuation_if_lazy rules line)
unfolding continuation_if_lazy
lighter-lazy rules line = grind arith

pub lighter-quote : (rules : Rules) (line : LineView) → Lighter line (continuation_in_quote rules line)
unfolding continuation_in_quote
lighter-quote rules line = go (start_of rules line)
  where
    go : (start : Start) → Lighter line (quote_continuation rules start line)
    go QuoteMarker = weight-after_quote_marker line
    go IndentedCode = lighter-lazy rules line
    go (AtxHeading h) = lighter-lazy rules line
    go (OpeningFence f) = lighter-lazy rules line
    go (HtmlStart k) = lighter-lazy rules line
    go BreakLine = lighter-lazy rules line
    go (ItemStart m) = lighter-lazy rules line
    go TextLine = lighter-lazy rules line

pub lighter-item : (rules : Rules) (column : ℕ) (bare : Bool) (line : LineView) → Lighter line (continuation_in_item rules column bare line)
unfolding continuation_in_item
lighter-item rules column bare line =
    go line.lazy (is_blank line) bare (nat_le column (indent_of line))
  where
    go : (lazy blank bare reaches : Bool) → Lighter line (elim lazy [
      | true ↦ continuation_if_lazy rules line
      | false ↦ item_continuation blank bare reaches (strip_columns column line) (continuation_if_lazy rules line)
    ])
    go true blank bare reaches = lighter-lazy rules line
    go false true true reaches = tt
    go false true false reaches = weight-strip column line
    go false false bare true = weight-strip column line
    go false false bare false = lighter-lazy rules line

-- the lines of a container, and those that follow it
abbrev pub whole_weight : Inside → ℕ
whole_weight i = weight_of i.inner + weight_of i.following

pub inside-size : (rules : Rules) (parts : List LineView → Parts) (continuation : Bool → LineView → Continuation)
    → ((bare : Bool) (line : LineView) → Lighter line (continuation bare line)) → (so_far lines : List LineView)
    → whole_weight (inside rules parts continuation so_far lines) ≤ weight_of so_far + weight_of lines
unfolding inside weight_of
inside-size rules parts continuation lighter so_far [] = omega arith
inside-size rules parts continuation lighter so_far (line ∷ lines) =
    go (continuation (is_bare so_far) line) (lighter (is_bare so_far) line) (λ inner. inside-size rules parts continuation lighter (so_far ++ inner ∷ []) lines)
  where
    go : (p : Continuation) → Lighter line p
        → ((inner : LineView) → whole_weight (inside rules parts continuation (so_far ++ inner ∷ []) lines) ≤ weight_of (so_far ++ inner ∷ []) + weight_of lines)
        → whole_weight (by_continuation rules parts continuation so_far line lines p) ≤ weight_of so_far + weight_of (line ∷ lines)
    go (Stays inner) k h = omega (arith, h inner, k, weight_of-append so_far (inner ∷ []))
    go (StaysIfOpen inner) k h =
        let longer : whole_weight (inside rules parts continuation (so_far ++ inner ∷ []) lines) ≤ weight_of (so_far ++ inner ∷ []) + weight_of lines = h inner in
        let appended : weight_of (so_far ++ inner ∷ []) ≡ weight_of so_far + weight_of (inner ∷ []) = weight_of-append so_far (inner ∷ []) in
        grind (arith, longer, appended, k)
    go Leaves k h = omega arith
