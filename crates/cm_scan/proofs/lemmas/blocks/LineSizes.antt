-- What a container's lines and the lines after a block come to in size.
use Rattle.std.proofs.Common.{◌≡◌, ℕ, suc, ◌+◌, ◌<◌, ◌≤◌, Bool, true, false, List, [], ◌∷◌, ◌++◌, drop, length, length-append, refl, arith, le_refl}
use Rattle.std.specs.Prelude.{if◌then◌else◌}
use Rattle.cm_text.specs.Rules.{Rules}
use Rattle.cm_text.specs.Lines.{LineView}
use Rattle.cm_scan.specs.Words.{is_space_or_tab, is_blank_text, skip, trim_start}
use Rattle.cm_scan.specs.blocks.Lines.{is_blank, past, marks, size}
use Rattle.cm_scan.specs.blocks.LineForms.{Fence, ItemMarker}
use Rattle.cm_scan.specs.blocks.HtmlBlocks.{HtmlKind}
use Rattle.cm_scan.specs.blocks.Parts.{Parts, leaves_paragraph_open}
use Rattle.cm_scan.specs.blocks.Starts.{Continuation, Stays, StaysIfOpen, Leaves, after_quote_marker, continuation_in_quote, content_offset, after_marker, first_content, continuation_in_item}
use Rattle.cm_scan.specs.blocks.Blocks.{text_run, fenced, html_to_end, html_to_blank, html_lines, indented, Inside, inside, is_bare}
use Rattle.cm_scan.proofs.lemmas.texts.ByteSums.{AddsUp, NoMore, sum-drop, sum-strip, no_more-quote, no_more-item}

-- marks never grow

marks-one_more : (b : ℕ) (bs : List ℕ) → marks (b ∷ bs) ≡ (if is_space_or_tab b then 0 else 1) + marks bs
unfolding marks
marks-one_more b bs = grind arith

marks-adds : AddsUp marks
unfolding marks
marks-adds = record { of_byte = λ b. if is_space_or_tab b then 0 else 1; of_nothing = refl; one_more = marks-one_more; of_space = refl }

-- after the first byte that is neither space nor tab there is one less
marks-past : (n : ℕ) (bs : List ℕ) → is_blank_text bs ≡ false → marks (drop (suc n) (trim_start bs)) < marks bs
unfolding marks skip
marks-past n [] e = grind arith
marks-past n (b ∷ bs) e =
    let h : is_blank_text bs ≡ false → marks (drop (suc n) (trim_start bs)) < marks bs = marks-past n bs in
    let k : marks (drop n bs) ≤ marks bs = sum-drop marks marks-adds n bs in
    grind (arith, h, k)

-- the first line of a quote and of an item has one less

pub marks-after_quote_marker : (line : LineView) → is_blank line ≡ false → marks (after_quote_marker line).text < marks line.text
unfolding past after_quote_marker
marks-after_quote_marker line e =
    let h : marks (drop 1 (trim_start line.text)) < marks line.text = marks-past 0 line.text e in
    let k : marks (after_quote_marker line).text ≤ marks (past 1 line).text = sum-strip marks marks-adds 1 (past 1 line) in
    omega (arith, h, k)

pub marks-first_content : (marker : ItemMarker) (line : LineView) → is_blank line ≡ false → marks (first_content marker line).text < marks line.text
unfolding past first_content
marks-first_content marker line e =
    let h : marks (drop (suc marker.digits) (trim_start line.text)) < marks line.text = marks-past marker.digits line.text e in
    let k : marks (first_content marker line).text ≤ marks (after_marker marker line).text = sum-strip marks marks-adds (content_offset (after_marker marker line)) (after_marker marker line) in
    omega (arith, h, k)

-- what stays goes inward with no more
abbrev pub Keeps : LineView → Continuation → Type 0
Keeps line continuation = NoMore marks line continuation

pub keeps-quote : (rules : Rules) (line : LineView) → Keeps line (continuation_in_quote rules line)
keeps-quote = no_more-quote marks marks-adds

pub keeps-item : (rules : Rules) (column : ℕ) (bare : Bool) (line : LineView) → Keeps line (continuation_in_item rules column bare line)
keeps-item = no_more-item marks marks-adds

-- sizes

pub size-append : (ks ls : List LineView) → size (ks ++ ls) ≡ size ks + size ls
unfolding size
size-append [] ls = omega arith
size-append (k ∷ ks) ls = omega (arith, size-append ks ls)

pub size-text_run : (rules : Rules) (source : List ℕ) (lines : List LineView) → size (text_run rules source lines).following ≤ size lines
unfolding text_run size
size-text_run rules source [] = le_refl _
size-text_run rules source (line ∷ lines) =
    let h : (s : List ℕ) → size (text_run rules s lines).following ≤ size lines = λ s. size-text_run rules s lines in
    grind (arith, h)

pub size-fenced : (fence : Fence) (columns : ℕ) (text : List ℕ) (n : ℕ) (lines : List LineView) → size (fenced fence columns text n lines).following ≤ size lines
unfolding fenced size
size-fenced fence columns text n [] = le_refl _
size-fenced fence columns text n (line ∷ lines) =
    let h : (s : List ℕ) → size (fenced fence columns s (suc n) lines).following ≤ size lines = λ s. size-fenced fence columns s (suc n) lines in
    grind (arith, h)

pub size-html_to_end : (kind : HtmlKind) (text : List ℕ) (n : ℕ) (lines : List LineView) → size (html_to_end kind text n lines).following ≤ size lines
unfolding html_to_end size
size-html_to_end kind text n [] = le_refl _
size-html_to_end kind text n (line ∷ lines) =
    let h : (s : List ℕ) → size (html_to_end kind s (suc n) lines).following ≤ size lines = λ s. size-html_to_end kind s (suc n) lines in
    grind (arith, h)

pub size-html_to_blank : (text : List ℕ) (n : ℕ) (lines : List LineView) → size (html_to_blank text n lines).following ≤ size lines
unfolding html_to_blank size
size-html_to_blank text n [] = le_refl _
size-html_to_blank text n (line ∷ lines) =
    let h : (s : List ℕ) → size (html_to_blank s (suc n) lines).following ≤ size lines = λ s. size-html_to_blank s (suc n) lines in
    grind (arith, h)

-- an HTML block has at least its first line, since that isn't blank
pub size-html_lines : (kind : HtmlKind) (line : LineView) (lines : List LineView) → is_blank line ≡ false
    → size (html_lines kind (line ∷ lines)).following < size (line ∷ lines)
unfolding html_lines html_to_end html_to_blank size
size-html_lines kind line lines e =
    let h : (s : List ℕ) → size (html_to_end kind s 1 lines).following ≤ size lines = λ s. size-html_to_end kind s 1 lines in
    let k : (s : List ℕ) → size (html_to_blank s 1 lines).following ≤ size lines = λ s. size-html_to_blank s 1 lines in
    grind (arith, e, h, k)

pub size-indented : (text : List ℕ) (n : ℕ) (blanks lines : List LineView) → size (indented text n blanks lines).following ≤ size blanks + size lines
unfolding indented size
size-indented text n blanks [] = omega arith
size-indented text n blanks (line ∷ lines) =
    let h : (s : List ℕ) (m : ℕ) → size (indented s m [] lines).following ≤ size [] + size lines = λ s m. size-indented s m [] lines in
    let k : size (indented text n (blanks ++ line ∷ []) lines).following ≤ size (blanks ++ line ∷ []) + size lines = size-indented text n (blanks ++ line ∷ []) lines in
    let more : size (blanks ++ line ∷ []) ≡ size blanks + size (line ∷ []) = size-append blanks (line ∷ []) in
    let kept : size (blanks ++ line ∷ lines) ≡ size blanks + size (line ∷ lines) = size-append blanks (line ∷ lines) in
    grind (arith, h, k, more, kept)

-- the lines of a container

pub size-following : (rules : Rules) (parts : List LineView → Parts) (continuation : Bool → LineView → Continuation) (so_far lines : List LineView)
    → size (inside rules parts continuation so_far lines).following ≤ size lines
unfolding inside size
size-following rules parts continuation so_far [] = le_refl _
size-following rules parts continuation so_far (line ∷ lines) =
    let h : (inner : LineView) → size (inside rules parts continuation (so_far ++ inner ∷ []) lines).following ≤ size lines
    = λ inner. size-following rules parts continuation (so_far ++ inner ∷ []) lines in
    grind (arith, h)

-- what a line's continuation comes to
abbrev pub by_continuation : Rules → (List LineView → Parts) → (Bool → LineView → Continuation) → List LineView → LineView → List LineView → Continuation → Inside
by_continuation rules parts continuation so_far line lines p = elim p [
  | Stays inner ↦ inside rules parts continuation (so_far ++ inner ∷ []) lines
  | StaysIfOpen inner ↦ elim (leaves_paragraph_open (parts so_far)) [
    | true ↦ inside rules parts continuation (so_far ++ inner ∷ []) lines
    | false ↦ record { inner = so_far; following = line ∷ lines }
  ]
  | Leaves ↦ record { inner = so_far; following = line ∷ lines }
]

pub size-inner : (rules : Rules) (parts : List LineView → Parts) (continuation : Bool → LineView → Continuation)
    → ((bare : Bool) (line : LineView) → Keeps line (continuation bare line)) → (so_far lines : List LineView)
    → size (inside rules parts continuation so_far lines).inner ≤ size so_far + size lines
unfolding inside size
size-inner rules parts continuation keeps so_far [] = omega arith
size-inner rules parts continuation keeps so_far (line ∷ lines) =
    go (continuation (is_bare so_far) line) (keeps (is_bare so_far) line) (λ inner. size-inner rules parts continuation keeps (so_far ++ inner ∷ []) lines)
  where
    go : (p : Continuation) → Keeps line p
        → ((inner : LineView) → size (inside rules parts continuation (so_far ++ inner ∷ []) lines).inner ≤ size (so_far ++ inner ∷ []) + size lines)
        → size (by_continuation rules parts continuation so_far line lines p).inner ≤ size so_far + size (line ∷ lines)
    go (Stays inner) k h = omega (arith, h inner, k, size-append so_far (inner ∷ []))
    go (StaysIfOpen inner) k h =
        let longer = h inner in
        let appended : size (so_far ++ inner ∷ []) ≡ size so_far + size (inner ∷ []) = size-append so_far (inner ∷ []) in
        grind (arith, longer, k, appended)
    go Leaves k h = omega arith

-- the lines inside are some, where those so far are
pub some-inner : (rules : Rules) (parts : List LineView → Parts) (continuation : Bool → LineView → Continuation) (so_far lines : List LineView)
    → 0 < length so_far → 0 < length (inside rules parts continuation so_far lines).inner
unfolding inside
some-inner rules parts continuation so_far [] some = some
some-inner rules parts continuation so_far (line ∷ lines) some =
    go (continuation (is_bare so_far) line) (λ inner. some-inner rules parts continuation (so_far ++ inner ∷ []) lines (omega (arith, some, length-append so_far (inner ∷ []))))
  where
    go : (p : Continuation) → ((inner : LineView) → 0 < length (inside rules parts continuation (so_far ++ inner ∷ []) lines).inner)
        → 0 < length (by_continuation rules parts continuation so_far line lines p).inner
    go (Stays inner) h = h inner
    go (StaysIfOpen inner) h = let longer = h inner in grind (arith, longer, some)
    go Leaves h = some

-- two functions that agree on what is short enough let the same lines in
pub inside-agree : (rules : Rules) (f g : List LineView → Parts) (continuation : Bool → LineView → Continuation) (n : ℕ)
    → ((so_far : List LineView) → size so_far < n → f so_far ≡ g so_far) → ((bare : Bool) (line : LineView) → Keeps line (continuation bare line))
    → (so_far lines : List LineView) → size so_far + size lines ≤ n → inside rules f continuation so_far lines ≡ inside rules g continuation so_far lines
unfolding inside size
inside-agree rules f g continuation n agree keeps so_far [] within = refl
inside-agree rules f g continuation n agree keeps so_far (line ∷ lines) within =
    go (continuation (is_bare so_far) line) (keeps (is_bare so_far) line) (λ inner. inside-agree rules f g continuation n agree keeps (so_far ++ inner ∷ []) lines)
  where
    go : (p : Continuation) → Keeps line p
        → ((inner : LineView) → size (so_far ++ inner ∷ []) + size lines ≤ n → inside rules f continuation (so_far ++ inner ∷ []) lines ≡ inside rules g continuation (so_far ++ inner ∷ []) lines)
        → by_continuation rules f continuation so_far line lines p ≡ by_continuation rules g continuation so_far line lines p
    go (Stays inner) k h = h inner (omega (arith, k, size-append so_far (inner ∷ [])))
    go (StaysIfOpen inner) k h =
        let same : inside rules f continuation (so_far ++ inner ∷ []) lines ≡ inside rules g continuation (so_far ++ inner ∷ []) lines
        = h inner (omega (arith, k, size-append so_far (inner ∷ []))) in
        let left : f so_far ≡ g so_far = agree so_far (omega arith) in
        grind (arith, same, left)
    go Leaves k h = refl
