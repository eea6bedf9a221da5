-- How many bytes the leaves of lines have: at most those of the lines, with two more for each tab and one for each line.
use Rattle.std.proofs.Common.{◌≡◌, ℕ, zero, suc, ◌+◌, ◌*◌, ◌≤◌, ◌==◌, Bool, true, false, List, [], ◌∷◌, ◌++◌, length, refl, sym, ap, subst, ◌∙◌, arith, le_refl, Option, Some, None}
use Rattle.std.specs.Prelude.{⊤, ◌||◌, ◌&&◌, not, nat_le}
use Rattle.std.specs.List.{list_any}
use Rattle.std.specs.Str.{byte}
use Rattle.std.specs.Option.{option_map}
use Rattle.cm_text.specs.Unescaping.{unescape}
use Rattle.cm_text.specs.Rules.{Rules}
use Rattle.cm_text.specs.Lines.{LineView}
use Rattle.cm_text.specs.Indentation.{indent_of}
use Rattle.cm_tree.specs.declared.tree.ListKind.{ListKind}
use Rattle.cm_scan.specs.Words.{given, ◌<|>◌, is_space_or_tab, trim, trim_end, after_run, begins_with, run_length, is_at_gap}
use Rattle.cm_scan.specs.inlines.Links.{LinkDefinition, definitions_of}
use Rattle.cm_scan.specs.blocks.Lines.{is_blank, content_of, size}
use Rattle.cm_scan.specs.blocks.LineForms.{Heading, Fence, ItemMarker, atx_heading, fence_of, backticks_or, opening_fence, is_thematic_break, item_marker, without_closing, is_same_kind}
use Rattle.cm_scan.specs.blocks.HtmlBlocks.{HtmlKind, html_start}
use Rattle.cm_scan.specs.blocks.Parts.{LeafPart, paragraph, heading, code, html, thematic_break, definition, Parts, none, blank, leaf, quote, list, ItemParts, last_item, item, next_items, put_before, put_item, put_leaves, info_of}
use Rattle.cm_scan.specs.blocks.Starts.{Start, IndentedCode, QuoteMarker, AtxHeading, OpeningFence, HtmlStart, BreakLine, ItemStart, TextLine, or_text, start_of_content, start_of, after_quote_marker, continuation_in_quote, content_column, first_content, continuation_in_item}
use Rattle.cm_scan.specs.blocks.Blocks.{text_run, TextRun, fenced, html_lines, code_line, indented, inside, definition_leaves, content_leaf, leaves_of_run, quote_parts, item_parts, fence_parts, html_parts, code_parts, text_parts, parts_by_start, parts_by_cases, parts_within, parts_of}
use Rattle.cm_scan.specs.steps.LineSteps.{start_by}
use Rattle.cm_block.specs.Sizes.{leaf_size, part_sizes, item_sizes}
use Rattle.cm_block.proofs.lemmas.ReadSizes.{trimmed-length, heading-length, info-length, definition_sizes, definitions-length}
use Rattle.cm_block.proofs.lemmas.ResolvedSizes.{unescaped-length, resolved-info}
use Rattle.cm_block.proofs.lemmas.TextSizes.{weight, weight_of, weight-length, weight-content, weight-after_quote_marker, weight-first_content, code-length, run-size, fenced-size, html-size, indented-size, inside-size, lighter-quote, lighter-item}

leaf_sizes : List (LeafPart × ℕ) → ℕ
leaf_sizes [] = 0
leaf_sizes (x ∷ xs) = leaf_size x.0 + leaf_sizes xs

sizes-append : (xs ys : List (LeafPart × ℕ)) → leaf_sizes (xs ++ ys) ≡ leaf_sizes xs + leaf_sizes ys
unfolding leaf_sizes
sizes-append [] ys = omega arith
sizes-append (x ∷ xs) ys = omega (arith, sizes-append xs ys)

sizes-put : (xs : List (LeafPart × ℕ)) (rest : Parts) → part_sizes (put_leaves xs rest) ≡ leaf_sizes xs + part_sizes rest
unfolding leaf_sizes part_sizes put_leaves
sizes-put [] rest = omega arith
sizes-put (x ∷ xs) rest = omega (arith, sizes-put xs rest)

-- items that come next are part of what follows
abbrev Following : ℕ → Option (ℕ × ItemParts × Parts) → Type 0
Following n None = ⊤
Following n (Some following) = item_sizes following.1 + part_sizes following.2 ≤ n

sizes-next : (kind : ListKind) (blanks : ℕ) (rest : Parts) → Following (part_sizes rest) (next_items kind blanks rest)
unfolding next_items part_sizes
sizes-next kind blanks none = tt
sizes-next kind blanks (blank rest) = sizes-next kind (suc blanks) rest
sizes-next kind blanks (leaf x lines rest) = tt
sizes-next kind blanks (quote inside rest) = tt
sizes-next kind blanks (list other items rest) = go (is_same_kind kind other)
  where
    go : (same : Bool) → Following (item_sizes items + part_sizes rest) (given same (blanks, items, rest))
    go true = le_refl _
    go false = tt

sizes-item : (kind : ListKind) (inside rest : Parts) → part_sizes (put_item kind inside rest) ≤ part_sizes inside + part_sizes rest
unfolding put_item part_sizes item_sizes
sizes-item kind inside rest = go (next_items kind 0 rest) (sizes-next kind 0 rest)
  where
    go : (following : Option (ℕ × ItemParts × Parts)) → Following (part_sizes rest) following → part_sizes (put_before kind inside rest following) ≤ part_sizes inside + part_sizes rest
    go None h = le_refl _
    go (Some following) h = omega (arith, h)

-- the leaves of a run

sizes-definitions : (text : List ℕ) (ds : List LinkDefinition) → leaf_sizes (definition_leaves text ds) ≤ definition_sizes ds
unfolding leaf_sizes definition_leaves
sizes-definitions text [] = le_refl _
sizes-definitions text (d ∷ ds) = omega (arith, sizes-definitions d.rest ds, unescaped-length d.dest, unescaped-length d.title)

sizes-content : (level : Option ℕ) (text : List ℕ) → leaf_sizes (content_leaf level text) ≤ length text
unfolding leaf_sizes
sizes-content None [] = le_refl _
sizes-content (Some level) [] = le_refl _
sizes-content None (b ∷ bs) = omega arith
sizes-content (Some level) (b ∷ bs) = omega arith

sizes-run : (run : TextRun) → leaf_sizes (leaves_of_run run) ≤ length run.source
unfolding leaves_of_run
sizes-run run =
    let source = trim_end run.source in
    let found = definitions_of source in
    omega (
      arith,
      sizes-append (definition_leaves source found.taken) (content_leaf run.level found.left),
      sizes-definitions source found.taken,
      sizes-content run.level found.left,
      definitions-length source,
      trimmed-length is_space_or_tab run.source,
    )

-- what a line starts has no longer content than the line

abbrev Short : List ℕ → Start → Type 0
Short text (AtxHeading h) = length h.content ≤ length text
Short text (OpeningFence fence) = length fence.info ≤ length text
Short text start = ⊤

abbrev ShortIf : List ℕ → Option Start → Type 0
ShortIf text None = ⊤
ShortIf text (Some start) = Short text start

short-either : (text : List ℕ) (first second : Option Start) → ShortIf text first → ShortIf text second → ShortIf text (first <|> second)
short-either text None second h k = k
short-either text (Some start) second h k = h

short-heading : (text : List ℕ) → ShortIf text (option_map AtxHeading (atx_heading text))
unfolding atx_heading
short-heading text = go (nat_le 1 (run_length (byte "#") text) && nat_le (run_length (byte "#") text) 6 && is_at_gap (after_run (byte "#") text))
  where
    go : (is : Bool) → ShortIf text (option_map AtxHeading (given is (record {
      level = run_length (byte "#") text;
      content = trim (without_closing true (trim (after_run (byte "#") text)));
    })))
    go true = heading-length (byte "#") text
    go false = tt

short-fence : (text : List ℕ) → ShortIf text (option_map OpeningFence (opening_fence text))
unfolding opening_fence fence_of
short-fence text = either (fence_of (byte "`") text) (fence_of (byte "~") text) (of_marker (byte "`")) (of_marker (byte "~"))
  where
    of_marker : (marker : ℕ) → ShortIf text (option_map OpeningFence (fence_of marker text))
    of_marker marker = go (nat_le 3 (run_length marker text))
      where
        go : (is : Bool) → ShortIf text (option_map OpeningFence (given is (record { marker = marker; count = run_length marker text; info = trim (after_run marker text) })))
        go true = info-length marker text
        go false = tt

    kept : (f : Fence) → length f.info ≤ length text → (is : Bool) → ShortIf text (option_map OpeningFence (given is f))
    kept f h true = h
    kept f h false = tt

    either : (f g : Option Fence) → ShortIf text (option_map OpeningFence f) → ShortIf text (option_map OpeningFence g) → ShortIf text (option_map OpeningFence (backticks_or f g))
    either None g h k = k
    either (Some f) g h k = kept f h (not (list_any (λ b. b == byte "`") f.info))

short-content : (rules : Rules) (text : List ℕ) → Short text (start_of_content rules text)
unfolding start_of_content
short-content rules text =
    of_text (given (begins_with 62 text) QuoteMarker <|> option_map AtxHeading (atx_heading text) <|> others)
    (short-either text _ _ (marker (begins_with 62 text)) (short-either text _ others (short-heading text)
    (short-either text _ _ (short-fence text) (short-either text _ _ (block (html_start rules text)) (short-either text _ _ (break (is_thematic_break text)) (bullet (item_marker text)))))))
  where
    others : Option Start
    others = option_map OpeningFence (opening_fence text) <|> option_map HtmlStart (html_start rules text) <|> given (is_thematic_break text) BreakLine <|> option_map ItemStart (item_marker text)

    of_text : (start : Option Start) → ShortIf text start → Short text (or_text start)
    of_text None h = tt
    of_text (Some start) h = h

    marker : (is : Bool) → ShortIf text (given is QuoteMarker)
    marker true = tt
    marker false = tt

    block : (k : Option HtmlKind) → ShortIf text (option_map HtmlStart k)
    block None = tt
    block (Some k) = tt

    break : (is : Bool) → ShortIf text (given is BreakLine)
    break true = tt
    break false = tt

    bullet : (m : Option ItemMarker) → ShortIf text (option_map ItemStart m)
    bullet None = tt
    bullet (Some m) = tt

short-start : (rules : Rules) (line : LineView) → Short (content_of line) (start_of rules line)
unfolding start_of
short-start rules line = go line.lazy (nat_le 4 (indent_of line)) (start_of_content rules (content_of line)) (short-content rules (content_of line))
  where
    go : (lazy indented : Bool) (start : Start) → Short (content_of line) start → Short (content_of line) (start_by lazy indented start)
    go true indented start h = tt
    go false true start h = tt
    go false false start h = h

-- the cases

module _ (rules : Rules) (parts : List LineView → Parts) (light : (lines : List LineView) → part_sizes (parts lines) ≤ weight_of lines) where
  sizes-start : (line : LineView) (lines : List LineView) (start : Start) → Short (content_of line) start
      → part_sizes (parts_by_start rules parts start line lines) ≤ weight_of (line ∷ lines)
  unfolding part_sizes weight_of parts_by_start quote_parts item_parts fence_parts html_parts code_parts text_parts
  sizes-start line lines IndentedCode h =
      let t = indented (code_line line) 1 [] lines in
      omega (arith, light t.following, indented-size (code_line line) 1 [] lines, code-length 4 line)
  sizes-start line lines QuoteMarker h =
      let i = inside rules parts (λ bare l. continuation_in_quote rules l) (after_quote_marker line ∷ []) lines in
      omega (
        arith,
        light i.inner,
        light i.following,
        inside-size rules parts (λ bare l. continuation_in_quote rules l) (λ bare l. lighter-quote rules l) (after_quote_marker line ∷ []) lines,
        weight-after_quote_marker line,
      )
  sizes-start line lines (AtxHeading found) h =
      omega (arith, light lines, h, weight-length (content_of line), weight-content line)
  sizes-start line lines (OpeningFence fence) h =
      let t = fenced fence (indent_of line) [] 1 lines in
      omega (
        arith,
        light t.following,
        fenced-size fence (indent_of line) [] 1 lines,
        resolved-info rules fence.info,
        h,
        weight-length (content_of line),
        weight-content line,
      )
  sizes-start line lines (HtmlStart kind) h =
      let t = html_lines kind (line ∷ lines) in
      omega (arith, light t.following, html-size kind (line ∷ lines))
  sizes-start line lines BreakLine h = omega (arith, light lines)
  sizes-start line lines (ItemStart marker) h =
      let continuation = continuation_in_item rules (content_column marker line) in
      let i = inside rules parts continuation (first_content marker line ∷ []) lines in
      omega (
        arith,
        sizes-item marker.kind (parts i.inner) (parts i.following),
        light i.inner,
        light i.following,
        inside-size rules parts continuation (lighter-item rules (content_column marker line)) (first_content marker line ∷ []) lines,
        weight-first_content marker line,
      )
  sizes-start line lines TextLine h =
      let run = text_run rules (content_of line) lines in
      omega (
        arith,
        sizes-put (leaves_of_run run) (parts run.following),
        sizes-run run,
        light run.following,
        run-size rules (content_of line) lines,
        weight-length (content_of line),
        weight-content line,
      )

  sizes-cases : (lines : List LineView) → part_sizes (parts_by_cases rules parts lines) ≤ weight_of lines
  unfolding part_sizes weight_of parts_by_cases
  sizes-cases [] = le_refl _
  sizes-cases (line ∷ lines) = go (is_blank line)
    where
      go : (blank_line : Bool) → part_sizes (elim blank_line [ true ↦ blank (parts lines) | false ↦ parts_by_start rules parts (start_of rules line) line lines ]) ≤ weight_of (line ∷ lines)
      go true = omega (arith, light lines)
      go false = sizes-start line lines (start_of rules line) (short-start rules line)

sizes-within : (rules : Rules) (n : ℕ) (lines : List LineView) → part_sizes (parts_within rules n lines) ≤ weight_of lines
unfolding parts_within part_sizes
sizes-within rules zero lines = omega arith
sizes-within rules (suc n) lines = sizes-cases rules (λ fewer. parts_within rules n fewer) (λ fewer. sizes-within rules n fewer) lines

-- The texts of all leaves have no more bytes than their lines weigh.
pub part-sizes : (rules : Rules) (lines : List LineView) → part_sizes (parts_of rules lines) ≤ weight_of lines
unfolding parts_of
part-sizes rules lines = sizes-within rules (size lines) lines
