-- Each heading that lines make has a level from 1 to 6.
use Rattle.std.proofs.Common.{◌≡◌, ℕ, zero, suc, Bool, true, false, not, ◌&&◌, List, [], ◌∷◌, ◌++◌, map, refl, ap, ◌∙◌, Some, None, IfSome, arith}
use Rattle.std.specs.Prelude.{⊤, Option, nat_le}
use Rattle.std.specs.Option.{option_map}
use Rattle.cm_text.specs.Rules.{Rules}
use Rattle.cm_text.specs.Lines.{LineView}
use Rattle.std.specs.List.{list_all}
use Rattle.cm_tree.specs.declared.tree.Block.TheFolds.{fold_out-Block}
use Rattle.cm_tree.specs.declared.tree.Block.TheVariants.{Quote, List as ListBlock, outs-Paragraph, outs-Heading, outs-Code, outs-Html, outs-Break, outs-Definition}
use Rattle.cm_tree.specs.declared.tree.ListKind.{ListKind}
use Rattle.cm_tree.specs.HeadingLevels.{is_level, level_step, has_levels, have_levels, all_of}
use Rattle.cm_text.specs.Indentation.{indent_of}
use Rattle.cm_scan.specs.Words.{given, ◌<|>◌, begins_with, is_at_gap, run_length, after_run, trim, trim_end, is_empty}
use Rattle.cm_scan.specs.blocks.Lines.{size, is_blank, content_of}
use Rattle.cm_scan.specs.inlines.Links.{LinkDefinition, definitions_of}
use Rattle.cm_scan.specs.blocks.LineForms.{Heading, without_closing, atx_heading, underline, is_underline_of, opening_fence, is_thematic_break, item_marker, Fence, ItemMarker}
use Rattle.cm_scan.specs.blocks.HtmlBlocks.{HtmlKind, html_start}
use Rattle.cm_scan.specs.blocks.Starts.{Start, IndentedCode, QuoteMarker, AtxHeading, OpeningFence, HtmlStart, BreakLine, ItemStart, TextLine, start_of, start_of_content, or_text, underline_of, interrupts_paragraph, content_column, first_content, continuation_in_item}
use Rattle.cm_scan.specs.blocks.Parts.{LeafPart, paragraph, heading, code, html, thematic_break, definition, Parts, none, blank, leaf, quote, list, ItemParts, last_item, item, leaf_block, is_loose, blocks_of_parts, blocks_of_items, next_items, put_before, put_item, put_leaves}
use Rattle.cm_scan.specs.blocks.Blocks.{NextLine, GoesOn, Ends, Underlines, by_underline, next_line, TextRun, text_run, definition_leaves, content_leaf, leaves_of_run, quote_parts, item_parts, fence_parts, html_parts, code_parts, text_parts, parts_by_start, parts_by_cases, parts_within, parts_of, blocks_of, inside, add_text, rest_of}
use Rattle.cm_scan.specs.laws.PartLaws.{HeadingLevels}
use Rattle.cm_scan.specs.steps.LineSteps.{start_by, underline_if}
use Rattle.cm_tree.proofs.lemmas.BlockFolds as block_fold

-- ---- of the parts

abbrev LeafLevel : LeafPart → Type 0
LeafLevel (heading level source) = is_level level ≡ true
LeafLevel x = ⊤

unfoldable mutual
  PartLevels : Parts → Type 0
  PartLevels none = ⊤
  PartLevels (blank rest) = PartLevels rest
  PartLevels (leaf x lines rest) = LeafLevel x × PartLevels rest
  PartLevels (quote inside rest) = PartLevels inside × PartLevels rest
  PartLevels (list kind items rest) = ItemLevels items × PartLevels rest

  ItemLevels : ItemParts → Type 0
  ItemLevels (last_item inside) = PartLevels inside
  ItemLevels (item inside blanks items) = PartLevels inside × ItemLevels items

-- ---- and of their tree

leaf-level : (x : LeafPart) → LeafLevel x → has_levels (leaf_block x) ≡ true
leaf-level (paragraph source) h = simp (fold_out-Block Bool level_step, outs-Paragraph)
leaf-level (heading level source) h = simp (fold_out-Block Bool level_step, outs-Heading) h
leaf-level (code info text) h = simp (fold_out-Block Bool level_step, outs-Code)
leaf-level (html text) h = simp (fold_out-Block Bool level_step, outs-Html)
leaf-level thematic_break h = simp (fold_out-Block Bool level_step, outs-Break)
leaf-level (definition label dest title) h = simp (fold_out-Block Bool level_step, outs-Definition)

both : (a b : Bool) → a ≡ true → b ≡ true → (a && b) ≡ true
both a b p q = ap (λ t. t && b) p ∙ q

mutual
  unfolding blocks_of_parts blocks_of_items PartLevels ItemLevels

  tree-levels : (p : Parts) → PartLevels p → have_levels (blocks_of_parts p) ≡ true
  tree-levels none h = refl
  tree-levels (blank rest) h = tree-levels rest h
  tree-levels (leaf x lines rest) h = both (has_levels (leaf_block x)) (have_levels (blocks_of_parts rest)) (leaf-level x h.0) (tree-levels rest h.1)
  tree-levels (quote inside rest) h =
      both (has_levels (Quote (blocks_of_parts inside))) (have_levels (blocks_of_parts rest)) (block_fold.quote level_step (blocks_of_parts inside) ∙ tree-levels inside h.0) (tree-levels rest h.1)
  tree-levels (list kind items rest) h =
      both (has_levels (ListBlock kind (not (is_loose items)) (blocks_of_items items))) (have_levels (blocks_of_parts rest))
      (block_fold.list level_step kind (not (is_loose items)) (blocks_of_items items) ∙ item-levels items h.0) (tree-levels rest h.1)

  item-levels : (items : ItemParts) → ItemLevels items → list_all all_of (map (map has_levels) (blocks_of_items items)) ≡ true
  item-levels (last_item inside) h = both (have_levels (blocks_of_parts inside)) true (tree-levels inside h) refl
  item-levels (item inside blanks items) h = both (have_levels (blocks_of_parts inside)) (list_all all_of (map (map has_levels) (blocks_of_items items))) (tree-levels inside h.0) (item-levels items h.1)

-- ---- an item before what follows it

abbrev Following : Type 0
Following = ℕ × ItemParts × Parts

abbrev FollowingLevels : Option Following → Type 0
FollowingLevels found = IfSome found (λ (f : Following). ItemLevels f.1 × PartLevels f.2)

next-levels : (kind : ListKind) (n : ℕ) (p : Parts) → PartLevels p → FollowingLevels (next_items kind n p)
unfolding next_items PartLevels
next-levels kind n none h = tt
next-levels kind n (blank rest) h = next-levels kind (suc n) rest h
next-levels kind n (leaf x lines rest) h = tt
next-levels kind n (quote inside rest) h = tt
next-levels kind n (list other items rest) h = grind (arith, h)

put-levels : (kind : ListKind) (inside p : Parts) → PartLevels inside → PartLevels p → PartLevels (put_item kind inside p)
unfolding put_item PartLevels ItemLevels
put-levels kind inside p h k = go (next_items kind 0 p) (next-levels kind 0 p k)
  where
    go : (found : Option Following) → FollowingLevels found → PartLevels (put_before kind inside p found)
    go None l = (h, k)
    go (Some f) l = ((h, l.0), l.1)

-- ---- the headings of lines

abbrev StartLevel : Start → Type 0
StartLevel (AtxHeading h) = is_level h.level ≡ true
StartLevel start = ⊤

abbrev HeadingLevel : Option Heading → Type 0
HeadingLevel found = IfSome found (λ (h : Heading). is_level h.level ≡ true)

front : (a b c : Bool) → (a && b && c) ≡ true → (a && b) ≡ true
front true true c e = refl
front true false c e = e
front false b c e = e

atx-level : (text : List ℕ) → HeadingLevel (atx_heading text)
unfolding atx_heading
atx-level text =
    let level = run_length 35 text in
    go (nat_le 1 level && nat_le level 6 && is_at_gap (after_run 35 text)) refl
  where
    go : (t : Bool) → (nat_le 1 (run_length 35 text) && nat_le (run_length 35 text) 6 && is_at_gap (after_run 35 text)) ≡ t
        → HeadingLevel (given t (record { level = run_length 35 text; content = trim (without_closing true (trim (after_run 35 text))) }))
    go true e = front (nat_le 1 (run_length 35 text)) (nat_le (run_length 35 text) 6) (is_at_gap (after_run 35 text)) e
    go false e = tt

abbrev MarkLevel : Option ℕ → Type 0
MarkLevel found = IfSome found (λ level. is_level level ≡ true)

underline-level : (text : List ℕ) → MarkLevel (underline text)
unfolding underline
underline-level text = go (is_underline_of 61 text) (is_underline_of 45 text)
  where
    go : (s t : Bool) → MarkLevel (given s 1 <|> given t 2)
    go true t = refl
    go false true = refl
    go false false = tt

underline_of-level : (line : LineView) → MarkLevel (underline_of line)
unfolding underline_of
underline_of-level line = go (not line.lazy && nat_le (indent_of line) 3)
  where
    go : (t : Bool) → MarkLevel (underline_if t (content_of line))
    go true = underline-level (content_of line)
    go false = tt

start-level : (rules : Rules) (line : LineView) → StartLevel (start_of rules line)
unfolding start_of start_of_content
start-level rules line = by_mark line.lazy (nat_le 4 (indent_of line)) (start_of_content rules (content_of line)) (content-level (content_of line))
  where
    by_mark : (lazy indented : Bool) (start : Start) → StartLevel start → StartLevel (start_by lazy indented start)
    by_mark true indented start h = tt
    by_mark false true start h = tt
    by_mark false false start h = h

    rest : (atx : Option Heading) (others : Option Start) → HeadingLevel atx → StartLevel (or_text others) → StartLevel (or_text (option_map AtxHeading atx <|> others))
    rest None others h k = k
    rest (Some atx) others h k = h

    others : (fence : Option Fence) (kind : Option HtmlKind) (t : Bool) (marker : Option ItemMarker)
        → StartLevel (or_text (option_map OpeningFence fence <|> option_map HtmlStart kind <|> given t BreakLine <|> option_map ItemStart marker))
    others (Some fence) kind t marker = tt
    others None (Some kind) t marker = tt
    others None None true marker = tt
    others None None false (Some marker) = tt
    others None None false None = tt

    quoted : (t : Bool) (found : Option Start) → StartLevel (or_text found) → StartLevel (or_text (given t QuoteMarker <|> found))
    quoted true found h = tt
    quoted false found h = h

    content-level : (text : List ℕ) → StartLevel (start_of_content rules text)
    content-level text =
        let later = option_map OpeningFence (opening_fence text) <|> option_map HtmlStart (html_start rules text) <|> given (is_thematic_break text) BreakLine <|> option_map ItemStart (item_marker text) in
        quoted (begins_with 62 text) (option_map AtxHeading (atx_heading text) <|> later)
        (rest (atx_heading text) later (atx-level text) (others (opening_fence text) (html_start rules text) (is_thematic_break text) (item_marker text)))

-- ---- runs of text

abbrev NextLevel : NextLine → Type 0
NextLevel (Underlines level) = is_level level ≡ true
NextLevel next = ⊤

next_line-level : (rules : Rules) (source : List ℕ) (line : LineView) → NextLevel (next_line rules source line)
unfolding next_line
next_line-level rules source line = go (is_blank line) (underline_of line) (not (is_empty (rest_of source))) (interrupts_paragraph rules line) (underline_of-level line)
  where
    go : (t : Bool) (mark : Option ℕ) (left interrupts : Bool) → MarkLevel mark → NextLevel (elim t [ true ↦ Ends | false ↦ by_underline mark left interrupts ])
    go true mark left interrupts h = tt
    go false (Some level) true interrupts h = h
    go false (Some level) false true h = tt
    go false (Some level) false false h = tt
    go false None left true h = tt
    go false None left false h = tt

abbrev RunLevel : TextRun → Type 0
RunLevel run = MarkLevel run.level

run-level : (rules : Rules) (source : List ℕ) (lines : List LineView) → RunLevel (text_run rules source lines)
unfolding text_run
run-level rules source [] = tt
run-level rules source (line ∷ lines) = go (next_line rules source line) (next_line-level rules source line) (λ s. run-level rules s lines)
  where
    go : (next : NextLine) → NextLevel next → ((s : List ℕ) → RunLevel (text_run rules s lines))
        → RunLevel (elim next [
          | GoesOn ↦ text_run rules (add_text source line) lines
          | Ends ↦ record { source = source; level = None; following = line ∷ lines }
          | Underlines level ↦ record { source = source; level = Some level; following = lines }
        ])
    go GoesOn h more = more (add_text source line)
    go Ends h more = tt
    go (Underlines level) h more = h

abbrev LeafLevels : List (LeafPart × ℕ) → Type 0
LeafLevels [] = ⊤
LeafLevels (x ∷ xs) = LeafLevel x.0 × LeafLevels xs

leaf-levels-append : (xs ys : List (LeafPart × ℕ)) → LeafLevels xs → LeafLevels ys → LeafLevels (xs ++ ys)
leaf-levels-append [] ys h k = k
leaf-levels-append (x ∷ xs) ys h k = (h.0, leaf-levels-append xs ys h.1 k)

definition-levels : (text : List ℕ) (ds : List LinkDefinition) → LeafLevels (definition_leaves text ds)
unfolding definition_leaves
definition-levels text [] = tt
definition-levels text (d ∷ ds) = (tt, definition-levels d.rest ds)

content-levels : (level : Option ℕ) (source : List ℕ) → MarkLevel level → LeafLevels (content_leaf level source)
content-levels level [] h = tt
content-levels None (b ∷ bs) h = (tt, tt)
content-levels (Some level) (b ∷ bs) h = (h, tt)

run-levels : (run : TextRun) → MarkLevel run.level → LeafLevels (leaves_of_run run)
unfolding leaves_of_run
run-levels run h =
    let source = trim_end run.source in
    let found = definitions_of source in
    leaf-levels-append (definition_leaves source found.taken) (content_leaf run.level found.left) (definition-levels source found.taken) (content-levels run.level found.left h)

leaves-levels : (xs : List (LeafPart × ℕ)) (p : Parts) → LeafLevels xs → PartLevels p → PartLevels (put_leaves xs p)
unfolding put_leaves PartLevels
leaves-levels [] p h k = k
leaves-levels (x ∷ xs) p h k = (h.0, leaves-levels xs p h.1 k)

-- ---- all lines

module _ (rules : Rules) (parts : List LineView → Parts) (levels : (lines : List LineView) → PartLevels (parts lines)) where
  by-start : (start : Start) (line : LineView) (lines : List LineView) → StartLevel start → PartLevels (parts_by_start rules parts start line lines)
  unfolding parts_by_start quote_parts item_parts fence_parts html_parts code_parts text_parts PartLevels
  by-start IndentedCode line lines h = (tt, levels _)
  by-start QuoteMarker line lines h = (levels _, levels _)
  by-start (AtxHeading atx) line lines h = (h, levels lines)
  by-start (OpeningFence fence) line lines h = (tt, levels _)
  by-start (HtmlStart kind) line lines h = (tt, levels _)
  by-start BreakLine line lines h = (tt, levels lines)
  by-start (ItemStart marker) line lines h =
      let i = inside rules parts (continuation_in_item rules (content_column marker line)) (first_content marker line ∷ []) lines in
      put-levels marker.kind (parts i.inner) (parts i.following) (levels i.inner) (levels i.following)
  by-start TextLine line lines h =
      let run = text_run rules (content_of line) lines in
      leaves-levels (leaves_of_run run) (parts run.following) (run-levels run (run-level rules (content_of line) lines)) (levels run.following)

  by-cases : (lines : List LineView) → PartLevels (parts_by_cases rules parts lines)
  unfolding parts_by_cases PartLevels
  by-cases [] = tt
  by-cases (line ∷ lines) = go (is_blank line)
    where
      go : (t : Bool) → PartLevels (elim t [ true ↦ blank (parts lines) | false ↦ parts_by_start rules parts (start_of rules line) line lines ])
      go true = levels lines
      go false = by-start (start_of rules line) line lines (start-level rules line)

within-levels : (rules : Rules) (n : ℕ) (lines : List LineView) → PartLevels (parts_within rules n lines)
unfolding parts_within PartLevels
within-levels rules zero lines = tt
within-levels rules (suc n) lines = by-cases rules (λ fewer. parts_within rules n fewer) (λ fewer. within-levels rules n fewer) lines

pub heading_levels : HeadingLevels
unfolding blocks_of parts_of
heading_levels rules lines = tree-levels (parts_of rules lines) (within-levels rules (size lines) lines)
