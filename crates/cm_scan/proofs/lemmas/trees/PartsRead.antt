-- What the parts of lines hold: HTML only by rules with raw HTML, and infos that the rules leave as they are.
use Rattle.std.proofs.Common.{◌≡◌, ℕ, zero, suc, Bool, true, false, not, ◌||◌, List, [], ◌∷◌, ◌++◌, map, refl, ap, sym, ◌∙◌, Some, None, IfSome, arith}
use Rattle.std.specs.Prelude.{⊤, Option, nat_le, if◌then◌else◌}
use Rattle.std.specs.List.{list_any}
use Rattle.std.specs.Option.{option_map}
use Rattle.std.proofs.lemmas.Option.{none-some}
use Rattle.cm_text.specs.Rules.{Rules}
use Rattle.cm_text.specs.Lines.{LineView}
use Rattle.cm_text.specs.Indentation.{indent_of}
use Rattle.cm_text.specs.Unescaping.{unescape}
use Rattle.cm_tree.specs.declared.tree.ListKind.{ListKind}
use Rattle.cm_tree.specs.Followed.{is_line_space, is_read_info}
use Rattle.cm_scan.specs.Words.{given, ◌<|>◌, begins_with, trim_end}
use Rattle.cm_scan.specs.blocks.Lines.{is_blank, content_of}
use Rattle.cm_scan.specs.inlines.Links.{LinkDefinition, definitions_of}
use Rattle.cm_scan.specs.blocks.LineForms.{Heading, atx_heading, opening_fence, is_thematic_break, item_marker, Fence, ItemMarker}
use Rattle.cm_scan.specs.blocks.HtmlBlocks.{HtmlKind, html_start}
use Rattle.cm_scan.specs.blocks.Starts.{Start, IndentedCode, QuoteMarker, AtxHeading, OpeningFence, HtmlStart, BreakLine, ItemStart, TextLine, start_of, start_of_content, or_text, content_column, first_content, continuation_in_item}
use Rattle.cm_scan.specs.blocks.Parts.{as_space, info_of, LeafPart, code, html, Parts, none, blank, leaf, quote, list, ItemParts, last_item, item, next_items, put_before, put_item, put_leaves}
use Rattle.cm_scan.specs.blocks.Blocks.{TextRun, text_run, definition_leaves, content_leaf, leaves_of_run, quote_parts, item_parts, fence_parts, html_parts, code_parts, text_parts, parts_by_start, parts_by_cases, parts_within, inside}
use Rattle.cm_scan.specs.steps.LineSteps.{start_by}
use Rattle.cm_scan.proofs.lemmas.blocks.HtmlStarts.{no_start_without}

abbrev pub IsRead : Rules → LeafPart → Type 0
IsRead rules (html text) = rules.raw_html ≡ true
IsRead rules (code info text) = is_read_info rules info ≡ true
IsRead rules _ = ⊤

unfoldable mutual
  pub AreRead : Rules → Parts → Type 0
  AreRead rules none = ⊤
  AreRead rules (blank rest) = AreRead rules rest
  AreRead rules (leaf x lines rest) = IsRead rules x × AreRead rules rest
  AreRead rules (quote inside rest) = AreRead rules inside × AreRead rules rest
  AreRead rules (list kind items rest) = ItemsAreRead rules items × AreRead rules rest

  pub ItemsAreRead : Rules → ItemParts → Type 0
  ItemsAreRead rules (last_item inside) = AreRead rules inside
  ItemsAreRead rules (item inside blanks items) = AreRead rules inside × ItemsAreRead rules items

-- infos

or-none : (t : Bool) → (t || true) ≡ true
or-none true = refl
or-none false = refl

no-line-space : (b : ℕ) → is_line_space (as_space b) ≡ false
no-line-space b = go (is_line_space b) refl
  where
    go : (t : Bool) → is_line_space b ≡ t → is_line_space (if t then 32 else b) ≡ false
    go true e = refl
    go false e = e

no-line-spaces : (bs : List ℕ) → list_any is_line_space (map as_space bs) ≡ false
no-line-spaces [] = refl
no-line-spaces (b ∷ bs) = ap (λ t. t || list_any is_line_space (map as_space bs)) (no-line-space b) ∙ no-line-spaces bs

pub info-read : (rules : Rules) (source : List ℕ) → is_read_info rules (info_of rules source) ≡ true
unfolding info_of
info-read rules source = go rules.raw_html
  where
    go : (t : Bool) → (t || not (list_any is_line_space (if t then unescape source else map as_space (unescape source)))) ≡ true
    go true = refl
    go false = ap not (no-line-spaces (unescape source))

module _ (rules : Rules) where
  -- an item before what follows it

  abbrev Following : Type 0
  Following = ℕ × ItemParts × Parts

  abbrev FollowingRead : Option Following → Type 0
  FollowingRead found = IfSome found (λ (f : Following). ItemsAreRead rules f.1 × AreRead rules f.2)

  next-read : (kind : ListKind) (n : ℕ) (p : Parts) → AreRead rules p → FollowingRead (next_items kind n p)
  unfolding next_items AreRead
  next-read kind n none h = tt
  next-read kind n (blank rest) h = next-read kind (suc n) rest h
  next-read kind n (leaf x lines rest) h = tt
  next-read kind n (quote inside rest) h = tt
  next-read kind n (list other items rest) h = grind (arith, h)

  put-read : (kind : ListKind) (inside p : Parts) → AreRead rules inside → AreRead rules p → AreRead rules (put_item kind inside p)
  unfolding put_item AreRead ItemsAreRead
  put-read kind inside p h k = go (next_items kind 0 p) (next-read kind 0 p k)
    where
      go : (found : Option Following) → FollowingRead found → AreRead rules (put_before kind inside p found)
      go None l = (h, k)
      go (Some f) l = ((h, l.0), l.1)

  -- the starts of lines

  abbrev StartRead : Start → Type 0
  StartRead (HtmlStart kind) = rules.raw_html ≡ true
  StartRead start = ⊤

  kind-read : (text : List ℕ) (kind : HtmlKind) → html_start rules text ≡ Some kind → rules.raw_html ≡ true
  kind-read text kind e = go rules.raw_html refl
    where
      go : (t : Bool) → rules.raw_html ≡ t → t ≡ true
      go true on = refl
      go false off = absurd (none-some kind (sym (no_start_without rules off text) ∙ e))

  start-read : (line : LineView) → StartRead (start_of rules line)
  unfolding start_of start_of_content
  start-read line = by_mark line.lazy (nat_le 4 (indent_of line)) (start_of_content rules (content_of line)) (content-read (content_of line))
    where
      by_mark : (lazy indented : Bool) (start : Start) → StartRead start → StartRead (start_by lazy indented start)
      by_mark true indented start h = tt
      by_mark false true start h = tt
      by_mark false false start h = h

      first : (quoted : Bool) (atx : Option Heading) (fence : Option Fence) (kind : Option HtmlKind) (t : Bool) (marker : Option ItemMarker)
          → ((k : HtmlKind) → kind ≡ Some k → rules.raw_html ≡ true)
          → StartRead (or_text (given quoted QuoteMarker <|> option_map AtxHeading atx <|> option_map OpeningFence fence <|> option_map HtmlStart kind <|> given t BreakLine <|> option_map ItemStart marker))
      first true atx fence kind t marker h = tt
      first false (Some a) fence kind t marker h = tt
      first false None (Some f) kind t marker h = tt
      first false None None (Some k) t marker h = h k refl
      first false None None None true marker h = tt
      first false None None None false (Some m) h = tt
      first false None None None false None h = tt

      content-read : (text : List ℕ) → StartRead (start_of_content rules text)
      content-read text = first (begins_with 62 text) (atx_heading text) (opening_fence text) (html_start rules text) (is_thematic_break text) (item_marker text) (kind-read text)

  -- runs of text

  abbrev LeavesRead : List (LeafPart × ℕ) → Type 0
  LeavesRead [] = ⊤
  LeavesRead (x ∷ xs) = IsRead rules x.0 × LeavesRead xs

  both-read : (xs ys : List (LeafPart × ℕ)) → LeavesRead xs → LeavesRead ys → LeavesRead (xs ++ ys)
  both-read [] ys h k = k
  both-read (x ∷ xs) ys h k = (h.0, both-read xs ys h.1 k)

  definitions-read : (text : List ℕ) (ds : List LinkDefinition) → LeavesRead (definition_leaves text ds)
  unfolding definition_leaves
  definitions-read text [] = tt
  definitions-read text (d ∷ ds) = (tt, definitions-read d.rest ds)

  content-leaf-read : (level : Option ℕ) (source : List ℕ) → LeavesRead (content_leaf level source)
  content-leaf-read level [] = tt
  content-leaf-read None (b ∷ bs) = (tt, tt)
  content-leaf-read (Some level) (b ∷ bs) = (tt, tt)

  run-read : (run : TextRun) → LeavesRead (leaves_of_run run)
  unfolding leaves_of_run
  run-read run =
      let source = trim_end run.source in
      let found = definitions_of source in
      both-read (definition_leaves source found.taken) (content_leaf run.level found.left) (definitions-read source found.taken) (content-leaf-read run.level found.left)

  leaves-read : (xs : List (LeafPart × ℕ)) (p : Parts) → LeavesRead xs → AreRead rules p → AreRead rules (put_leaves xs p)
  unfolding put_leaves AreRead
  leaves-read [] p h k = k
  leaves-read (x ∷ xs) p h k = (h.0, leaves-read xs p h.1 k)

  -- all lines

  module _ (parts : List LineView → Parts) (read : (lines : List LineView) → AreRead rules (parts lines)) where
    by-start : (start : Start) (line : LineView) (lines : List LineView) → StartRead start → AreRead rules (parts_by_start rules parts start line lines)
    unfolding parts_by_start quote_parts item_parts fence_parts html_parts code_parts text_parts AreRead
    by-start IndentedCode line lines h = (or-none rules.raw_html, read _)
    by-start QuoteMarker line lines h = (read _, read _)
    by-start (AtxHeading atx) line lines h = (tt, read lines)
    by-start (OpeningFence fence) line lines h = (info-read rules fence.info, read _)
    by-start (HtmlStart kind) line lines h = (h, read _)
    by-start BreakLine line lines h = (tt, read lines)
    by-start (ItemStart marker) line lines h =
        let i = inside rules parts (continuation_in_item rules (content_column marker line)) (first_content marker line ∷ []) lines in
        put-read marker.kind (parts i.inner) (parts i.following) (read i.inner) (read i.following)
    by-start TextLine line lines h =
        let run = text_run rules (content_of line) lines in
        leaves-read (leaves_of_run run) (parts run.following) (run-read run) (read run.following)

    by-cases : (lines : List LineView) → AreRead rules (parts_by_cases rules parts lines)
    unfolding parts_by_cases AreRead
    by-cases [] = tt
    by-cases (line ∷ lines) = go (is_blank line)
      where
        go : (t : Bool) → AreRead rules (elim t [ true ↦ blank (parts lines) | false ↦ parts_by_start rules parts (start_of rules line) line lines ])
        go true = read lines
        go false = by-start (start_of rules line) line lines (start-read line)

pub within-read : (rules : Rules) (n : ℕ) (lines : List LineView) → AreRead rules (parts_within rules n lines)
unfolding parts_within AreRead
within-read rules zero lines = tt
within-read rules (suc n) lines = by-cases rules (λ fewer. parts_within rules n fewer) (λ fewer. within-read rules n fewer) lines
