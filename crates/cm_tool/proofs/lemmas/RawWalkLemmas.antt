-- Blocks whose inlines haven't been read, as they are walked: their leaves, what is written of them, and how deep they nest.
use Rattle.std.proofs.Common.{◌≡◌, ◌∙◌, codes, ℕ, List, [], ◌∷◌, ◌++◌, map, true, false, refl, sym, ap, subst, append_assoc, append-nil}
use Rattle.std.specs.Prelude.{Bool, option_map, None}
use Rattle.std.specs.List.{slice_range}
use Rattle.cm_text.specs.Rules.{Rules}
use Rattle.cm_tree.specs.Depth.{inlines_depth}
use Rattle.cm_tree.specs.declared.tree.Inline.{Inline}
use Rattle.cm_tree.specs.declared.tree.Block.{Block}
use Rattle.cm_tree.specs.declared.tree.Block.TheFolds.{fold_out-Block}
use Rattle.cm_tree.specs.declared.tree.Block.TheVariants.{Paragraph, Heading, Code, Html, Break, Definition, Quote, List as ListBlock, outs-Paragraph, outs-Heading, outs-Code, outs-Html, outs-Break, outs-Definition, outs-Quote, outs-List}
use Rattle.cm_tree.specs.declared.tree.ListKind.{ListKind}
use Rattle.cm_html.specs.Html.{Written, block_step, written, alone, html_of, inlines_html, heading_html, code_html, list_start, list_end, items_html, line_feed_if, inside_from}
use Rattle.cm_html.specs.Html.Written.{Nothing, Inlines, Whole}
use Rattle.cm_html.specs.steps.HtmlParts.{quote_html}
use Rattle.cm_scan.specs.inlines.Brackets.{Defined}
use Rattle.cm_scan.specs.inlines.Inlines.{inlines_of, items_of, items_after}
use Rattle.cm_scan.specs.inlines.Pairing.{settled_after, pair_all, pairs_within}
use Rattle.cm_tree.specs.RawBlocks.{raw_inlines}
use Rattle.cm_scan.specs.Documents.{block_read, content_read, read_step, with_inlines}
use Rattle.cm_tool.specs.declared.fault.Fault.{Fault}
use Rattle.cm_tool.specs.declared.fault.Fault.TheVariants.{InlinesTooDeep}
use Rattle.cm_tree.specs.declared.raw_blocks.RawBlock.{RawBlock}
use Rattle.cm_tree.specs.declared.raw_blocks.RawBlock.TheVariants as raw_block
use Rattle.cm_tree.specs.RawBlocks.{Raw, block_in}
use Rattle.cm_tool.specs.Leaves.{depths_in, depths_step, first_past, leaf_depths}
use Rattle.cm_tool.specs.Parsing.{TellsFault}
use Rattle.cm_tool.specs.steps.Items.{items_read, items_leaf_depths}
use Rattle.cm_tool.specs.steps.Numbering.{Left, Passes, TellsLeaf}
use Rattle.cm_tree.proofs.lemmas.BlockFolds as block_fold

-- ---- chunks one after another

-- between a start and an end
pub enclosed : {A : Type 0} (old started middle done start inside end : List A) → started ≡ old ++ start → middle ≡ started ++ inside → done ≡ middle ++ end
    → done ≡ old ++ (start ++ inside ++ end)
enclosed old started middle done start inside end first then last =
    last ∙ ap (λ t. t ++ end) (then ∙ ap (λ t. t ++ inside) first ∙ append_assoc old start inside) ∙ append_assoc old (start ++ inside) end

module _ (limit : ℕ) where
  pub left_next : (first next after : ℕ) (whole some rest : List ℕ) → Left limit first next whole (some ++ rest) → Passes limit next after some
      → Left limit first after whole rest
  left_next first next after whole some rest so_far pass more =
      so_far more ∙ ap (first_past limit next) (append_assoc some rest more) ∙ pass (rest ++ more)

  pub left_told : (fault : Fault) (first next : ℕ) (whole some rest : List ℕ) → Left limit first next whole (some ++ rest) → TellsLeaf fault limit next some
      → TellsLeaf fault limit first whole
  left_told fault first next whole some rest so_far told more =
      subst (λ leaf. TellsFault fault (option_map InlinesTooDeep leaf))
      (sym (so_far more ∙ ap (first_past limit next) (append_assoc some rest more))) (told (rest ++ more))

  pub left_none : (first next : ℕ) (whole rest : List ℕ) → rest ≡ [] → Left limit first next whole rest → Passes limit first next whole
  left_none first next whole rest none so_far = subst (Left limit first next whole) none so_far

  -- where the first leaf of all is the first of these
  pub none_past : (next : ℕ) (depths : List ℕ) → Passes limit 1 next depths → first_past limit 1 depths ≡ None
  none_past next depths pass = ap (first_past limit 1) (sym (append-nil depths)) ∙ pass []

  pub first_told : (fault : Fault) (depths : List ℕ) → TellsLeaf fault limit 1 depths → TellsFault fault (option_map InlinesTooDeep (first_past limit 1 depths))
  first_told fault depths told = subst (λ ds. TellsFault fault (option_map InlinesTooDeep (first_past limit 1 ds))) (append-nil depths) (told [])

module _ (rules : Rules) (defined : Defined) where
  -- ---- blocks that have been read, and how deep the inlines of their leaves nest

  abbrev pub read : Block → Block
  read block = block_read rules defined block

  pub paragraph_depths : (content : List Inline) → depths_in (read (Paragraph content)) ≡ inlines_depth (content_read rules defined content) ∷ []
  paragraph_depths content = ap depths_in (block_fold.paragraph (read_step rules defined) content) ∙ simp (fold_out-Block (List ℕ) depths_step, outs-Paragraph)

  pub heading_depths : (level : ℕ) (content : List Inline) → depths_in (read (Heading level content)) ≡ inlines_depth (content_read rules defined content) ∷ []
  heading_depths level content = ap depths_in (block_fold.heading (read_step rules defined) level content) ∙ simp (fold_out-Block (List ℕ) depths_step, outs-Heading)

  pub code_depths : (info text : List ℕ) → depths_in (read (Code info text)) ≡ 0 ∷ []
  code_depths info text = simp (fold_out-Block Block (read_step rules defined), fold_out-Block (List ℕ) depths_step, outs-Code)

  pub html_depths : (text : List ℕ) → depths_in (read (Html text)) ≡ 0 ∷ []
  html_depths text = simp (fold_out-Block Block (read_step rules defined), fold_out-Block (List ℕ) depths_step, outs-Html)

  pub break_depths : depths_in (read Break) ≡ 0 ∷ []
  break_depths = simp (fold_out-Block Block (read_step rules defined), fold_out-Block (List ℕ) depths_step, outs-Break)

  pub definition_depths : (label dest title : List ℕ) → depths_in (read (Definition label dest title)) ≡ 0 ∷ []
  definition_depths label dest title = simp (fold_out-Block Block (read_step rules defined), fold_out-Block (List ℕ) depths_step, outs-Definition)

  pub quote_depths : (blocks : List Block) → depths_in (read (Quote blocks)) ≡ leaf_depths (with_inlines rules defined blocks)
  quote_depths blocks = ap depths_in (block_fold.quote (read_step rules defined) blocks) ∙ simp (fold_out-Block (List ℕ) depths_step, outs-Quote)

  pub list_depths : (kind : ListKind) (tight : Bool) (items : List (List Block))
      → depths_in (read (ListBlock kind tight items)) ≡ items_leaf_depths (items_read rules defined items)
  list_depths kind tight items = ap depths_in (block_fold.list (read_step rules defined) kind tight items) ∙ simp (fold_out-Block (List ℕ) depths_step, outs-List)

  -- ---- what they write

  pub paragraph_written : (content : List Inline) → written (read (Paragraph content)) ≡ Inlines (inlines_html (content_read rules defined content))
  paragraph_written content = ap written (block_fold.paragraph (read_step rules defined) content) ∙ simp (fold_out-Block Written block_step, outs-Paragraph)

  pub heading_written : (level : ℕ) (content : List Inline) → written (read (Heading level content)) ≡ Whole (heading_html level (inlines_html (content_read rules defined content)))
  heading_written level content = ap written (block_fold.heading (read_step rules defined) level content) ∙ simp (fold_out-Block Written block_step, outs-Heading)

  pub code_written : (info text : List ℕ) → written (read (Code info text)) ≡ Whole (code_html info text)
  code_written info text = simp (fold_out-Block Block (read_step rules defined), fold_out-Block Written block_step, outs-Code)

  pub html_written : (text : List ℕ) → written (read (Html text)) ≡ Whole text
  html_written text = simp (fold_out-Block Block (read_step rules defined), fold_out-Block Written block_step, outs-Html)

  pub break_written : written (read Break) ≡ Whole (codes "<hr />\n")
  break_written = simp (fold_out-Block Block (read_step rules defined), fold_out-Block Written block_step, outs-Break)

  pub definition_written : (label dest title : List ℕ) → written (read (Definition label dest title)) ≡ Nothing
  definition_written label dest title = simp (fold_out-Block Block (read_step rules defined), fold_out-Block Written block_step, outs-Definition)

  pub quote_written : (blocks : List Block) → written (read (Quote blocks)) ≡ Whole (quote_html (html_of (with_inlines rules defined blocks)))
  quote_written blocks = ap written (block_fold.quote (read_step rules defined) blocks) ∙ simp (fold_out-Block Written block_step, outs-Quote)

  pub list_written : (kind : ListKind) (tight : Bool) (items : List (List Block))
      → written (read (ListBlock kind tight items)) ≡ Whole (list_start kind ++ items_html tight (map (map written) (items_read rules defined items)) ++ list_end kind)
  list_written kind tight items = ap written (block_fold.list (read_step rules defined) kind tight items) ∙ simp (fold_out-Block Written block_step, outs-List)

  -- a block that is neither a paragraph nor a definition
  pub whole_written : (raw : Raw) (block : RawBlock) → ((from to : ℕ) → block ≡ raw_block.Paragraph from to → ⊥)
      → ((label dest title to : ℕ) → block ≡ raw_block.Definition label dest title to → ⊥) → (html : List ℕ) × (written (read (block_in raw block)) ≡ Whole html)
  whole_written raw (raw_block.Paragraph from to) no_paragraph no_definition = absurd (no_paragraph from to refl)
  whole_written raw (raw_block.Heading level from to) no_paragraph no_definition = (_, heading_written level (raw_inlines (slice_range raw.text from to)))
  whole_written raw (raw_block.Code info text to) no_paragraph no_definition = (_, code_written (slice_range raw.text info text) (slice_range raw.text text to))
  whole_written raw (raw_block.Html from to) no_paragraph no_definition = (_, html_written (slice_range raw.text from to))
  whole_written raw raw_block.Break no_paragraph no_definition = (_, break_written)
  whole_written raw (raw_block.Definition label dest title to) no_paragraph no_definition = absurd (no_definition label dest title to refl)
  whole_written raw (raw_block.Quote from to) no_paragraph no_definition = (_, quote_written (slice_range raw.blocks from to))
  whole_written raw (raw_block.List tight kind from to) no_paragraph no_definition = (_, list_written kind tight (slice_range raw.items from to))

  -- ---- one leaf

  -- what the source of a leaf is read as
  pub source_read : (source : List ℕ) → content_read rules defined (raw_inlines source) ≡ inlines_of rules defined source
  unfolding inlines_of settled_after pair_all pairs_within items_of items_after
  source_read [] = refl
  source_read (b ∷ bs) = refl

-- ---- the blocks of an item

-- one that writes nothing, a paragraph of a tight list, a paragraph of a loose one, and another block
pub nothing_inside : (tight fresh : Bool) (w : Written) (others : List Written) (html : List ℕ) → w ≡ Nothing
    → html ++ inside_from tight fresh others ≡ html ++ inside_from tight fresh (w ∷ others)
nothing_inside true fresh w others html is = ap (λ w. html ++ inside_from true fresh (w ∷ others)) (sym is)
nothing_inside false fresh w others html is = ap (λ w. html ++ inside_from false fresh (w ∷ others)) (sym is)

pub inlines_inside : (tight fresh : Bool) (w : Written) (others : List Written) (part old new : List ℕ) → tight ≡ true → w ≡ Inlines part → new ≡ old ++ part
    → new ++ inside_from tight true others ≡ old ++ inside_from tight fresh (w ∷ others)
inlines_inside true fresh w others part old new is_tight is more =
    ap (λ t. t ++ inside_from true true others) more ∙ append_assoc old part (inside_from true true others) ∙ ap (λ w. old ++ inside_from true fresh (w ∷ others)) (sym is)
inlines_inside false fresh w others part old new is_tight is more = absurd (cc is_tight)

pub loose_inlines_inside : (tight fresh : Bool) (w : Written) (others : List Written) (part old new : List ℕ) → tight ≡ false → w ≡ Inlines part
    → new ≡ old ++ (line_feed_if fresh ++ alone w) → new ++ inside_from tight false others ≡ old ++ inside_from tight fresh (w ∷ others)
loose_inlines_inside true fresh w others part old new is_loose is more = absurd (cc is_loose)
loose_inlines_inside false fresh w others part old new is_loose is more =
    ap (λ t. t ++ inside_from false false others) more ∙ append_assoc old (line_feed_if fresh ++ alone w) (inside_from false false others)
    ∙ ap (λ w. old ++ (line_feed_if fresh ++ alone w ++ inside_from false false others)) is ∙ ap (λ w. old ++ inside_from false fresh (w ∷ others)) (sym is)

pub whole_inside : (tight fresh : Bool) (w : Written) (others : List Written) (part old new : List ℕ) → w ≡ Whole part
    → new ≡ old ++ (line_feed_if fresh ++ alone w) → new ++ inside_from tight false others ≡ old ++ inside_from tight fresh (w ∷ others)
whole_inside true fresh w others part old new is more =
    ap (λ t. t ++ inside_from true false others) more ∙ append_assoc old (line_feed_if fresh ++ alone w) (inside_from true false others)
    ∙ ap (λ w. old ++ (line_feed_if fresh ++ alone w ++ inside_from true false others)) is ∙ ap (λ w. old ++ inside_from true fresh (w ∷ others)) (sym is)
whole_inside false fresh w others part old new is more =
    ap (λ t. t ++ inside_from false false others) more ∙ append_assoc old (line_feed_if fresh ++ alone w) (inside_from false false others)
    ∙ ap (λ w. old ++ (line_feed_if fresh ++ alone w ++ inside_from false false others)) is ∙ ap (λ w. old ++ inside_from false fresh (w ∷ others)) (sym is)
