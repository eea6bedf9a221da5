-- What the tree of a text holds, by what its parts hold.
use Rattle.std.proofs.Common.{◌≡◌, ℕ, Bool, true, false, not, ◌&&◌, ◌||◌, List, [], ◌∷◌, map, refl, ap, sym, ◌∙◌}
use Rattle.std.proofs.lemmas.Bool.{true≢false}
use Rattle.cm_text.specs.Rules.{Rules}
use Rattle.cm_text.specs.Lines.{plain_lines_of, text_of}
use Rattle.std.specs.List.{list_any, list_all}
use Rattle.cm_tree.specs.declared.tree.Block.{Block}
use Rattle.cm_tree.specs.declared.tree.Block.TheFolds.{fold_out-Block}
use Rattle.cm_tree.specs.declared.tree.Block.TheVariants.{Quote, List as ListBlock, outs-Paragraph, outs-Heading, outs-Code, outs-Html, outs-Break, outs-Definition, outs-Quote, outs-List}
use Rattle.cm_tree.specs.declared.tree.Inline.TheVariants.{outs-Text}
use Rattle.cm_tree.specs.declared.tree.Inline.TheFolds.{fold_out-Inline}
use Rattle.cm_tree.specs.declared.tree.ListKind.{ListKind}
use Rattle.cm_tree.specs.RawBlocks.{raw_inlines}
use Rattle.cm_tree.specs.RawHtml.{raw_inline_step, inlines_have_raw, raw_block_step, block_has_raw, blocks_have_raw, any_of}
use Rattle.cm_tree.specs.HeadingLevels.{all_of}
use Rattle.cm_tree.specs.Followed.{inlines_are_followed, followed_block_step, block_is_followed, blocks_are_followed}
use Rattle.cm_scan.specs.blocks.Lines.{size}
use Rattle.cm_scan.specs.inlines.Brackets.{Defined}
use Rattle.cm_scan.specs.blocks.Parts.{LeafPart, paragraph, heading, code, html, thematic_break, definition, Parts, none, blank, leaf, quote, list, ItemParts, last_item, item, leaf_block, is_loose, blocks_of_parts, blocks_of_items}
use Rattle.cm_scan.specs.blocks.Blocks.{blocks_of, parts_of}
use Rattle.cm_scan.specs.Documents.{content_read, read_step, block_read, defined_by}
use Rattle.cm_scan.specs.laws.RuleLaws.{NoHtmlBlock, NoHtml, TreesFollowed}
use Rattle.cm_scan.proofs.lemmas.trees.PartsRead.{IsRead, AreRead, ItemsAreRead, within-read}
use Rattle.cm_scan.proofs.lemmas.trees.InlinesRead.{no_raw_html, inlines_followed}

-- what a block holds, and what blocks and items do
record Kept (rules : Rules) : Type 1 where
  Ok : Block → Type 0
  All : List Block → Type 0
  Items : List (List Block) → Type 0
  nothing : All []
  more : (block : Block) (blocks : List Block) → Ok block → All blocks → All (block ∷ blocks)
  no_items : Items []
  more_items : (blocks : List Block) (items : List (List Block)) → All blocks → Items items → Items (blocks ∷ items)
  leaves : (x : LeafPart) → IsRead rules x → Ok (leaf_block x)
  quotes : (blocks : List Block) → All blocks → Ok (Quote blocks)
  lists : (kind : ListKind) (tight : Bool) (items : List (List Block)) → Items items → Ok (ListBlock kind tight items)

module _ (rules : Rules) (K : Kept rules) where
  mutual
    unfolding blocks_of_parts blocks_of_items AreRead ItemsAreRead

    all-ok : (p : Parts) → AreRead rules p → K.All (blocks_of_parts p)
    all-ok none h = K.nothing
    all-ok (blank rest) h = all-ok rest h
    all-ok (leaf x lines rest) h = K.more (leaf_block x) (blocks_of_parts rest) (K.leaves x h.0) (all-ok rest h.1)
    all-ok (quote inside rest) h =
        K.more (Quote (blocks_of_parts inside)) (blocks_of_parts rest) (K.quotes (blocks_of_parts inside) (all-ok inside h.0)) (all-ok rest h.1)
    all-ok (list kind items rest) h =
        K.more (ListBlock kind (not (is_loose items)) (blocks_of_items items)) (blocks_of_parts rest)
        (K.lists kind (not (is_loose items)) (blocks_of_items items) (items-ok items h.0)) (all-ok rest h.1)

    items-ok : (items : ItemParts) → ItemsAreRead rules items → K.Items (blocks_of_items items)
    items-ok (last_item inside) h = K.more_items (blocks_of_parts inside) [] (all-ok inside h) K.no_items
    items-ok (item inside blanks items) h = K.more_items (blocks_of_parts inside) (blocks_of_items items) (all-ok inside h.0) (items-ok items h.1)

neither : (a b : Bool) → a ≡ false → b ≡ false → (a || b) ≡ false
neither a b p q = ap (λ t. t || b) p ∙ q

both : (a b : Bool) → a ≡ true → b ≡ true → (a && b) ≡ true
both a b p q = ap (λ t. t && b) p ∙ q

-- raw HTML in an outline

source-free : (source : List ℕ) → inlines_have_raw (raw_inlines source) ≡ false
source-free [] = refl
source-free (b ∷ bs) = simp (fold_out-Inline Bool raw_inline_step, outs-Text)

module _ (rules : Rules) (off : rules.raw_html ≡ false) where
  free-leaf : (x : LeafPart) → IsRead rules x → block_has_raw (leaf_block x) ≡ false
  free-leaf (paragraph source) h = simp (fold_out-Block Bool raw_block_step, outs-Paragraph, source-free source)
  free-leaf (heading level source) h = simp (fold_out-Block Bool raw_block_step, outs-Heading, source-free source)
  free-leaf (code info text) h = simp (fold_out-Block Bool raw_block_step, outs-Code)
  free-leaf (html text) h = absurd (true≢false (sym h ∙ off))
  free-leaf thematic_break h = simp (fold_out-Block Bool raw_block_step, outs-Break)
  free-leaf (definition label dest title) h = simp (fold_out-Block Bool raw_block_step, outs-Definition)

  abbrev free : Kept rules
  free = record {
    Ok = λ block. block_has_raw block ≡ false;
    All = λ blocks. blocks_have_raw blocks ≡ false;
    Items = λ items. list_any any_of (map (map block_has_raw) items) ≡ false;
    nothing = refl;
    more = λ block blocks h k. neither (block_has_raw block) (blocks_have_raw blocks) h k;
    no_items = refl;
    more_items = λ blocks items h k. neither (blocks_have_raw blocks) (list_any any_of (map (map block_has_raw) items)) h k;
    leaves = free-leaf;
    quotes = λ blocks h. simp (fold_out-Block Bool raw_block_step, outs-Quote) h;
    lists = λ kind tight items h. simp (fold_out-Block Bool raw_block_step, outs-List) h;
  }

pub no_html_block : NoHtmlBlock
unfolding blocks_of parts_of
no_html_block rules off lines = all-ok rules (free rules off) (parts_of rules lines) (within-read rules (size lines) lines)

-- raw HTML in a tree

module _ (rules : Rules) (defined : Defined) where
  abbrev turned : Block → Block
  turned = block_read rules defined

  module _ (off : rules.raw_html ≡ false) where
    content-free : (source : List ℕ) → inlines_have_raw (content_read rules defined (raw_inlines source)) ≡ false
    content-free [] = refl
    content-free (b ∷ bs) = no_raw_html rules off defined (b ∷ bs)

    tree-leaf-free : (x : LeafPart) → IsRead rules x → block_has_raw (turned (leaf_block x)) ≡ false
    tree-leaf-free (paragraph source) h = simp (fold_out-Block Block (read_step rules defined), fold_out-Block Bool raw_block_step, outs-Paragraph) (content-free source)
    tree-leaf-free (heading level source) h = simp (fold_out-Block Block (read_step rules defined), fold_out-Block Bool raw_block_step, outs-Heading) (content-free source)
    tree-leaf-free (code info text) h = simp (fold_out-Block Block (read_step rules defined), fold_out-Block Bool raw_block_step, outs-Code)
    tree-leaf-free (html text) h = absurd (true≢false (sym h ∙ off))
    tree-leaf-free thematic_break h = simp (fold_out-Block Block (read_step rules defined), fold_out-Block Bool raw_block_step, outs-Break)
    tree-leaf-free (definition label dest title) h = simp (fold_out-Block Block (read_step rules defined), fold_out-Block Bool raw_block_step, outs-Definition)

    abbrev tree-free : Kept rules
    tree-free = record {
      Ok = λ block. block_has_raw (turned block) ≡ false;
      All = λ blocks. blocks_have_raw (map turned blocks) ≡ false;
      Items = λ items. list_any any_of (map (map block_has_raw) (map (map turned) items)) ≡ false;
      nothing = refl;
      more = λ block blocks h k. neither (block_has_raw (turned block)) (blocks_have_raw (map turned blocks)) h k;
      no_items = refl;
      more_items = λ blocks items h k. neither (blocks_have_raw (map turned blocks)) (list_any any_of (map (map block_has_raw) (map (map turned) items))) h k;
      leaves = tree-leaf-free;
      quotes = λ blocks h. simp (fold_out-Block Block (read_step rules defined), fold_out-Block Bool raw_block_step, outs-Quote) h;
      lists = λ kind tight items h. simp (fold_out-Block Block (read_step rules defined), fold_out-Block Bool raw_block_step, outs-List) h;
    }

  -- addresses and infos in a tree

  content-followed : (source : List ℕ) → inlines_are_followed rules (content_read rules defined (raw_inlines source)) ≡ true
  content-followed [] = refl
  content-followed (b ∷ bs) = inlines_followed rules defined (b ∷ bs)

  leaf-followed : (x : LeafPart) → IsRead rules x → block_is_followed rules (turned (leaf_block x)) ≡ true
  leaf-followed (paragraph source) h = simp (fold_out-Block Block (read_step rules defined), fold_out-Block Bool (followed_block_step rules), outs-Paragraph) (content-followed source)
  leaf-followed (heading level source) h = simp (fold_out-Block Block (read_step rules defined), fold_out-Block Bool (followed_block_step rules), outs-Heading) (content-followed source)
  leaf-followed (code info text) h = simp (fold_out-Block Block (read_step rules defined), fold_out-Block Bool (followed_block_step rules), outs-Code) h
  leaf-followed (html text) h = simp (fold_out-Block Block (read_step rules defined), fold_out-Block Bool (followed_block_step rules), outs-Html)
  leaf-followed thematic_break h = simp (fold_out-Block Block (read_step rules defined), fold_out-Block Bool (followed_block_step rules), outs-Break)
  leaf-followed (definition label dest title) h = simp (fold_out-Block Block (read_step rules defined), fold_out-Block Bool (followed_block_step rules), outs-Definition)

  abbrev followed : Kept rules
  followed = record {
    Ok = λ block. block_is_followed rules (turned block) ≡ true;
    All = λ blocks. blocks_are_followed rules (map turned blocks) ≡ true;
    Items = λ items. list_all all_of (map (map (block_is_followed rules)) (map (map turned) items)) ≡ true;
    nothing = refl;
    more = λ block blocks h k. both (block_is_followed rules (turned block)) (blocks_are_followed rules (map turned blocks)) h k;
    no_items = refl;
    more_items = λ blocks items h k. both (blocks_are_followed rules (map turned blocks)) (list_all all_of (map (map (block_is_followed rules)) (map (map turned) items))) h k;
    leaves = leaf-followed;
    quotes = λ blocks h. simp (fold_out-Block Block (read_step rules defined), fold_out-Block Bool (followed_block_step rules), outs-Quote) h;
    lists = λ kind tight items h. simp (fold_out-Block Block (read_step rules defined), fold_out-Block Bool (followed_block_step rules), outs-List) h;
  }

pub no_html : NoHtml
unfolding blocks_of parts_of
no_html rules off bytes =
    let lines = plain_lines_of (text_of bytes) in
    all-ok rules (tree-free rules (defined_by rules lines) off) (parts_of rules lines) (within-read rules (size lines) lines)

pub trees_followed : TreesFollowed
unfolding blocks_of parts_of
trees_followed rules bytes =
    let lines = plain_lines_of (text_of bytes) in
    all-ok rules (followed rules (defined_by rules lines)) (parts_of rules lines) (within-read rules (size lines) lines)
