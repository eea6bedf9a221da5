-- The tree of a spelling is the tree that was spelled.
use Rattle.std.proofs.Common.{◌≡◌, ℕ, not, ◌&&◌, true, false, nat_le, List, [], ◌∷◌, map, Option, Some, None, refl, sym, ap, subst, ◌∙◌}
use Rattle.std.specs.List.{list_any}
use Rattle.std.proofs.lemmas.Bool.{and_parts}
use Rattle.std.proofs.lemmas.Str.{IsUtf8-string_bytes}
use Rattle.std.specs.Prelude.{IsUtf8, String, string_bytes}
use Rattle.cm_text.specs.Rules.{Rules}
use Rattle.cm_text.specs.Lines.{plain_lines_of}
use Rattle.cm_tree.specs.declared.tree.Inline.{Inline}
use Rattle.cm_tree.specs.declared.tree.Block.{Block}
use Rattle.cm_tree.specs.declared.tree.Block.TheVariants.{Paragraph, Heading, Quote, List as ListBlock}
use Rattle.cm_tree.specs.declared.tree.Block.TheViews.{outs-Paragraph, outs-Heading, outs-Code, outs-Html, outs-Break, outs-Definition, outs-Quote, outs-List}
use Rattle.cm_scan.specs.inlines.Brackets.{Defined}
use Rattle.cm_scan.specs.Documents.{content_read, block_read, with_inlines, defined_by, tree_of_lines, tree_of}
use Rattle.cm_scan.specs.inlines.Inlines.{inlines_of}
use Rattle.cm_tree.specs.RawBlocks.{raw_inlines}
use Rattle.cm_scan.specs.Words.{is_empty}
use Rattle.cm_source.specs.declared.why.Why.TheVariants as why
use Rattle.cm_source.specs.Inlines.{spelled_content}
use Rattle.cm_source.specs.InlineRefusals.{refused, paragraph_refusal, heading_refusal, of_paragraph, of_heading}
use Rattle.cm_source.specs.ReadingBack.{sourced, all_sourced, TreesReadBack}
use Rattle.cm_source.specs.Refusals.{IsSpellable, BlockFace, refusal_of_all, refusal_of_items, list_reasons, judged_block}
use Rattle.cm_source.specs.Spelling.{spelling_of}
use Rattle.cm_source.specs.steps.Utf8Inlines.{AreTexts, all_of}
use Rattle.cm_source.specs.steps.Utf8Blocks.{has_texts, utf8_step}
use Rattle.cm_source.proofs.lemmas.shared.AcceptedLemmas.{or-none}
use Rattle.cm_source.proofs.lemmas.shared.BlockInduction.{AllHold, ItemsHold, Cases, all-by-cases}
use Rattle.cm_source.proofs.lemmas.refusals.BlockRefusals.{seen_items}
use Rattle.cm_source.proofs.lemmas.shared.Alike.{refused-as}
use Rattle.cm_source.proofs.lemmas.sources.ContentEnds.{content-ends}
use Rattle.cm_source.proofs.lemmas.ContentsBack.{paragraph-back, heading-back}
use Rattle.cm_source.proofs.lemmas.fitting.TreesAreUtf8.{spellings_have_texts}
use Rattle.cm_source.proofs.lemmas.BlocksBack.{blocks_read_back, spelling_is_text}
use Rattle.cm_source.proofs.lemmas.shared.Computing.{read_block, sourced_block}
use Rattle.cm_tree.proofs.lemmas.BlockFolds as block_fold
use Rattle.cm_source.specs.Refusals as refusals

module _ (rules : Rules) (defined : Defined) where
  -- a source that isn't empty is read
  source-read : (source : List ℕ) → is_empty source ≡ false → content_read rules defined (raw_inlines source) ≡ inlines_of rules defined source
  source-read [] some = absurd (cc some)
  source-read (b ∷ bs) some = refl

  paragraph-read : (content : List Inline) → AreTexts content → paragraph_refusal rules content ≡ None → content_read rules defined (raw_inlines (spelled_content content)) ≡ content
  paragraph-read [] texts e = refl
  paragraph-read (i ∷ is) texts e = source-read (spelled_content (i ∷ is)) (content-ends rules i is of_paragraph None e true).some ∙ paragraph-back rules defined (i ∷ is) e texts

  heading-read : (content : List Inline) → AreTexts content → heading_refusal rules content ≡ None → content_read rules defined (raw_inlines (spelled_content content)) ≡ content
  heading-read [] texts e = refl
  heading-read (i ∷ is) texts e = source-read (spelled_content (i ∷ is)) (content-ends rules i is of_heading None e true).some ∙ heading-back rules defined (i ∷ is) e texts

  -- a block that isn't refused is read from its source
  abbrev ReadsBack : Block → Type 0
  ReadsBack b = has_texts b ≡ true → (before : Option BlockFace) → (judged_block rules b).refusal before ≡ None → block_read rules defined (sourced b) ≡ b

  all-back : (blocks : List Block) → AllHold ReadsBack blocks → all_of (map has_texts blocks) ≡ true → (before : Option BlockFace) → refusal_of_all before (map (judged_block rules) blocks) ≡ None
      → with_inlines rules defined (all_sourced blocks) ≡ blocks
  unfolding AllHold
  all-back [] hold texts before e = refl
  all-back (b ∷ bs) hold texts before e =
      let utf8 = and_parts (has_texts b) (all_of (map has_texts bs)) texts in
      let parts = or-none ((judged_block rules b).refusal before) (refusal_of_all (Some (judged_block rules b).face) (map (judged_block rules) bs)) e in
      ap (λ c. c ∷ with_inlines rules defined (all_sourced bs)) (hold.0 utf8.0 before parts.0) ∙ ap (λ cs. b ∷ cs) (all-back bs hold.1 utf8.1 (Some (judged_block rules b).face) parts.1)

  items-back : (items : List (List Block)) → ItemsHold ReadsBack items → all_of (map all_of (map (map has_texts) items)) ≡ true → refusal_of_items (map (map (judged_block rules)) items) ≡ None
      → map (map (block_read rules defined)) (map (map sourced) items) ≡ items
  unfolding ItemsHold
  items-back [] hold texts e = refl
  items-back (item ∷ items) hold texts e =
      let utf8 = and_parts (all_of (map has_texts item)) (all_of (map all_of (map (map has_texts) items))) texts in
      let parts = or-none (refusal_of_all None (map (judged_block rules) item)) (refusal_of_items (map (map (judged_block rules)) items)) e in
      ap (λ c. c ∷ map (map (block_read rules defined)) (map (map sourced) items)) (all-back item hold.0 utf8.0 None parts.0) ∙ ap (λ cs. item ∷ cs) (items-back items hold.1 utf8.1 parts.1)

  cases : Cases ReadsBack
  cases = record {
    paragraph = λ content texts before e.
        let accepted = or-none (refused ((not (list_any (λ i. true) content), why.Shape) ∷ [])) (paragraph_refusal rules content) (refused-as (block_fold.paragraph (refusals.block_step rules) content) before e) in
        simp (sourced_block, read_block, outs-Paragraph) (ap Paragraph (paragraph-read content (sym (block_fold.paragraph utf8_step content) ∙ texts) accepted.1));
    heading = λ level content texts before e.
        let accepted = or-none (refused ((not (nat_le 1 level && nat_le level 6), why.Shape) ∷ [])) (heading_refusal rules content) (refused-as (block_fold.heading (refusals.block_step rules) level content) before e) in
        simp (sourced_block, read_block, outs-Heading) (ap (Heading level) (heading-read content (sym (block_fold.heading utf8_step level content) ∙ texts) accepted.1));
    code = λ info text texts before e. simp (sourced_block, read_block, outs-Code);
    html = λ text texts before e. simp (sourced_block, read_block, outs-Html);
    thematic_break = λ texts before e. simp (sourced_block, read_block, outs-Break);
    definition = λ label dest title texts before e. simp (sourced_block, read_block, outs-Definition);
    quote = λ blocks hold texts before e.
        simp (sourced_block, read_block, outs-Quote) (ap Quote (all-back blocks hold (sym (block_fold.quote utf8_step blocks) ∙ texts) None (refused-as (block_fold.quote (refusals.block_step rules) blocks) before e)));
    list = λ kind tight items hold texts before e.
        let accepted = or-none (refused (list_reasons kind tight (seen_items rules items) before)) (refusal_of_items (map (map (judged_block rules)) items)) (refused-as (block_fold.list (refusals.block_step rules) kind tight items) before e) in
        simp (sourced_block, read_block, outs-List) (ap (ListBlock kind tight) (items-back items hold (sym (block_fold.list utf8_step kind tight items) ∙ texts) accepted.1));
  }

pub trees_read_back : TreesReadBack
trees_read_back rules blocks e utf8 =
    let defined = defined_by rules (plain_lines_of (spelling_of blocks)) in
    ap (λ t. tree_of_lines rules (plain_lines_of t)) (spelling_is_text rules blocks e)
    ∙ ap (with_inlines rules defined) (blocks_read_back rules blocks e)
    ∙ all-back rules defined blocks (all-by-cases (ReadsBack rules defined) (cases rules defined) blocks) (spellings_have_texts rules blocks e utf8) None e

-- so what a program has as the spelling of a tree reads back as that tree
pub written_reads_back : {Z : Type 0} (rules : Rules) (blocks : List Block) (text : String Z) → IsSpellable rules blocks → string_bytes text ≡ spelling_of blocks
    → tree_of rules (string_bytes text) ≡ blocks
written_reads_back rules blocks text e is = ap (tree_of rules) is ∙ trees_read_back rules blocks e (subst IsUtf8 is (IsUtf8-string_bytes text))
