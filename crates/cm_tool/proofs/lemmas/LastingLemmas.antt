-- What rewriting writes is rewritten to itself: it has no definitions, and reads back.
use Rattle.std.proofs.Common.{◌≡◌, ◌∙◌, ℕ, ◌≤◌, Bool, true, false, not, cond, List, [], ◌∷◌, map, None, refl, sym, ap, subst, arith}
use Rattle.std.specs.Prelude.{IsUtf8}
use Rattle.cm_text.specs.Limits.{LimitsView}
use Rattle.cm_tree.specs.Depth.{greatest, depth_of_block, blocks_depth, block_depth_step}
use Rattle.cm_tree.specs.steps.ItemSteps.{items_depth}
use Rattle.cm_tree.specs.declared.tree.Block.{Block}
use Rattle.cm_tree.specs.declared.tree.Block.TheFolds.{fold_out-Block}
use Rattle.cm_tree.specs.declared.tree.Block.TheVariants.{Paragraph, Heading, Code, Html, Break, Definition, Quote, List as ListBlock, outs-Paragraph, outs-Heading, outs-Code, outs-Html, outs-Break, outs-Definition, outs-Quote}
use Rattle.cm_scan.specs.Documents.{tree_of}
use Rattle.cm_source.specs.Definitions.{is_definition, cleared, cleared_step, kept, without_definitions}
use Rattle.cm_source.specs.Refusals.{IsSpellable}
use Rattle.cm_source.specs.Spelling.{spelling_of}
use Rattle.cm_source.proofs.lemmas.shared.BlockInduction.{AllHold, ItemsHold, Cases, all-by-cases}
use Rattle.cm_source.proofs.lemmas.spelling.WithoutDefinitions.{list_cleared}
use Rattle.cm_source.proofs.lemmas.DocumentsBack.{trees_read_back}
use Rattle.cm_tool.specs.Faults.{fault_of}
use Rattle.std.specs.List.{concat, flat_map}
use Rattle.cm_tool.specs.Leaves.{depths_in, depths_step, leaf_depths}
use Rattle.cm_tool.specs.Rewriting.{IsLasting, kept_tree, rewritten}
use Rattle.cm_tool.specs.Within.{IsWithin}
use Rattle.cm_tool.proofs.lemmas.DepthLemmas.{greatest_append}
use Rattle.cm_tool.proofs.lemmas.WithinLemmas.{no_fault_just_within, spelled_without_fault}
use Rattle.cm_tree.proofs.lemmas.BlockFolds as block_fold

-- one more block, whether it is a definition or not
kept-more : (c : Block) (cs : List Block) → cleared c ≡ c → kept (map cleared (kept cs)) ≡ kept cs → kept (map cleared (kept (c ∷ cs))) ≡ kept (c ∷ cs)
kept-more c cs same rest = by-test (is_definition c) refl
  where
    With : Bool → Type 0
    With d = kept (map cleared (cond (not d) (c ∷ kept cs) (kept cs))) ≡ cond (not d) (c ∷ kept cs) (kept cs)

    by-test : (d : Bool) → is_definition c ≡ d → kept (map cleared (kept (c ∷ cs))) ≡ kept (c ∷ cs)
    by-test true e = subst With (sym e) rest
    by-test false e =
        let others = kept (map cleared (kept cs)) in
        subst With (sym e) (ap (λ b. kept (b ∷ map cleared (kept cs))) same ∙ ap (λ d. cond (not d) (c ∷ others) others) e ∙ ap (λ bs. c ∷ bs) rest)

abbrev IsCleared : Block → Type 0
IsCleared b = cleared (cleared b) ≡ cleared b

all-cleared : (bs : List Block) → AllHold IsCleared bs → without_definitions (without_definitions bs) ≡ without_definitions bs
unfolding AllHold
all-cleared [] h = refl
all-cleared (b ∷ bs) h = kept-more (cleared b) (map cleared bs) h.0 (all-cleared bs h.1)

items-cleared : (items : List (List Block)) → ItemsHold IsCleared items → map without_definitions (map without_definitions items) ≡ map without_definitions items
unfolding ItemsHold
items-cleared [] h = refl
items-cleared (item ∷ items) h =
    ap (λ bs. bs ∷ map without_definitions (map without_definitions items)) (all-cleared item h.0) ∙ ap (λ bs. without_definitions item ∷ bs) (items-cleared items h.1)

quote-cleared : (bs : List Block) → cleared (Quote bs) ≡ Quote (without_definitions bs)
quote-cleared bs = simp (fold_out-Block Block cleared_step, outs-Quote) refl

as-it-was : (b : Block) → cleared b ≡ b → IsCleared b
as-it-was b same = ap cleared same

clearing : Cases IsCleared
clearing = record {
  paragraph = λ content. as-it-was (Paragraph content) (simp (fold_out-Block Block cleared_step, outs-Paragraph) refl);
  heading = λ level content. as-it-was (Heading level content) (simp (fold_out-Block Block cleared_step, outs-Heading) refl);
  code = λ info text. as-it-was (Code info text) (simp (fold_out-Block Block cleared_step, outs-Code) refl);
  html = λ text. as-it-was (Html text) (simp (fold_out-Block Block cleared_step, outs-Html) refl);
  thematic_break = as-it-was Break (simp (fold_out-Block Block cleared_step, outs-Break) refl);
  definition = λ label dest title. as-it-was (Definition label dest title) (simp (fold_out-Block Block cleared_step, outs-Definition) refl);
  quote = λ bs h. ap cleared (quote-cleared bs) ∙ quote-cleared (without_definitions bs) ∙ ap Quote (all-cleared bs h) ∙ sym (quote-cleared bs);
  list = λ kind tight items h. ap cleared (list_cleared kind tight items) ∙ list_cleared kind tight (map without_definitions items)
      ∙ ap (ListBlock kind tight) (items-cleared items h) ∙ sym (list_cleared kind tight items);
}

-- taking the definitions out twice takes no more out
pub cleared_twice : (bs : List Block) → without_definitions (without_definitions bs) ≡ without_definitions bs
cleared_twice bs = all-cleared bs (all-by-cases IsCleared clearing bs)

-- ---- and makes nothing deeper

-- a block without the definitions inside is no deeper, nor are the inlines of its leaves
abbrev IsNoDeeper : Block → Type 0
IsNoDeeper b = (depth_of_block (cleared b) ≤ depth_of_block b) × (greatest (depths_in (cleared b)) ≤ greatest (depths_in b))

one-more : (c b : Block) (cs bs : List Block) → depth_of_block c ≤ depth_of_block b → greatest (depths_in c) ≤ greatest (depths_in b)
    → blocks_depth (kept cs) ≤ blocks_depth bs → greatest (leaf_depths (kept cs)) ≤ greatest (leaf_depths bs)
    → (blocks_depth (kept (c ∷ cs)) ≤ blocks_depth (b ∷ bs)) × (greatest (leaf_depths (kept (c ∷ cs))) ≤ greatest (leaf_depths (b ∷ bs)))
one-more c b cs bs block leaf blocks leaves = by-test (not (is_definition c))
  where
    by-test : (stays : Bool) → (blocks_depth (cond stays (c ∷ kept cs) (kept cs)) ≤ blocks_depth (b ∷ bs))
        × (greatest (leaf_depths (cond stays (c ∷ kept cs) (kept cs))) ≤ greatest (leaf_depths (b ∷ bs)))
    by-test true = (
      omega (arith, block, blocks),
      omega (arith, leaf, leaves, greatest_append (depths_in c) (leaf_depths (kept cs)), greatest_append (depths_in b) (leaf_depths bs)),
    )
    by-test false = (omega (arith, blocks), omega (arith, leaves, greatest_append (depths_in b) (leaf_depths bs)))

all-no-deeper : (bs : List Block) → AllHold IsNoDeeper bs
    → (blocks_depth (without_definitions bs) ≤ blocks_depth bs) × (greatest (leaf_depths (without_definitions bs)) ≤ greatest (leaf_depths bs))
unfolding AllHold
all-no-deeper [] h = (omega arith, omega arith)
all-no-deeper (b ∷ bs) h = let more = all-no-deeper bs h.1 in one-more (cleared b) b (map cleared bs) bs h.0.0 h.0.1 more.0 more.1

items-no-deeper : (items : List (List Block)) → ItemsHold IsNoDeeper items → (items_depth (map without_definitions items) ≤ items_depth items)
    × (greatest (flat_map concat (map (map depths_in) (map without_definitions items))) ≤ greatest (flat_map concat (map (map depths_in) items)))
unfolding ItemsHold
items-no-deeper [] h = (omega arith, omega arith)
items-no-deeper (item ∷ items) h =
    let one = all-no-deeper item h.0 in
    let more = items-no-deeper items h.1 in (
      omega (arith, one.0, more.0),
      omega (
        arith,
        one.1,
        more.1,
        greatest_append (leaf_depths (without_definitions item)) (flat_map concat (map (map depths_in) (map without_definitions items))),
        greatest_append (leaf_depths item) (flat_map concat (map (map depths_in) items)),
      ),
    )

as-deep : (b : Block) → cleared b ≡ b → IsNoDeeper b
as-deep b same = subst (λ c. (depth_of_block c ≤ depth_of_block b) × (greatest (depths_in c) ≤ greatest (depths_in b))) (sym same) (omega arith, omega arith)

no-deeper : Cases IsNoDeeper
no-deeper = record {
  paragraph = λ content. as-deep (Paragraph content) (simp (fold_out-Block Block cleared_step, outs-Paragraph) refl);
  heading = λ level content. as-deep (Heading level content) (simp (fold_out-Block Block cleared_step, outs-Heading) refl);
  code = λ info text. as-deep (Code info text) (simp (fold_out-Block Block cleared_step, outs-Code) refl);
  html = λ text. as-deep (Html text) (simp (fold_out-Block Block cleared_step, outs-Html) refl);
  thematic_break = as-deep Break (simp (fold_out-Block Block cleared_step, outs-Break) refl);
  definition = λ label dest title. as-deep (Definition label dest title) (simp (fold_out-Block Block cleared_step, outs-Definition) refl);
  quote = λ bs h.
      let within = all-no-deeper bs h in (
        omega (arith, within.0, ap depth_of_block (quote-cleared bs) ∙ block_fold.quote block_depth_step (without_definitions bs), block_fold.quote block_depth_step bs),
        omega (arith, within.1, ap (λ b. greatest (depths_in b)) (quote-cleared bs) ∙ ap greatest (block_fold.quote depths_step (without_definitions bs)), ap greatest (block_fold.quote depths_step bs)),
      );
  list = λ kind tight items h.
      let within = items-no-deeper items h in
      let clear = map without_definitions items in (
        omega (arith, within.0, ap depth_of_block (list_cleared kind tight items) ∙ block_fold.list block_depth_step kind tight clear, block_fold.list block_depth_step kind tight items),
        omega (arith, within.1, ap (λ b. greatest (depths_in b)) (list_cleared kind tight items) ∙ ap greatest (block_fold.list depths_step kind tight clear), ap greatest (block_fold.list depths_step kind tight items)),
      );
}

kept_within : (limits : LimitsView) (blocks : List Block) → IsWithin limits blocks → IsWithin limits (without_definitions blocks)
kept_within limits blocks within =
    let less = all-no-deeper blocks (all-by-cases IsNoDeeper no-deeper blocks) in
    (omega (arith, less.0, within.0), omega (arith, less.1, within.1))

pub is_lasting : (limits : LimitsView) (bytes : List ℕ) → fault_of limits bytes ≡ None → IsSpellable limits.rules (kept_tree limits.rules bytes) → IsUtf8 (rewritten limits.rules bytes)
    → IsLasting limits bytes
is_lasting limits bytes none e utf8 =
    let back = trees_read_back limits.rules (kept_tree limits.rules bytes) e utf8 in
    let within = (no_fault_just_within limits bytes).0 none in (
      e,
      back,
      ap spelling_of (ap without_definitions back ∙ cleared_twice (tree_of limits.rules bytes)),
      λ short. spelled_without_fault limits (kept_tree limits.rules bytes) e utf8 short (kept_within limits (tree_of limits.rules bytes) within.2),
    )
