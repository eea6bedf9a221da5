-- How blocks are judged.
use Rattle.std.proofs.Common.{◌≡◌, Bool, true, false, not, ◌&&◌, List, [], ◌∷◌, map, Option, refl, sym, ap, ◌∙◌, ◌==◌, ◌<◌, ◌≤◌, length, get_or, arith}
use Rattle.std.specs.List.{list_any}
use Rattle.std.proofs.lemmas.Bool.{ne_eqb}
use Rattle.cm_text.specs.Rules.{Rules}
use Rattle.cm_tree.specs.declared.tree.Block.{Block}
use Rattle.cm_tree.specs.declared.tree.Block.TheVariants.{List as ListBlock}
use Rattle.cm_tree.specs.declared.tree.ListKind.{ListKind}
use Rattle.cm_scan.specs.Words.{◌<|>◌}
use Rattle.cm_source.specs.InlineRefusals.{refused}
use Rattle.cm_source.specs.Refusals as refusals
use Rattle.cm_source.specs.Refusals.{is_list, has_two, can_follow, is_tight_item, is_filled, faces, list_reasons, refusal_of_items, JudgedBlock, judged_block}
use Rattle.cm_source.specs.declared.refusals.Face.{Face}
use Rattle.cm_source.specs.declared.refusals.Face.TheVariants.{Paragraph, Code, Quote, List as ListFace, Other}
use Rattle.cm_source.specs.steps.BlockFaces.{is_paragraph}
use Rattle.cm_source.specs.Faces.{shown}
use Rattle.cm_tree.proofs.lemmas.BlockFolds as block_fold

pub filled-first : (rules : Rules) (item : List Block) (items : List (List Block)) → not (length item == 0) ≡ is_filled (map (map (judged_block rules)) (item ∷ items))
filled-first rules [] items = refl
filled-first rules (b ∷ bs) items = ap not (ne_eqb (length (b ∷ bs)) 0 (λ e. omega (arith, e)))

pub no-list : (face : Face) (others : List refusals.BlockFace) → ((kind : ListKind) (filled : Bool) → face ≡ ListFace kind filled → ⊥) → false ≡ is_list (shown face ∷ others)
no-list Paragraph others h = refl
no-list Code others h = refl
no-list Quote others h = refl
no-list (ListFace kind filled) others h = absurd (h kind filled refl)
no-list Other others h = refl

pub two-of : (rules : Rules) (item : List Block) → 1 < length item → has_two (faces (map (judged_block rules) item)) ≡ true
two-of rules [] many = absurd (omega arith)
two-of rules (one ∷ []) many = absurd (omega arith)
two-of rules (one ∷ other ∷ others) many = refl

pub not-two : (rules : Rules) (item : List Block) → length item ≤ 1 → has_two (faces (map (judged_block rules) item)) ≡ false
not-two rules [] few = refl
not-two rules (one ∷ []) few = refl
not-two rules (one ∷ other ∷ others) few = absurd (omega arith)

-- what is seen of the items of a list
abbrev pub seen_items : Rules → List (List Block) → List (List refusals.BlockFace)
seen_items rules items = map faces (map (map (judged_block rules)) items)

pub no-items : (rules : Rules) (items : List (List Block)) → (length items == 0) ≡ not (list_any (λ item. true) (seen_items rules items))
no-items rules [] = refl
no-items rules (item ∷ items) = ne_eqb (length (item ∷ items)) 0 (λ e. omega (arith, e))

pub few-items : (rules : Rules) (items : List (List Block)) → length items ≤ 1 → has_two (seen_items rules items) ≡ false
few-items rules [] few = refl
few-items rules (one ∷ []) few = refl
few-items rules (one ∷ other ∷ others) few = absurd (omega arith)

pub pair-of : (blocks : List Block) (first next : Block) → 2 ≤ length blocks → length blocks < 3 → first ≡ get_or blocks 0 first → next ≡ get_or blocks 1 next → blocks ≡ first ∷ next ∷ []
pair-of [] first next low high e f = absurd (omega arith)
pair-of (one ∷ []) first next low high e f = absurd (omega arith)
pair-of (one ∷ other ∷ []) first next low high e f = ap (λ x. x ∷ other ∷ []) (sym e) ∙ ap (λ x. first ∷ x ∷ []) (sym f)
pair-of (one ∷ other ∷ third ∷ others) first next low high e f = absurd (omega arith)

pub tight-pair : (first next : refusals.BlockFace) → is_tight_item (first ∷ next ∷ []) ≡ (is_paragraph first && can_follow next)
tight-pair refusals.ParagraphFace next = refl
tight-pair refusals.CodeBlockFace next = refl
tight-pair refusals.QuoteFace next = refl
tight-pair (refusals.ListFace kind filled) next = refl
tight-pair refusals.OtherBlockFace next = refl

pub list-refused : (rules : Rules) (list : Block) (kind : ListKind) (tight : Bool) (items : List (List Block)) (before : Option refusals.BlockFace) → list ≡ ListBlock kind tight items
    → (judged_block rules list).refusal before ≡ refused (list_reasons kind tight (seen_items rules items) before) <|> refusal_of_items (map (map (judged_block rules)) items)
list-refused rules list kind tight items before e = ap (λ (j : JudgedBlock). j.refusal before) (ap (judged_block rules) e ∙ block_fold.list (refusals.block_step rules) kind tight items)
