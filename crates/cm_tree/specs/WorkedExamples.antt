-- Worked examples of depths and of definitions, by computation.
use Rattle.std.specs.Prelude.{◌≡◌, ℕ, true, List, [], ◌∷◌, Some, None, codes}
use Rattle.cm_tree.specs.declared.tree.Block.{Block}
use Rattle.cm_tree.specs.declared.tree.Block.TheVariants as block
use Rattle.cm_tree.specs.declared.tree.Inline.{Inline}
use Rattle.cm_tree.specs.declared.tree.Inline.TheVariants as inline
use Rattle.cm_tree.specs.declared.tree.ListKind.TheVariants.{Dash}
use Rattle.cm_tree.specs.Depth.{inlines_depth, blocks_depth}
use Rattle.cm_tree.specs.Definitions.{Target, Targets, target_under, target_numbered, add_all, first_under}

-- a text, as inlines
abbrev pub words : List ℕ → List Inline
words text = inline.Text text ∷ []

-- a text, as a paragraph
abbrev pub paragraph : List ℕ → List Block
paragraph text = block.Paragraph (words text) ∷ []

-- a tight bullet list of these items
abbrev pub list_of : List (List Block) → Block
list_of items = block.List Dash true items

pub record DepthExamples : Type 0 where
  pub no_inlines : inlines_depth [] ≡ 0
  pub text : inlines_depth (words (codes "a")) ≡ 0
  pub image : inlines_depth (inline.Image (codes "/a") [] (words (codes "a")) ∷ []) ≡ 1
  pub strong_in_a_link_in_emphasis : inlines_depth (inline.Emph (inline.Link (codes "/a") [] (inline.Strong (words (codes "a")) ∷ []) ∷ []) ∷ []) ≡ 3
  pub deepest_of_two : inlines_depth (inline.Emph (words (codes "a")) ∷ inline.Strong (inline.Emph [] ∷ []) ∷ []) ≡ 2
  pub strike_in_emphasis : inlines_depth (inline.Emph (inline.Strike (words (codes "a")) ∷ []) ∷ []) ≡ 2
  pub no_blocks : blocks_depth [] ≡ 0
  pub paragraphs_do_not_count : blocks_depth (paragraph (codes "a")) ≡ 0
  pub inlines_do_not_count : blocks_depth (block.Paragraph (inline.Emph [] ∷ []) ∷ []) ≡ 0
  pub list_without_items : blocks_depth (list_of [] ∷ []) ≡ 0
  pub item : blocks_depth (list_of (paragraph (codes "a") ∷ []) ∷ []) ≡ 1
  pub list_in_a_quote : blocks_depth (block.Quote (list_of ([] ∷ (list_of ([] ∷ []) ∷ []) ∷ []) ∷ []) ∷ []) ≡ 3

-- three definitions, of which the last two have matching labels
abbrev pub three : List (List ℕ × Target)
three = (codes "a", (codes "/a", [])) ∷ (codes "Foo", (codes "/first", codes "t")) ∷ (codes " fOO\n", (codes "/second", [])) ∷ []

-- the table to which they have been added
abbrev pub table_of_three : Targets
table_of_three = (codes "a", (codes "/a", [])) ∷ (codes "foo", (codes "/first", codes "t")) ∷ []

pub record DefinitionExamples : Type 0 where
  pub first : first_under (codes "foo") three ≡ Some (codes "/first", codes "t")
  pub other : first_under (codes "a") three ≡ Some (codes "/a", [])
  pub none : first_under (codes "b") three ≡ None
  pub table : add_all [] three ≡ table_of_three
  pub under_a_label : target_under (codes "foo") table_of_three ≡ Some (codes "/first", codes "t")
  pub under_no_label : target_under (codes "b") table_of_three ≡ None
  pub numbered : target_numbered table_of_three 1 ≡ (codes "/first", codes "t")
