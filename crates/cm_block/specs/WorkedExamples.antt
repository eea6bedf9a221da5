-- Worked examples: what the stack holds after the lines of a text.
use Rattle.std.specs.Prelude.{◌≡◌, ℕ, true, false, List, [], ◌∷◌, codes, Some, None}
use Rattle.cm_text.specs.Rules.{profile}
use Rattle.cm_text.specs.Lines.{plain_lines_of}
use Rattle.cm_tree.specs.declared.tree.Block.{Block}
use Rattle.cm_tree.specs.declared.tree.Block.TheVariants.{Heading, Definition, Quote, List as ListBlock}
use Rattle.cm_tree.specs.declared.tree.Inline.TheVariants.{Text}
use Rattle.cm_tree.specs.declared.tree.ListKind.TheVariants.{Dash, Dot}
use Rattle.cm_tree.specs.declared.tree.Owner.{Owner}
use Rattle.cm_tree.specs.declared.tree.Owner.TheVariants.{Leaf, Marker, Blank}
use Rattle.cm_tree.specs.Definitions.{Targets}
use Rattle.cm_scan.specs.laws.BlockExamples.{text_paragraph}
use Rattle.cm_block.specs.OpenLeaf.{no_leaf, open_text, open_code}
use Rattle.cm_block.specs.Machine.{Open, in_leaf, in_quote, in_item}
use Rattle.cm_block.specs.Level.{Level, empty_level, push_blank, block_opens, list_opens, block_closes}
use Rattle.cm_block.specs.Stack.{stack, empty_stack, close_stack, push_lines}
use Rattle.cm_block.specs.Depths.{line_depths}
use Rattle.cm_block.specs.Tests.{container_count}

-- After the text, the document has this level, with this open in it, and the lines, except those of the open leaf, have these
-- owners, with this number of leaves, and this is the table of the definitions among these.
abbrev pub Holds : List ℕ → Level → Open Level → List Owner → ℕ → Targets → Type 0
Holds text level now owners leaves table = push_lines profile empty_stack (plain_lines_of text) ≡ stack level now (record { owners = owners; leaves = leaves; table = table })

-- a level in which nothing is before the block that has been opened
abbrev pub opened_level : Level
opened_level = block_opens empty_level

-- the level of the document after a quote of one definition and a blank line, where a paragraph has been opened
abbrev pub after_a_definition : Level
after_a_definition = block_opens (push_blank (block_closes opened_level (Quote (Definition (codes "a") (codes "/u") [] ∷ []))))

-- only the label `a` is defined, with this target
abbrev pub one_target : Targets
one_target = (codes "a", (codes "/u", [])) ∷ []

-- a quote, of a list with two items
abbrev pub two_items_in_a_quote : Block
two_items_in_a_quote = Quote (ListBlock Dash true ((text_paragraph (codes "a") ∷ []) ∷ [] ∷ []) ∷ [])

pub record StackExamples : Type 0 where
  pub no_lines : Holds [] empty_level (in_leaf no_leaf) [] 0 []
  pub lazy_line : Holds (codes "> a\nb\n") opened_level (in_quote opened_level (in_leaf (open_text (codes "a\nb")))) [] 0 []
  pub heading : Holds (codes "# a\n\n") (push_blank (block_closes opened_level (Heading 1 (Text (codes "a") ∷ [])))) (in_leaf no_leaf) (Leaf 1 ∷ Blank ∷ []) 1 []
  pub blank_lines_wait : Holds (codes "    a\n\n     \n") opened_level (in_leaf (open_code (codes "a\n") 1 (codes "\n \n") 2)) [] 0 []
  pub open_list : Holds (codes "- a\n- ") (record {
    blocks = [];
    open_list = Some (record { kind = Dash; loose = false; items = (text_paragraph (codes "a") ∷ []) ∷ [] });
    has_block = true;
    ends_blank = false;
    separated = false;
  }) (in_item Dash 2 true empty_level (in_leaf no_leaf)) (Leaf 1 ∷ Marker ∷ []) 1 []
  pub blank_line_before_an_item : Holds (codes "- a\n\n- b\n") (record {
    blocks = [];
    open_list = Some (record { kind = Dash; loose = true; items = (text_paragraph (codes "a") ∷ []) ∷ [] });
    has_block = true;
    ends_blank = false;
    separated = false;
  }) (in_item Dash 2 false opened_level (in_leaf (open_text (codes "b")))) (Leaf 1 ∷ Blank ∷ []) 1 []
  pub blank_line_before_a_block : Holds (codes "1. a\n\n   b\n") (list_opens empty_level (Dot 1))
      (in_item (Dot 1) 3 false (record { blocks = text_paragraph (codes "a") ∷ []; open_list = None; has_block = true; ends_blank = false; separated = true }) (in_leaf (open_text (codes "b"))))
      (Leaf 1 ∷ Blank ∷ []) 1 []
  pub blank_line_of_a_quote : Holds (codes "> a\n>\n") opened_level (in_quote (push_blank (block_closes opened_level (text_paragraph (codes "a")))) (in_leaf no_leaf)) (Leaf 1 ∷ Marker ∷ []) 1 []
  pub definition_in_a_quote : Holds (codes "> [a]: /u\n\nb\n") after_a_definition (in_leaf (open_text (codes "b"))) (Leaf 1 ∷ Blank ∷ []) 1 one_target
  pub definition_still_open : Holds (codes "[a]: /u\n") opened_level (in_leaf (open_text (codes "[a]: /u"))) [] 0 []
  pub first_definition_counts : (close_stack (push_lines profile empty_stack (plain_lines_of (codes "[a]: /u\n\n> [A]: /v\n")))).definitions ≡ one_target
  pub containers : container_count (two_items_in_a_quote ∷ ListBlock (Dot 1) true ((text_paragraph (codes "c") ∷ []) ∷ []) ∷ text_paragraph (codes "d") ∷ []) ≡ 4
  pub depths : line_depths profile empty_stack (plain_lines_of (codes "> - a\nb\n\n# c\n")) ≡ 2 ∷ 2 ∷ 0 ∷ 0 ∷ []
