use Rattle.std.proofs.Common.{ℕ, refl}
use Rattle.cm_text.proofs.lemmas.Computing.{label_folding}
use Rattle.cm_scan.proofs.lemmas.Computing.{block_structure}
use Rattle.cm_block.specs.OpenLeaf.{closed_leaves, line_of_leaf, begin_of}
use Rattle.cm_block.specs.Machine.{has_open_text}
use Rattle.cm_block.specs.Stack.{close_leaves, push_blanks, close_open, own_leaves, own_blanks, own_open, close_stack, push_within, push_begin, push_in, push_line, push_lines}
use Rattle.cm_tree.specs.declared.tree.Block.TheVariants.{outs-Paragraph, outs-Quote, outs-List}
use Rattle.cm_tree.specs.declared.tree.Block.TheFolds.{fold_out-Block}
use Rattle.cm_block.specs.Depths.{nesting, line_depths}
use Rattle.cm_block.specs.Tests.{container_step}
use Rattle.cm_block.specs.Sizes.{SizeExamples, part_sizes}
use Rattle.cm_block.specs.WorkedExamples.{StackExamples}
use Rattle.cm_block.proofs.laws.worked_examples.Goals as goal

examples : StackExamples
unfolding block_structure label_folding closed_leaves line_of_leaf begin_of has_open_text close_leaves push_blanks close_open own_leaves own_blanks own_open close_stack push_within push_begin push_in push_line push_lines nesting line_depths
examples = record {
  no_lines = refl;
  lazy_line = refl;
  heading = refl;
  blank_lines_wait = refl;
  open_list = refl;
  blank_line_before_an_item = refl;
  blank_line_before_a_block = refl;
  blank_line_of_a_quote = refl;
  definition_in_a_quote = refl;
  definition_still_open = refl;
  first_definition_counts = refl;
  containers = simp (fold_out-Block ℕ container_step, outs-Quote, outs-List, outs-Paragraph);
  depths = refl;
}

sizes : SizeExamples
unfolding block_structure label_folding part_sizes
sizes = record { paragraph_in_a_quote = refl; resolved_title = refl; cut_tab = refl }

pub returns-clause-stack : goal.returns-clause-stack
returns-clause-stack c = examples

pub returns-clause-sizes : goal.returns-clause-sizes
returns-clause-sizes c = sizes
