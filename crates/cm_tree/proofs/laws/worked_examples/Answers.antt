use Rattle.std.proofs.Common.{ℕ, refl}
use Rattle.cm_text.proofs.lemmas.Computing.{label_folding}
use Rattle.cm_tree.specs.Depth.{depth_step, block_depth_step}
use Rattle.cm_tree.specs.declared.tree.Inline.TheViews.{outs-Text, outs-Emph, outs-Strong, outs-Strike, outs-Link, outs-Image}
use Rattle.cm_tree.specs.declared.tree.Inline.TheFolds.{fold_out-Inline}
use Rattle.cm_tree.specs.declared.tree.Block.TheVariants.{outs-List, outs-Quote, outs-Paragraph}
use Rattle.cm_tree.specs.declared.tree.Block.TheFolds.{fold_out-Block}
use Rattle.cm_tree.proofs.laws.worked_examples.Goals as goal

pub returns-clause-depths : goal.returns-clause-depths
returns-clause-depths c = record {
  no_inlines = refl;
  text = simp (fold_out-Inline ℕ depth_step, outs-Text);
  image = simp (fold_out-Inline ℕ depth_step, outs-Image, outs-Text);
  strong_in_a_link_in_emphasis = simp (fold_out-Inline ℕ depth_step, outs-Emph, outs-Link, outs-Strong, outs-Text);
  deepest_of_two = simp (fold_out-Inline ℕ depth_step, outs-Emph, outs-Strong, outs-Text);
  strike_in_emphasis = simp (fold_out-Inline ℕ depth_step, outs-Emph, outs-Strike, outs-Text);
  no_blocks = refl;
  paragraphs_do_not_count = simp (fold_out-Block ℕ block_depth_step, outs-Paragraph);
  inlines_do_not_count = simp (fold_out-Block ℕ block_depth_step, outs-Paragraph);
  list_without_items = simp (fold_out-Block ℕ block_depth_step, outs-List);
  item = simp (fold_out-Block ℕ block_depth_step, outs-List, outs-Paragraph);
  list_in_a_quote = simp (fold_out-Block ℕ block_depth_step, outs-Quote, outs-List);
}

pub returns-clause-definitions : goal.returns-clause-definitions
unfolding label_folding
returns-clause-definitions c = record { first = refl; other = refl; none = refl; table = refl; under_a_label = refl; under_no_label = refl; numbered = refl }
