use Rattle.cm_inline.proofs.lemmas.Words.{ℕ, outs-Text, outs-Emph, outs-Strong, outs-Strike, outs-Link, outs-Image, fold_out-Inline}
use Rattle.cm_inline.specs.Emphases.{emphases_step}
use Rattle.cm_inline.proofs.laws.worked_examples.Goals as goal

pub returns : goal.returns
returns c = record {
  none = simp (fold_out-Inline ℕ emphases_step, outs-Link, outs-Text);
  side_by_side = simp (fold_out-Inline ℕ emphases_step, outs-Emph, outs-Strong, outs-Strike, outs-Text);
  in_one_another = simp (fold_out-Inline ℕ emphases_step, outs-Emph, outs-Strong, outs-Strike, outs-Text);
  in_a_link_and_an_image = simp (fold_out-Inline ℕ emphases_step, outs-Emph, outs-Strong, outs-Link, outs-Image, outs-Text);
}
