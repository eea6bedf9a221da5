use Rattle.std.proofs.Common.{◌∙◌, sym}
use Rattle.cm_block.proofs.lemmas.ContinuationLemmas.{spaces_run}
use Rattle.cm_block.proofs.counted_line.continuations.after_spaces.Goals as goal

pub returns-clause-spaces : goal.returns-clause-spaces
returns-clause-spaces c = c.leading_spaces-spaces.ensures.spaces ∙ sym (spaces_run c.args.text.now)
