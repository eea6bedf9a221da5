use Rattle.std.proofs.Common.{◌∙◌, ap}
use Rattle.cm_text.specs.Views.{seen_view}
use Rattle.cm_scan.specs.Words.{given}
use Rattle.cm_scan.specs.blocks.Lines.{as_lazy}
use Rattle.cm_block.specs.steps.StartViews.{seen}
use Rattle.cm_block.proofs.lemmas.ContinuationLemmas.{lazy_given}
use Rattle.cm_block.proofs.counted_line.continuations.begins_lazily.Goals as goal

pub returns : goal.returns
returns c =
    let line = seen_view c.args.line in
    ap (λ may. given may (as_lazy line)) c.may_be_lazy.ensures
    ∙ lazy_given c.args.rules line (seen c.start_of.result) c.requires c.start_of.ensures
