use Rattle.std.proofs.Common.{◌∙◌, ap}
use Rattle.std.specs.Prelude.{not}
use Rattle.cm_block.proofs.lemmas.NextLineLemmas.{rest_is}
use Rattle.cm_block.proofs.text_runs.has_rest.Goals as goal

pub returns : goal.returns
returns c =
    ap not c.is_empty.ensures
    ∙ rest_is c.args.source.now c.trim_end.result.now c.after_definitions.result.now c.trim_end.ensures.trimmed c.after_definitions.ensures
