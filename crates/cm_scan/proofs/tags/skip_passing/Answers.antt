use Rattle.std.proofs.Common.{◌∙◌}
use Rattle.cm_scan.proofs.lemmas.texts.SkipLemmas.{passed-skipped}
use Rattle.cm_scan.proofs.tags.skip_passing.Goals as goal

pub returns-clause-skipped : goal.returns-clause-skipped
returns-clause-skipped g c = λ passes tells. c.skip.ensures.skipped passes tells ∙ passed-skipped passes c.args.bytes.now
