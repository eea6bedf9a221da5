use Rattle.cm_inline.proofs.lemmas.MissingForms.{known-at-end}
use Rattle.cm_inline.proofs.missing_ends.MissingEnds.of.Goals as goal

pub returns : goal.returns
returns c = record { knows = known-at-end c.args.source.now }
