use Rattle.std.proofs.Common.{arith}
use Rattle.cm_text.proofs.lemmas.ReferenceLemmas.{digits-fit}
use Rattle.cm_text.proofs.references.numbered.Goals as goal

pub number-requires-clause-fits : goal.number-requires-clause-fits
number-requires-clause-fits c =
    digits-fit c.args.radix c.args.digits.now c.requires.radix.0 c.requires.radix.1 (omega (arith, c.if-digits-most.false, c.requires.most.0)) c.requires.digits
