use Rattle.cm_inline.proofs.lemmas.Words.{arith}
use Rattle.cm_inline.proofs.lemmas.PassLoopLemmas.{passes-none}
use Rattle.cm_inline.proofs.runs.Runs.pair_from.Goals as goal

pub returns-then-from-len-clause-passes : goal.returns-then-from-len-clause-passes
returns-then-from-len-clause-passes c = λ front inside a. passes-none c.args.self.now c.args.from front inside (omega (arith, c.if-from-len.true, c.len.ensures)) a
