use Rattle.cm_inline.proofs.lemmas.Words.{arith, Pair}
use Rattle.cm_inline.specs.declared.pairing.Emphasis.TheVariants.{Emph}
use Rattle.cm_inline.proofs.lemmas.TagLemmas.{starts-next}
use Rattle.cm_inline.proofs.sizes.Sizes.begin_pairs.Goals as goal

pub loop-next-preserved : goal.loop-next-preserved
loop-next-preserved c =
    let none : Pair = record { emphasis = Emph; before = 0 } in
    let next = starts-next c.args.pairs.now c.loop-next.next none c.loop-next-test.true c.loop-next.invariant c.requires.chained in
    omega (arith, next.before, c.loop-next.invariant)

pub loop-next-smaller : goal.loop-next-smaller
loop-next-smaller c = (starts-next c.args.pairs.now c.loop-next.next _ c.loop-next-test.true c.loop-next.invariant c.requires.chained).before
