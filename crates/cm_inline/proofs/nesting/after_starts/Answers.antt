use Rattle.cm_inline.proofs.lemmas.Words.{◌^◌, ap, ◌∙◌, arith, Pair}
use Rattle.cm_inline.specs.declared.pairing.Emphasis.TheVariants.{Emph}
use Rattle.cm_inline.specs.steps.pairing.Parts.{starts}
use Rattle.cm_inline.specs.steps.Runs.{pairs_in}
use Rattle.cm_inline.proofs.lemmas.NestingLemmas.{start-rises, start-on, start-level, none-level}
use Rattle.cm_inline.proofs.lemmas.TagLemmas.{starts-next, starts-none}
use Rattle.cm_inline.proofs.nesting.after_starts.Goals as goal

pub begin-level-requires : goal.begin-level-requires
begin-level-requires c =
    let none : Pair = record { emphasis = Emph; before = 0 } in
    let next = starts-next c.args.pairs.now c.loop-next.next none c.loop-next-test.true c.loop-next.invariant.within c.requires.chained in
    (start-rises (2 ^ 64) c.loop-next.level _ _ _ next.is c.loop-next.invariant.rises).0

pub loop-next-preserved : goal.loop-next-preserved
loop-next-preserved c =
    let none : Pair = record { emphasis = Emph; before = 0 } in
    let next = starts-next c.args.pairs.now c.loop-next.next none c.loop-next-test.true c.loop-next.invariant.within c.requires.chained in
    record {
      within = omega (arith, next.before, c.loop-next.invariant.within);
      rises = start-on (2 ^ 64) c.loop-next.level c.begin-level.result _ _ _ next.is c.begin-level.ensures c.loop-next.invariant.rises;
      same = start-level c.loop-next.level c.begin-level.result _ _ _ _ next.is c.begin-level.ensures c.loop-next.invariant.same;
    }

pub loop-next-smaller : goal.loop-next-smaller
loop-next-smaller c = (starts-next c.args.pairs.now c.loop-next.next _ c.loop-next-test.true c.loop-next.invariant.within c.requires.chained).before

pub returns : goal.returns
returns c =
    let pairs = pairs_in c.args.pairs.now in
    none-level c.loop-next.level _ _ (ap (starts pairs) c.loop-next-test.false ∙ starts-none pairs) c.loop-next.invariant.same
