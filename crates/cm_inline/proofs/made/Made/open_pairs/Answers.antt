use Rattle.cm_inline.proofs.lemmas.Words.{ap, ◌∙◌, arith}
use Rattle.cm_inline.specs.steps.pairing.Parts.{starts}
use Rattle.cm_inline.specs.steps.Building.{built_in}
use Rattle.cm_inline.specs.steps.Runs.{pairs_in}
use Rattle.cm_inline.proofs.lemmas.BuildLemmas.{start-built, none-built}
use Rattle.cm_inline.proofs.lemmas.TagLemmas.{starts-next, starts-none}
use Rattle.cm_inline.proofs.made.Made.open_pairs.Goals as goal

pub loop-next-preserved : goal.loop-next-preserved
loop-next-preserved c =
    let pairs = c.args.pairs.now in
    let next = starts-next pairs c.loop-next.next _ c.loop-next-test.true c.loop-next.invariant.within c.requires.chained in
    record {
      within = omega (arith, next.before, c.loop-next.invariant.within);
      same = start-built (built_in c.loop-next.self) _ _ _ _ _ c.in_ok-open.ensures next.is c.loop-next.invariant.same;
    }

pub loop-next-smaller : goal.loop-next-smaller
loop-next-smaller c = (starts-next c.args.pairs.now c.loop-next.next _ c.loop-next-test.true c.loop-next.invariant.within c.requires.chained).before

pub returns : goal.returns
returns c =
    let pairs = pairs_in c.args.pairs.now in
    none-built (built_in c.loop-next.self) _ _ (ap (starts pairs) c.loop-next-test.false ∙ starts-none pairs) c.loop-next.invariant.same
