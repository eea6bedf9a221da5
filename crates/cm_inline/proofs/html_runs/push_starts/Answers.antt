use Rattle.cm_inline.proofs.lemmas.Words.{ap, ◌∙◌, rules}
use Rattle.cm_inline.specs.steps.pairing.Parts.{starts}
use Rattle.cm_inline.specs.steps.Runs.{pairs_in}
use Rattle.cm_inline.proofs.lemmas.TagLemmas.{starts-next, starts-none, start-written, none-written}
use Rattle.cm_inline.proofs.html_runs.push_starts.Goals as goal

pub loop-next-preserved : goal.loop-next-preserved
loop-next-preserved c = search (rules, starts-next, start-written)

pub loop-next-smaller : goal.loop-next-smaller
loop-next-smaller c = (starts-next c.args.pairs.now c.loop-next.next _ c.loop-next-test.true c.loop-next.invariant.within c.requires.chained).before

pub returns : goal.returns
returns c =
    let pairs = pairs_in c.args.pairs.now in
    none-written c.loop-next.html _ _ (ap (starts pairs) c.loop-next-test.false ∙ starts-none pairs) c.loop-next.invariant.same
