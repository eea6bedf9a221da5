use Rattle.cm_inline.proofs.lemmas.Words.{◌+◌}
use Rattle.cm_inline.specs.steps.pairing.Parts.{ends_between}
use Rattle.cm_inline.specs.steps.Runs.{pairs_in}
use Rattle.cm_inline.proofs.lemmas.TagLemmas.{ends-next, ends-last, end-written, none-written}
use Rattle.cm_inline.proofs.html_runs.push_ends.Goals as goal

pub loop-at-preserved : goal.loop-at-preserved
loop-at-preserved c =
    let pairs = c.args.pairs.now in
    end-written c.loop-at.html _ _ _ (ends_between (pairs_in pairs) (c.loop-at.at + 1) c.args.to) _ (c.in_ok-push_emphasis_end.ensures) (ends-next pairs c.loop-at.at c.args.to _ c.loop-at-test.true c.requires) c.loop-at.invariant

pub returns : goal.returns
returns c = none-written c.loop-at.html _ _ (ends-last (pairs_in c.args.pairs.now) c.loop-at.at c.args.to c.loop-at-test.false) c.loop-at.invariant
