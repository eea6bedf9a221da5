use Rattle.cm_inline.proofs.lemmas.Words.{arith}
use Rattle.cm_inline.proofs.lemmas.DepthLemmas.{one-more-depth}
use Rattle.cm_inline.proofs.spare.Spare.+inlines.Goals as goal

pub keep_inlines-keep_inline-requires : goal.keep_inlines-keep_inline-requires
keep_inlines-keep_inline-requires t c =
    let both = one-more-depth c.pop.new.self.items c.loop-inline.list.items c.in-Some.inline c.in-Some.ensures.items in
    (omega (arith, c.decreases, c.loop-inline.invariant, both.1), tt)

pub keep_inlines-loop-inline-preserved : goal.keep_inlines-loop-inline-preserved
keep_inlines-loop-inline-preserved t c =
    let both = one-more-depth c.pop.new.self.items c.loop-inline.list.items c.in-Some.inline c.in-Some.ensures.items in
    omega (arith, c.loop-inline.invariant, both.0)
