use Rattle.cm_inline.proofs.lemmas.Words.{◌≤◌, ◌+◌, ◌*◌, length, depth_of, inlines_depth}
use Rattle.cm_inline.proofs.spare.Spare.+inlines.Given as goal

-- What is in an inline nests less deep than it.

abbrev pub decreases-keep_inline : goal.decreases-keep_inline
decreases-keep_inline l = 2 * depth_of l.inline

abbrev pub decreases-keep_inlines : goal.decreases-keep_inlines
decreases-keep_inlines l = 2 * inlines_depth l.inlines + 1

-- those that are left nest no deeper than all
abbrev pub invariant-keep_inlines-loop-inline : goal.invariant-keep_inlines-loop-inline
invariant-keep_inlines-loop-inline l = inlines_depth l.list.items ≤ inlines_depth l.fn.inlines

abbrev pub decreases-keep_inlines-loop-inline : goal.decreases-keep_inlines-loop-inline
decreases-keep_inlines-loop-inline l = length l.list.items
