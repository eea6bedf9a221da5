use Rattle.std.proofs.Common.{◌≡◌, ◌++◌}
use Rattle.cm_tree.proofs.clones.+copy_inlines.Given as goal

-- the copies and what is left are the inlines
abbrev pub invariant-copy_inlines-loop-inline : goal.invariant-copy_inlines-loop-inline
invariant-copy_inlines-loop-inline l = l.copies ++ l.inline-iterator.rest.now ≡ l.inlines
