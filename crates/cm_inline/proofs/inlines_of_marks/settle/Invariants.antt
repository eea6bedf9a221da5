use Rattle.cm_inline.specs.steps.Building.{built_in, IsBuiltTo}
use Rattle.cm_inline.proofs.inlines_of_marks.settle.Given as goal

abbrev pub invariant-loop-mark : goal.invariant-loop-mark
invariant-loop-mark l = IsBuiltTo l.source l.definitions l.reader (built_in l.made) l.from l.mark-index
