use Rattle.cm_inline.proofs.lemmas.Words.{◌-◌, length, IsCharBoundary}
use Rattle.cm_inline.proofs.lemmas.PlainLemmas.{ReadsAsText, IsPlainTo}
use Rattle.cm_inline.proofs.reading.is_all_text.Given as goal

abbrev pub invariant-loop-end : goal.invariant-loop-end
invariant-loop-end l = record {
  boundary : IsCharBoundary l.source l.end;
  read : ReadsAsText l.source l.end;
  plain : IsPlainTo l.source l.end;
}

abbrev pub decreases-loop-end : goal.decreases-loop-end
decreases-loop-end l = length l.source - l.end
