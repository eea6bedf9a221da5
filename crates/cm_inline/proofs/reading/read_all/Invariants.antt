use Rattle.cm_inline.proofs.lemmas.Words.{◌≡◌, ◌-◌, length}
use Rattle.cm_inline.specs.steps.Leaves.{ReadingOf}
use Rattle.cm_inline.specs.steps.Reads.{IsTextTo}
use Rattle.cm_inline.proofs.reading.read_all.Given as goal

abbrev pub invariant-loop-text : goal.invariant-loop-text
invariant-loop-text g l = record {
  text : IsTextTo l.leaf.source.now l.text.0 l.text.1;
  reading : ReadingOf l.rules l.leaf l.text.0 l.reader;
  lines : l.reader.lines ≡ l.initial.reader.lines;
}

abbrev pub decreases-loop-text : goal.decreases-loop-text
decreases-loop-text g l = length l.leaf.source.now - l.text.0
