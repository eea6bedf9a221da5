use Rattle.cm_source.proofs.lemmas.spelling.WrittenLineLemmas.{then-ok, lays-break}
use Rattle.cm_source.proofs.source_lines.SourceLines.break_line.Goals as goal

pub returns : goal.returns
returns c = then-ok c.begin_line.result (lays-break c.args.self.now c.end_line.new.self c.begin_line.new.self c.in_ok-end_line.ensures) c.begin_line.ensures.begins
