use Rattle.std.proofs.Common.{[]}
use Rattle.cm_source.specs.Spelling.{parted_lines}
use Rattle.cm_source.proofs.lemmas.spelling.WrittenLineLemmas.{then-ok, lays-nothing, writes-content}
use Rattle.cm_source.proofs.source_lines.SourceLines.empty_line.Goals as goal

pub returns : goal.returns
unfolding parted_lines
returns c =
    let mid = c.begin_line.new.self in
    then-ok c.end_line.result (writes-content c.args.self.now mid mid c.end_line.new.self [] c.in_ok-begin_line.ensures.begins (lays-nothing mid)) c.end_line.ensures
