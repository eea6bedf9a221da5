use Rattle.std.proofs.Common.{subst}
use Rattle.cm_source.specs.steps.WrittenLines.{Writes}
use Rattle.cm_source.proofs.lemmas.spelling.WrittenLineLemmas.{then-ok, parted-one, writes-content}
use Rattle.cm_source.proofs.source_lines.SourceLines.push_line.Goals as goal

pub returns : goal.returns
returns c =
    let text = c.args.text.now in
    let start = c.args.self.now in
    let end = c.end_line.new.self in
    then-ok c.end_line.result (λ ends. subst (Writes start end) (parted-one text c.requires) (writes-content start c.begin_line.new.self c.push.new.self end text c.in_ok-begin_line.ensures.begins c.in_ok-push.ensures ends)) c.end_line.ensures
