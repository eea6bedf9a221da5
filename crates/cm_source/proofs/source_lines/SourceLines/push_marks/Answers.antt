use Rattle.std.proofs.Common.{replicate, refl}
use Rattle.std.proofs.lemmas.Bool.{ne_eqb}
use Rattle.cm_source.proofs.lemmas.spelling.NoLineFeeds.{marks-without}
use Rattle.cm_source.proofs.lemmas.spelling.WrittenLineLemmas.{then-ok, lays-text}
use Rattle.cm_source.proofs.source_lines.SourceLines.push_marks.Goals as goal

pub returns : goal.returns
returns c =
    let mark = c.args.mark in
    let count = c.args.count in
    then-ok c.push_repeated.result (λ written. lays-text c.args.self.now _ (replicate count mark) written refl refl refl (marks-without mark count (ne_eqb mark 10 c.requires.one_line))) c.push_repeated.ensures.written
