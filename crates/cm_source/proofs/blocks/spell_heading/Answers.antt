use Rattle.std.proofs.Common.{◌++◌, replicate, subst}
use Rattle.cm_source.specs.Spelling.{after_space}
use Rattle.cm_source.specs.steps.WrittenLines.{Lays}
use Rattle.cm_source.proofs.lemmas.spelling.WrittenLineLemmas.{then-ok, lays-then, writes-content}
use Rattle.cm_source.proofs.blocks.spell_heading.Goals as goal

pub returns : goal.returns
returns c =
    let one = c.begin_line.new.self in
    let two = c.push_marks.new.self in
    let three = c.spell_after_space.new.source in
    let content = after_space c.args.content.now in
    then-ok c.end_line.result (writes-content c.args.source.now one three c.end_line.new.self (replicate c.args.level 35 ++ content) c.in_ok-begin_line.ensures.begins
    (lays-then one two three (replicate c.args.level 35) content (subst (λ n. Lays one two (replicate n 35)) c.from.ensures c.in_ok-push_marks.ensures) c.in_ok-spell_after_space.ensures)) c.end_line.ensures
