use Rattle.std.proofs.Common.{ℕ, List, true, ◌++◌, replicate, refl, subst}
use Rattle.cm_source.specs.Texts.{spelled_text}
use Rattle.cm_source.specs.steps.WrittenLines.{Writes}
use Rattle.cm_source.proofs.lemmas.spelling.NoLineFeeds.{both-without, marks-without}
use Rattle.cm_source.proofs.lemmas.spelling.WrittenLineLemmas.{then-ok, lays-then, parted-one, writes-content}
use Rattle.cm_source.proofs.lemmas.shared.BytesOfSpellings.{text-without}
use Rattle.cm_source.proofs.blocks.spell_fence.Goals as goal

pub returns : goal.returns
returns c =
    let start = c.args.source.now in
    let one = c.begin_line.new.self in
    let two = c.push_marks.new.self in
    let three = c.spell_text.new.source in
    let end = c.end_line.new.self in
    let marks : List ℕ = replicate c.args.marks 96 in
    let info = spelled_text true true c.args.info.now in
    then-ok c.end_line.result (λ ends. subst (Writes start end) (parted-one (marks ++ info) (both-without marks info (marks-without 96 c.args.marks refl) (text-without true true c.args.info.now)))
    (writes-content start one three end (marks ++ info) c.in_ok-begin_line.ensures.begins (lays-then one two three marks info c.in_ok-push_marks.ensures c.in_ok-spell_text.ensures) ends)) c.end_line.ensures
