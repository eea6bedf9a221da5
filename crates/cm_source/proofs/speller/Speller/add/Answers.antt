use Rattle.std.proofs.Common.{Some, ap, subst}
use Rattle.std.specs.Option.{is_some}
use Rattle.cm_source.specs.Spelling.{gap, lines_of_block}
use Rattle.cm_source.specs.steps.WrittenLines.{Writes}
use Rattle.cm_source.proofs.lemmas.spelling.WrittenLineLemmas.{writes-then}
use Rattle.cm_source.proofs.speller.Speller.add.Goals as goal

pub returns-clause-writes : goal.returns-clause-writes
returns-clause-writes c =
    let old = c.args.self.now.source in
    let mid = c.spell_gap.new.source in
    writes-then old mid c.spell_block.new.source (gap (is_some c.args.self.now.before)) (lines_of_block c.args.block.now)
    (subst (λ some. Writes old mid (gap some)) c.is_some.ensures c.in_ok-spell_gap.ensures) c.in_ok-spell_block.ensures

pub returns-clause-before : goal.returns-clause-before
returns-clause-before c = λ rules. ap Some (c.face_of.ensures rules)
