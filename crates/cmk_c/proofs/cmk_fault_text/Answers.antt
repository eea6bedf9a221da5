use Rattle.std.proofs.Common.{sym, subst, ◌∙◌, arith}
use Rattle.cmk_c.specs.Calls.{TellsLine}
use Rattle.cmk_c.proofs.lemmas.LineLemmas.{is_line}
use Rattle.cmk_c.proofs.cmk_fault_text.Goals as goal

pub returns-in-None-clause-told : goal.returns-in-None-clause-told
returns-in-None-clause-told c =
    subst (λ message. TellsLine message c.args.room.now
    (record { number = c.fill_nothing.result; place = c.fill_nothing.new.filled.place; count = c.fill_nothing.new.filled.length; bytes = c.args.room.now }))
    (sym c.in-None.is ∙ c.message_of.ensures) (c.fill_nothing.ensures c.args.room.now)

pub returns-in-Some-clause-told : goal.returns-in-Some-clause-told
returns-in-Some-clause-told c =
    subst (λ message. TellsLine message c.args.room.now
    (record { number = c.fill_line.result; place = c.fill_line.new.filled.place; count = c.fill_line.new.filled.length; bytes = c.fill_line.new.room }))
    (sym c.in-Some.is ∙ c.message_of.ensures) (c.fill_line.ensures.line, is_line c.in-Some.message)

pub returns-in-None-clause-short : goal.returns-in-None-clause-short
returns-in-None-clause-short c = omega (arith, (c.fill_nothing.ensures c.args.room.now).count)
