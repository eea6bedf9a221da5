use Rattle.std.proofs.Common.{sym, subst, ◌∙◌}
use Rattle.cm_tool.specs.Faults.{fault_of}
use Rattle.cm_tool.specs.Writing.{converted}
use Rattle.cmk_c.specs.Calls.{Fills}
use Rattle.cmk_c.proofs.cmk_html_into.Goals as goal

pub returns-in-Some : goal.returns-in-Some
returns-in-Some c =
    subst (λ limits. Fills fault_of converted limits c.args.text.now c.args.room.now
    (record { number = c.fill.result; place = c.fill.new.filled.place; count = c.fill.new.filled.length; bytes = c.fill.new.room }))
    (sym c.in-Some.is ∙ c.limits_of.ensures.value) (c.fill.ensures _ _ c.html_of.ensures.value)

pub returns-in-None : goal.returns-in-None
returns-in-None c =
    subst (λ limits. Fills fault_of converted limits c.args.text.now c.args.room.now
    (record { number = c.fill_nothing.result; place = c.fill_nothing.new.filled.place; count = c.fill_nothing.new.filled.length; bytes = c.args.room.now }))
    (sym c.in-None.is ∙ c.limits_of.ensures.value) (c.fill_nothing.ensures c.args.room.now)
