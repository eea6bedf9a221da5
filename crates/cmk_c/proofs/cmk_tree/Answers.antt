use Rattle.std.proofs.Common.{sym, subst, ◌∙◌}
use Rattle.cm_tool.specs.Faults.{fault_of}
use Rattle.cm_tool.specs.Writing.{listed}
use Rattle.cmk_c.specs.Calls.{Answers}
use Rattle.cmk_c.proofs.cmk_tree.Goals as goal

pub returns-in-Some : goal.returns-in-Some
returns-in-Some c =
    subst (λ limits. Answers fault_of listed limits c.args.text.now
    (record { number = c.put.result; place = c.put.new.output.place; count = c.put.new.output.length; bytes = c.put.new.output.bytes.now }))
    (sym c.in-Some.is ∙ c.limits_of.ensures.value) (c.put.ensures _ _ c.tree_of.ensures.value)
