use Rattle.std.proofs.Common.{sym, subst, ◌∙◌}
use Rattle.cm_tool.specs.Rewriting.{rewritten}
use Rattle.cmk_c.specs.Calls.{Answers, rewriting_fault}
use Rattle.cmk_c.proofs.cmk_rewrite.Goals as goal

pub returns-in-Some : goal.returns-in-Some
returns-in-Some c =
    subst (λ limits. Answers rewriting_fault rewritten limits c.args.text.now
    (record { number = c.put.result; place = c.put.new.output.place; count = c.put.new.output.length; bytes = c.put.new.output.bytes.now }))
    (sym c.in-Some.is ∙ c.limits_of.ensures.value) (c.put.ensures _ _ c.source_of.ensures.value)
