use Rattle.std.proofs.Common.{sym, subst, ◌∙◌}
use Rattle.std.specs.Prelude.{IfSome}
use Rattle.cm_tool.specs.Faults.{fault_of}
use Rattle.cm_tool.specs.Writing.{IsTreeInJson, in_json}
use Rattle.cmk_c.specs.Calls.{Answers}
use Rattle.cmk_c.proofs.lemmas.JsonLemmas.{made_so}
use Rattle.cmk_c.proofs.cmk_json.Goals as goal

pub returns-in-Some-clause-answer : goal.returns-in-Some-clause-answer
returns-in-Some-clause-answer c =
    subst (λ limits. Answers fault_of in_json limits c.args.text.now
    (record { number = c.put.result; place = c.put.new.output.place; count = c.put.new.output.length; bytes = c.put.new.output.bytes.now }))
    (sym c.in-Some.is ∙ c.limits_of.ensures.value) (c.put.ensures _ _ c.json_of.ensures.value)

pub returns-in-Some-clause-is_json : goal.returns-in-Some-clause-is_json
returns-in-Some-clause-is_json c done =
    subst (λ asked. IfSome asked (λ limits. IsTreeInJson limits.rules c.args.text.now)) (sym c.in-Some.is ∙ c.limits_of.ensures.value)
    (made_so (IsTreeInJson c.in-Some.limits.rules c.args.text.now) c.json_of.result
    (record { number = c.put.result; place = c.put.new.output.place; count = c.put.new.output.length; bytes = c.put.new.output.bytes.now })
    c.put.ensures c.json_of.ensures.is_json done)
