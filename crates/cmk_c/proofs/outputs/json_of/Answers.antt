use Rattle.cm_tool.specs.Faults.{fault_of}
use Rattle.cm_tool.specs.Writing.{IsTreeInJson, in_json}
use Rattle.cmk_c.proofs.lemmas.CallLemmas.{given, made_text, refused}
use Rattle.cmk_c.proofs.lemmas.JsonLemmas.{on_made}
use Rattle.cmk_c.proofs.lemmas.PlaceLemmas.{no_memory_has_place, told_has_place}
use Rattle.cmk_c.proofs.outputs.json_of.Goals as goal

pub returns-in-Ok-clause-value : goal.returns-in-Ok-clause-value
returns-in-Ok-clause-value c =
    let made = c.in-Ok.ensures in
    given _ _ c.with_nul.result made.0 (c.with_nul.ensures.value (in_json c.args.limits.rules c.args.text.now) (made_text c.into_string.result c.ok.result _ _ c.into_string.ensures c.ok.ensures.value made.1.0)) c.with_nul.ensures.memory

pub returns-in-Err-clause-value : goal.returns-in-Err-clause-value
returns-in-Err-clause-value c = refused (fault_of c.args.limits c.args.text.now) (in_json c.args.limits.rules c.args.text.now) c.in-Err.fault c.in-Err.ensures

pub returns-in-Ok-clause-is_json : goal.returns-in-Ok-clause-is_json
returns-in-Ok-clause-is_json c = on_made (IsTreeInJson c.args.limits.rules c.args.text.now) c.in-Ok.ensures.1.1 c.with_nul.result

pub returns-in-Ok-clause-place : goal.returns-in-Ok-clause-place
returns-in-Ok-clause-place c = no_memory_has_place c.with_nul.result c.with_nul.ensures.memory

pub returns-in-Err-clause-place : goal.returns-in-Err-clause-place
returns-in-Err-clause-place c =
    told_has_place c.args.limits c.args.text.now c.requires c.in-Err.fault (in_json c.args.limits.rules c.args.text.now) (returns-in-Err-clause-value c)
