use Rattle.cm_tool.specs.Rewriting.{rewritten}
use Rattle.cmk_c.proofs.lemmas.CallLemmas.{given, no_fault, unrewritten}
use Rattle.cmk_c.proofs.lemmas.PlaceLemmas.{no_memory_has_place, unrewritten_has_place}
use Rattle.cmk_c.proofs.outputs.source_of.Goals as goal

pub returns-in-Ok-clause-value : goal.returns-in-Ok-clause-value
returns-in-Ok-clause-value c =
    let made = c.in-Ok.ensures in
    given _ _ c.with_nul.result (no_fault c.args.limits c.args.text.now made.0 made.1.0) (c.with_nul.ensures.value (rewritten c.args.limits.rules c.args.text.now) made.2) c.with_nul.ensures.memory

pub returns-in-Err-clause-value : goal.returns-in-Err-clause-value
returns-in-Err-clause-value c = unrewritten c.args.limits c.args.text.now c.in-Err.fault (rewritten c.args.limits.rules c.args.text.now) c.in-Err.ensures

pub returns-in-Ok-clause-place : goal.returns-in-Ok-clause-place
returns-in-Ok-clause-place c = no_memory_has_place c.with_nul.result c.with_nul.ensures.memory

pub returns-in-Err-clause-place : goal.returns-in-Err-clause-place
returns-in-Err-clause-place c =
    unrewritten_has_place c.args.limits c.args.text.now c.requires c.in-Err.fault (rewritten c.args.limits.rules c.args.text.now) (returns-in-Err-clause-value c)
