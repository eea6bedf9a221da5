use Rattle.cm_tool.proofs.lemmas.WithinLemmas.{no_fault_just_within, spelled_without_fault}
use Rattle.cm_tool.proofs.laws.no_fault_within_limits.Goals as goal

pub returns-clause-text : goal.returns-clause-text
returns-clause-text c = no_fault_just_within

pub returns-clause-spelled : goal.returns-clause-spelled
returns-clause-spelled c = spelled_without_fault
