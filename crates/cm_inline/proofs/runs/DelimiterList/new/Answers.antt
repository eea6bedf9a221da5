use Rattle.cm_inline.proofs.lemmas.Words.{sym, ap, subst, ◌∙◌, arith, length}
use Rattle.cm_inline.specs.steps.Slots.{AreLinked}
use Rattle.cm_inline.proofs.lemmas.SlotLemmas.{listed, list-empty}
use Rattle.cm_inline.proofs.runs.DelimiterList.new.Goals as goal

pub invariant_of-result : goal.invariant_of-result
invariant_of-result c = subst (AreLinked c.new.result.items) (sym c.none.ensures) (list-empty c.new.result.items (omega (arith, ap length c.new.ensures.items))).0

pub returns-clause-entries : goal.returns-clause-entries
returns-clause-entries c = ap (listed c.new.result.items) c.none.ensures ∙ (list-empty c.new.result.items (omega (arith, ap length c.new.ensures.items))).1
