use Rattle.cm_inline.proofs.lemmas.Words.{sym, ap, subst, ◌∙◌, arith, length}
use Rattle.cm_inline.specs.steps.Slots.{AreLinked}
use Rattle.cm_inline.proofs.lemmas.SlotLemmas.{listed, list-empty}
use Rattle.cm_inline.proofs.runs.DelimiterList.restart.Goals as goal

pub invariant_of-self : goal.invariant_of-self
invariant_of-self c = subst (AreLinked c.clear.new.self.items) (sym c.none-self-inside.ensures) (list-empty c.clear.new.self.items (omega (arith, ap length c.clear.ensures.items))).0

pub returns-clause-entries : goal.returns-clause-entries
returns-clause-entries c = ap (listed c.clear.new.self.items) c.none-self-inside.ensures ∙ (list-empty c.clear.new.self.items (omega (arith, ap length c.clear.ensures.items))).1
