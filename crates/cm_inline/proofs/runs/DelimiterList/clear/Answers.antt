use Rattle.cm_inline.proofs.lemmas.Words.{sym, ap, subst, ◌∙◌}
use Rattle.cm_inline.specs.steps.Slots.{AreLinked}
use Rattle.cm_inline.proofs.lemmas.SlotLemmas.{listed, list-empty}
use Rattle.cm_inline.proofs.runs.DelimiterList.clear.Goals as goal

pub invariant_of-self : goal.invariant_of-self
invariant_of-self c = subst (AreLinked c.self.inside.slots.items) (sym c.none-self-inside.ensures) (list-empty c.self.inside.slots.items c.self.invariant.few).0

pub returns-clause-entries : goal.returns-clause-entries
returns-clause-entries c = ap (listed c.self.inside.slots.items) c.none-self-inside.ensures ∙ (list-empty c.self.inside.slots.items c.self.invariant.few).1
