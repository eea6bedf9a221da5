use Rattle.cm_inline.proofs.lemmas.Words.{◌<◌, ◌-◌, ◌^◌, ap, sym, subst, ◌∙◌, length, arith, List}
use Rattle.cm_inline.specs.declared.runs.Slot.{Slot}
use Rattle.cm_inline.specs.steps.Runs.{Listing}
use Rattle.cm_inline.specs.steps.Slots.{AreLinked}
use Rattle.cm_inline.proofs.lemmas.SlotLemmas.{listed, list-push, held-length}
use Rattle.cm_inline.proofs.runs.DelimiterList.push.Goals as goal

pub invariant_of-self-2 : goal.invariant_of-self-2
invariant_of-self-2 c =
    let slots = c.self.inside.slots.items in
    let short : length slots < 2 ^ 32 - 1 = omega (arith, c.requires.short, held-length slots, ap (λ (v : Listing). length v.runs) c.self.view_is) in
    subst (λ s. AreLinked s c.self.inside.last) (sym c.in_ok-push.ensures.items) (list-push slots c.self.inside.last _ c.self.invariant short).0

pub returns-clause-same : goal.returns-clause-same
returns-clause-same c =
    let slots = c.self.inside.slots.items in
    let last = c.self.inside.last in
    let short : length slots < 2 ^ 32 - 1 = omega (arith, c.requires.short, held-length slots, ap (λ (v : Listing). length v.runs) c.self.view_is) in (
      ap (λ (s : List Slot). listed s last) c.in_ok-push.ensures.items ∙ (list-push slots last _ c.self.invariant short).1 ∙ ap (λ (v : Listing). v.entries) c.self.view_is,
      ap (λ (v : Listing). v.looks) c.self.view_is,
    )
