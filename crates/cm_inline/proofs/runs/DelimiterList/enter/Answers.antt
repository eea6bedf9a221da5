use Rattle.cm_inline.proofs.lemmas.Words.{◌<◌, ◌∷◌, sym, ap, subst, ◌∙◌, length, arith, List}
use Rattle.cm_inline.specs.declared.runs.Run.{Run as HeldRun}
use Rattle.cm_inline.specs.declared.runs.Slot.{Slot}
use Rattle.cm_inline.specs.steps.Entries.{Below}
use Rattle.cm_inline.specs.steps.Runs.{Listing, entry_of}
use Rattle.cm_inline.specs.steps.pairing.States.{run_at}
use Rattle.cm_inline.specs.steps.Slots.{AreLinked, held_in}
use Rattle.cm_inline.proofs.lemmas.SlotLemmas.{entered, entered-is, listed, list-enter, held-entered, held-length, run-held}
use Rattle.cm_inline.proofs.runs.DelimiterList.enter.Goals as goal

pub invariant_of-self : goal.invariant_of-self
invariant_of-self c =
    let slots = c.self.inside.slots.items in
    let last = c.self.inside.last in
    let number = c.args.number in
    let there : number < length slots = omega (arith, c.requires.there, held-length slots, ap (λ (v : Listing). length v.runs) c.self.view_is) in
    let under = subst (λ (v : Listing). Below number v.entries) (sym c.self.view_is) c.requires.later in
    let is = entered-is slots c.link_after.new.slots.items last c.place.result number c.link.result c.none-slot.result c.index_mut-slot.result.now c.link_after.ensures c.place.ensures c.link.ensures c.none-slot.ensures there c.index_mut-slot.ensures.value in
    subst (λ s. AreLinked s c.link-self-inside.result) (sym is) (subst (AreLinked (entered last number slots)) (sym c.link-self-inside.ensures) (list-enter slots last number c.self.invariant there under).0)

pub returns-clause-entries : goal.returns-clause-entries
returns-clause-entries c =
    let slots = c.self.inside.slots.items in
    let last = c.self.inside.last in
    let number = c.args.number in
    let there : number < length slots = omega (arith, c.requires.there, held-length slots, ap (λ (v : Listing). length v.runs) c.self.view_is) in
    let under = subst (λ (v : Listing). Below number v.entries) (sym c.self.view_is) c.requires.later in
    let is = entered-is slots c.link_after.new.slots.items last c.place.result number c.link.result c.none-slot.result c.index_mut-slot.result.now c.link_after.ensures c.place.ensures c.link.ensures c.none-slot.ensures there c.index_mut-slot.ensures.value in
    ap (λ (s : List Slot). listed s c.link-self-inside.result) is ∙ ap (listed (entered last number slots)) c.link-self-inside.ensures ∙ (list-enter slots last number c.self.invariant there under).1
    ∙ ap (λ (r : HeldRun). entry_of number r ∷ listed slots last) (sym (run-held slots number)) ∙ ap (λ (v : Listing). entry_of number (run_at v.runs number) ∷ v.entries) c.self.view_is

pub returns-clause-same : goal.returns-clause-same
returns-clause-same c =
    let slots = c.self.inside.slots.items in
    let last = c.self.inside.last in
    let number = c.args.number in
    let there : number < length slots = omega (arith, c.requires.there, held-length slots, ap (λ (v : Listing). length v.runs) c.self.view_is) in
    let is = entered-is slots c.link_after.new.slots.items last c.place.result number c.link.result c.none-slot.result c.index_mut-slot.result.now c.link_after.ensures c.place.ensures c.link.ensures c.none-slot.ensures there c.index_mut-slot.ensures.value in
    (ap held_in is ∙ held-entered slots last number ∙ ap (λ (v : Listing). v.runs) c.self.view_is, ap (λ (v : Listing). v.looks) c.self.view_is)
