use Rattle.cm_inline.proofs.lemmas.Words.{refl, ap, ◌∙◌, arith}
use Rattle.cm_inline.specs.steps.Runs.{Listing}
use Rattle.cm_inline.specs.steps.Slots.{first_up}
use Rattle.cm_inline.proofs.lemmas.SlotLemmas.{linked-first, listed, between-out}
use Rattle.cm_inline.proofs.runs.DelimiterList.remove_between.Goals as goal

pub link-requires : goal.link-requires
link-requires c =
    let slots = c.self.inside.slots.items in
    let last = c.self.inside.last in
    omega (arith, c.self.invariant.within, c.self.invariant.few, linked-first slots 0 last (listed slots last) c.self.invariant.linked, ap (λ (v : Listing). first_up v.entries) c.self.view_is, c.requires.last)

pub invariant_of-self : goal.invariant_of-self
invariant_of-self c =
    (between-out c.self.inside.slots.items _ c.self.inside.last c.args.number c.args.last _ c.self.invariant (ap (λ (v : Listing). v.entries) c.self.view_is) c.requires.last c.requires.earlier c.requires.there
    c.place.result c.link-slot.result c.place-2.result c.link.result c.index_mut-slot.result.now c.index_mut.result.now c.place.ensures c.place-2.ensures c.link-slot.ensures c.link.ensures
    c.index_mut-slot.ensures.value c.index_mut.ensures.value refl).0.0

pub returns-clause-entries : goal.returns-clause-entries
returns-clause-entries c =
    (between-out c.self.inside.slots.items _ c.self.inside.last c.args.number c.args.last _ c.self.invariant (ap (λ (v : Listing). v.entries) c.self.view_is) c.requires.last c.requires.earlier c.requires.there
    c.place.result c.link-slot.result c.place-2.result c.link.result c.index_mut-slot.result.now c.index_mut.result.now c.place.ensures c.place-2.ensures c.link-slot.ensures c.link.ensures
    c.index_mut-slot.ensures.value c.index_mut.ensures.value refl).0.1

pub returns-clause-same : goal.returns-clause-same
returns-clause-same c = (
  (between-out c.self.inside.slots.items _ c.self.inside.last c.args.number c.args.last _ c.self.invariant (ap (λ (v : Listing). v.entries) c.self.view_is) c.requires.last c.requires.earlier c.requires.there
      c.place.result c.link-slot.result c.place-2.result c.link.result c.index_mut-slot.result.now c.index_mut.result.now c.place.ensures c.place-2.ensures c.link-slot.ensures c.link.ensures
      c.index_mut-slot.ensures.value c.index_mut.ensures.value refl).1
      ∙ ap (λ (v : Listing). v.runs) c.self.view_is,
  ap (λ (v : Listing). v.looks) c.self.view_is,
)
