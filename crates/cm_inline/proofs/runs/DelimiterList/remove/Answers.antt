use Rattle.cm_inline.proofs.lemmas.Words.{◌<◌, refl, suc, sym, ap, subst, ◌∙◌, length, arith, get_or_read, List}
use Rattle.cm_inline.specs.declared.runs.Slot.{Slot}
use Rattle.cm_inline.specs.steps.Runs.{Listing}
use Rattle.cm_inline.specs.steps.Slots.{AreLinked, IsAt, no_slot, slot_at, removed, held_in}
use Rattle.cm_inline.proofs.lemmas.SlotLemmas.{unlinked, unlinked-some, unlinked-none, listed, list-remove, list-slot, near-within, last-stays, last-after, after-length, held-unlinked}
use Rattle.cm_inline.proofs.runs.DelimiterList.remove.Goals as goal

pub index-slot-requires : goal.index-slot-requires
index-slot-requires c =
    let at = subst (λ (v : Listing). IsAt (suc c.args.number) v.entries) (sym c.self.view_is) c.requires in
    omega (arith, c.place.ensures, list-slot c.self.inside.slots.items c.self.inside.last c.args.number c.self.invariant at)

pub link_after-requires : goal.link_after-requires
link_after-requires c =
    let slots = c.self.inside.slots.items in
    let last = c.self.inside.last in
    let number = c.args.number in
    let at = subst (λ (v : Listing). IsAt (suc number) v.entries) (sym c.self.view_is) c.requires in
    let is = get_or_read slots c.place.result c.index-slot.result.now (omega (arith, c.place.ensures, list-slot slots last number c.self.invariant at)) c.index-slot.ensures no_slot ∙ ap (slot_at slots) c.place.ensures in
    omega (arith, ap (λ (s : Slot). s.before) is, (near-within slots last number c.self.invariant at).0)

pub index_mut-requires : goal.index_mut-requires
index_mut-requires c =
    let slots = c.self.inside.slots.items in
    let last = c.self.inside.last in
    let number = c.args.number in
    let at = subst (λ (v : Listing). IsAt (suc number) v.entries) (sym c.self.view_is) c.requires in
    let s = c.index-slot.result.now in
    let is = get_or_read slots c.place.result s (omega (arith, c.place.ensures, list-slot slots last number c.self.invariant at)) c.index-slot.ensures no_slot ∙ ap (slot_at slots) c.place.ensures in
    omega (arith, c.place-in-Some.ensures, c.in-Some.ensures.some, ap (λ (s : Slot). s.after) is, (near-within slots last number c.self.invariant at).1, ap length c.link_after.ensures, after-length slots s.before s.after)

pub invariant_of-self : goal.invariant_of-self
invariant_of-self c =
    let slots = c.self.inside.slots.items in
    let last = c.self.inside.last in
    let number = c.args.number in
    let later = c.in-Some.later in
    let at = subst (λ (v : Listing). IsAt (suc number) v.entries) (sym c.self.view_is) c.requires in
    let s = c.index-slot.result.now in
    let now = c.link_after.new.slots.items in
    let is = get_or_read slots c.place.result s (omega (arith, c.place.ensures, list-slot slots last number c.self.invariant at)) c.index-slot.ensures no_slot ∙ ap (slot_at slots) c.place.ensures in
    let after = ap (λ (s : Slot). s.after) is in
    let there : later < length now = omega (arith, c.in-Some.ensures.some, after, (near-within slots last number c.self.invariant at).1, ap length c.link_after.ensures, after-length slots s.before s.after) in
    let made = unlinked-some slots now number c.place-in-Some.result later s c.index_mut.result.now is c.link_after.ensures c.place-in-Some.ensures c.in-Some.ensures.some there c.index_mut.ensures.value in
    subst (λ t. AreLinked t last) (sym made) (subst (AreLinked (unlinked number slots)) (last-stays slots last number later c.self.invariant (sym after ∙ c.in-Some.ensures.some)) (list-remove slots last number c.self.invariant at).0)

pub invariant_of-self-in_default : goal.invariant_of-self-in_default
invariant_of-self-in_default c =
    let slots = c.self.inside.slots.items in
    let last = c.self.inside.last in
    let number = c.args.number in
    let at = subst (λ (v : Listing). IsAt (suc number) v.entries) (sym c.self.view_is) c.requires in
    let s = c.index-slot.result.now in
    let is = get_or_read slots c.place.result s (omega (arith, c.place.ensures, list-slot slots last number c.self.invariant at)) c.index-slot.ensures no_slot ∙ ap (slot_at slots) c.place.ensures in
    let none = c.in_default.ensures.none refl in
    let made = unlinked-none slots c.link_after.new.slots.items number s is c.link_after.ensures none in
    let top = last-after slots last number c.self.invariant at (sym (ap (λ (s : Slot). s.after) is) ∙ none) ∙ sym (ap (λ (s : Slot). s.before) is) in
    subst (λ t. AreLinked t s.before) (sym made) (subst (AreLinked (unlinked number slots)) top (list-remove slots last number c.self.invariant at).0)

pub returns-in-Some-clause-entries : goal.returns-in-Some-clause-entries
returns-in-Some-clause-entries c =
    let slots = c.self.inside.slots.items in
    let last = c.self.inside.last in
    let number = c.args.number in
    let later = c.in-Some.later in
    let at = subst (λ (v : Listing). IsAt (suc number) v.entries) (sym c.self.view_is) c.requires in
    let s = c.index-slot.result.now in
    let now = c.link_after.new.slots.items in
    let is = get_or_read slots c.place.result s (omega (arith, c.place.ensures, list-slot slots last number c.self.invariant at)) c.index-slot.ensures no_slot ∙ ap (slot_at slots) c.place.ensures in
    let after = ap (λ (s : Slot). s.after) is in
    let there : later < length now = omega (arith, c.in-Some.ensures.some, after, (near-within slots last number c.self.invariant at).1, ap length c.link_after.ensures, after-length slots s.before s.after) in
    let made = unlinked-some slots now number c.place-in-Some.result later s c.index_mut.result.now is c.link_after.ensures c.place-in-Some.ensures c.in-Some.ensures.some there c.index_mut.ensures.value in
    ap (λ (t : List Slot). listed t last) made ∙ ap (listed (unlinked number slots)) (sym (last-stays slots last number later c.self.invariant (sym after ∙ c.in-Some.ensures.some))) ∙ (list-remove slots last number c.self.invariant at).1
    ∙ ap (λ (v : Listing). removed number v.entries) c.self.view_is

pub returns-in-Some-clause-same : goal.returns-in-Some-clause-same
returns-in-Some-clause-same c =
    let slots = c.self.inside.slots.items in
    let last = c.self.inside.last in
    let number = c.args.number in
    let at = subst (λ (v : Listing). IsAt (suc number) v.entries) (sym c.self.view_is) c.requires in
    let s = c.index-slot.result.now in
    let now = c.link_after.new.slots.items in
    let is = get_or_read slots c.place.result s (omega (arith, c.place.ensures, list-slot slots last number c.self.invariant at)) c.index-slot.ensures no_slot ∙ ap (slot_at slots) c.place.ensures in
    let there : c.in-Some.later < length now =
    omega (arith, c.in-Some.ensures.some, ap (λ (s : Slot). s.after) is, (near-within slots last number c.self.invariant at).1, ap length c.link_after.ensures, after-length slots s.before s.after) in
    let made = unlinked-some slots now number c.place-in-Some.result c.in-Some.later s c.index_mut.result.now is c.link_after.ensures c.place-in-Some.ensures c.in-Some.ensures.some there c.index_mut.ensures.value in
    (ap held_in made ∙ held-unlinked slots number ∙ ap (λ (v : Listing). v.runs) c.self.view_is, ap (λ (v : Listing). v.looks) c.self.view_is)

pub returns-in_default-clause-entries : goal.returns-in_default-clause-entries
returns-in_default-clause-entries c =
    let slots = c.self.inside.slots.items in
    let last = c.self.inside.last in
    let number = c.args.number in
    let at = subst (λ (v : Listing). IsAt (suc number) v.entries) (sym c.self.view_is) c.requires in
    let s = c.index-slot.result.now in
    let is = get_or_read slots c.place.result s (omega (arith, c.place.ensures, list-slot slots last number c.self.invariant at)) c.index-slot.ensures no_slot ∙ ap (slot_at slots) c.place.ensures in
    let none = c.in_default.ensures.none refl in
    let made = unlinked-none slots c.link_after.new.slots.items number s is c.link_after.ensures none in
    let top = last-after slots last number c.self.invariant at (sym (ap (λ (s : Slot). s.after) is) ∙ none) ∙ sym (ap (λ (s : Slot). s.before) is) in
    ap (λ (t : List Slot). listed t s.before) made ∙ ap (listed (unlinked number slots)) (sym top) ∙ (list-remove slots last number c.self.invariant at).1 ∙ ap (λ (v : Listing). removed number v.entries) c.self.view_is

pub returns-in_default-clause-same : goal.returns-in_default-clause-same
returns-in_default-clause-same c =
    let slots = c.self.inside.slots.items in
    let number = c.args.number in
    let at = subst (λ (v : Listing). IsAt (suc number) v.entries) (sym c.self.view_is) c.requires in
    let s = c.index-slot.result.now in
    let is = get_or_read slots c.place.result s (omega (arith, c.place.ensures, list-slot slots c.self.inside.last number c.self.invariant at)) c.index-slot.ensures no_slot ∙ ap (slot_at slots) c.place.ensures in
    let made = unlinked-none slots c.link_after.new.slots.items number s is c.link_after.ensures (c.in_default.ensures.none refl) in
    (ap held_in made ∙ held-unlinked slots number ∙ ap (λ (v : Listing). v.runs) c.self.view_is, ap (λ (v : Listing). v.looks) c.self.view_is)
