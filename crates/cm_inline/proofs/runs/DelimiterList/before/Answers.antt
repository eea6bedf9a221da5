use Rattle.cm_inline.proofs.lemmas.Words.{suc, sym, ap, subst, ◌∙◌, get_or_read, arith}
use Rattle.cm_inline.specs.declared.runs.Slot.{Slot}
use Rattle.cm_inline.specs.steps.Runs.{Listing}
use Rattle.cm_inline.specs.steps.Slots.{first_up, upto, IsAt, no_slot, slot_at}
use Rattle.cm_inline.proofs.lemmas.SlotLemmas.{listed, list-slot, read-at}
use Rattle.cm_inline.proofs.runs.DelimiterList.before.Goals as goal

pub index-requires : goal.index-requires
index-requires c =
    let at = subst (λ (v : Listing). IsAt (suc c.args.number) v.entries) (sym c.self.view_is) c.requires in
    omega (arith, c.place.ensures, list-slot c.self.inside.slots.items c.self.inside.last c.args.number c.self.invariant at)

pub returns : goal.returns
returns c =
    let slots = c.self.inside.slots.items in
    let last = c.self.inside.last in
    let number = c.args.number in
    let at = subst (λ (v : Listing). IsAt (suc number) v.entries) (sym c.self.view_is) c.requires in
    let is = get_or_read slots c.place.result c.index.result.now (omega (arith, c.place.ensures, list-slot slots last number c.self.invariant at)) c.index.ensures no_slot in
    ap (λ (s : Slot). s.before) is ∙ ap (λ k. (slot_at slots k).before) c.place.ensures ∙ (read-at slots 0 last number (listed slots last) c.self.invariant.linked at).before
    ∙ ap (λ (v : Listing). first_up (upto number v.entries)) c.self.view_is
