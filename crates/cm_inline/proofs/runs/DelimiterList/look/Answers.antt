use Rattle.cm_inline.proofs.lemmas.Words.{◌∷◌, suc, sym, ap, subst, ◌∙◌, get_or_read, arith}
use Rattle.cm_inline.specs.declared.runs.Slot.{Slot}
use Rattle.cm_inline.specs.steps.Runs.{Listing, entry_of}
use Rattle.cm_inline.specs.steps.pairing.States.{run_at}
use Rattle.cm_inline.specs.steps.Slots.{upto, IsAt, no_slot, slot_at}
use Rattle.cm_inline.proofs.lemmas.SlotLemmas.{listed, list-slot, read-at, run-held}
use Rattle.cm_inline.proofs.runs.DelimiterList.look.Goals as goal

pub index-requires : goal.index-requires
index-requires c =
    let at = subst (λ (v : Listing). IsAt (suc c.args.number) v.entries) (sym c.self.view_is) c.requires.there in
    omega (arith, c.place.ensures, list-slot c.self.inside.slots.items c.self.inside.last c.args.number c.self.invariant at)

pub returns-clause-read : goal.returns-clause-read
returns-clause-read c =
    let slots = c.self.inside.slots.items in
    let number = c.args.number in
    let at = subst (λ (v : Listing). IsAt (suc number) v.entries) (sym c.self.view_is) c.requires.there in
    let is = get_or_read slots c.place.result c.index.result.now (omega (arith, c.place.ensures, list-slot slots c.self.inside.last number c.self.invariant at)) c.index.ensures no_slot in
    ap (λ (s : Slot). s.run) is ∙ ap (λ k. (slot_at slots k).run) c.place.ensures ∙ sym (run-held slots number) ∙ ap (λ (v : Listing). run_at v.runs number) c.self.view_is

pub returns-clause-entry : goal.returns-clause-entry
returns-clause-entry c =
    let slots = c.self.inside.slots.items in
    let last = c.self.inside.last in
    let number = c.args.number in
    let at = subst (λ (v : Listing). IsAt (suc number) v.entries) (sym c.self.view_is) c.requires.there in
    let is = get_or_read slots c.place.result c.index.result.now (omega (arith, c.place.ensures, list-slot slots last number c.self.invariant at)) c.index.ensures no_slot in
    sym (ap (λ (v : Listing). upto (suc number) v.entries) c.self.view_is) ∙ (read-at slots 0 last number (listed slots last) c.self.invariant.linked at).whole
    ∙ ap (λ (s : Slot). entry_of number s.run ∷ upto number (listed slots last)) (sym (is ∙ ap (slot_at slots) c.place.ensures))
    ∙ ap (λ (v : Listing). entry_of number c.index.result.now.run ∷ upto number v.entries) c.self.view_is
