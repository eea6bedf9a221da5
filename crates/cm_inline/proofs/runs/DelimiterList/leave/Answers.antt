use Rattle.cm_inline.proofs.lemmas.Words.{◌<◌, sym, ap, subst, ◌∙◌, length, arith, set, List, HeldRun}
use Rattle.cm_inline.specs.declared.runs.Slot.{Slot}
use Rattle.cm_inline.specs.steps.Runs.{Listing}
use Rattle.cm_inline.specs.steps.pairing.States.{left_at, run_at}
use Rattle.cm_inline.specs.steps.Slots.{AreLinked, rewritten, held_in, slot_at}
use Rattle.cm_inline.proofs.lemmas.SlotLemmas.{listed, list-rewrite, left-is, run-written, held-run, held-length}
use Rattle.cm_inline.proofs.runs.DelimiterList.leave.Goals as goal

pub invariant_of-self : goal.invariant_of-self
invariant_of-self c =
    let slots = c.self.inside.slots.items in
    let number = c.args.number in
    let there : number < length slots = omega (arith, c.requires, held-length slots, ap (λ (v : Listing). length v.runs) c.self.view_is) in
    let is = left-is slots c.place.result number c.args.left c.args.opened c.index_mut.result.now c.place.ensures there c.index_mut.ensures.value in
    subst (λ s. AreLinked s c.self.inside.last) (sym is) (list-rewrite slots c.self.inside.last number (left_at c.args.left c.args.opened (slot_at slots number).run) c.self.invariant there).0

pub returns-clause-runs : goal.returns-clause-runs
returns-clause-runs c =
    let slots = c.self.inside.slots.items in
    let number = c.args.number in
    let there : number < length slots = omega (arith, c.requires, held-length slots, ap (λ (v : Listing). length v.runs) c.self.view_is) in
    let is = left-is slots c.place.result number c.args.left c.args.opened c.index_mut.result.now c.place.ensures there c.index_mut.ensures.value in
    ap held_in is ∙ held-run slots number (left_at c.args.left c.args.opened) ∙ ap (λ (v : Listing). set v.runs number (left_at c.args.left c.args.opened (run_at v.runs number))) c.self.view_is

pub returns-clause-entries : goal.returns-clause-entries
returns-clause-entries c =
    let slots = c.self.inside.slots.items in
    let last = c.self.inside.last in
    let number = c.args.number in
    let run = left_at c.args.left c.args.opened (slot_at slots number).run in
    let there : number < length slots = omega (arith, c.requires, held-length slots, ap (λ (v : Listing). length v.runs) c.self.view_is) in
    let is = left-is slots c.place.result number c.args.left c.args.opened c.index_mut.result.now c.place.ensures there c.index_mut.ensures.value in
    let x = ap (λ s. run_at (held_in s) number) is ∙ run-written slots number run there in
    ap (λ (s : List Slot). listed s last) is ∙ (list-rewrite slots last number run c.self.invariant there).1 ∙ ap (λ (v : Listing). rewritten number run v.entries) c.self.view_is
    ∙ ap (λ (r : HeldRun). rewritten number r c.args.self.now.entries) (sym x)
