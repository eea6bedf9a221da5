use Rattle.std.proofs.Common.{◌∙◌, ◌/◌, ◌^◌, sym, ap, subst, refl, arith, string_bytes}
use Rattle.cm_tree.specs.steps.Entries.{AreKept, entries_in}
use Rattle.cm_tree.proofs.lemmas.TargetLemmas.{seam, cut-back, same-goes-on}
use Rattle.cm_tree.proofs.lemmas.EntryLemmas.{kept-grow, same-targets, on-err, met, passed, add-met, add-crowded, same-kept, same-is, added-kept, added-is}
use Rattle.cm_tree.proofs.definitions.Definitions.add_folded.Goals as goal

pub returns-then-is_some-clause-ok : goal.returns-then-is_some-clause-ok
returns-then-is_some-clause-ok c =
    let text = string_bytes c.self.inside.texts in
    let es = c.self.inside.entries.items in
    c.make_room.ensures
    ∙ sym (add-met text es c.args.self.now (c.self.view_is ∙ c.make_room.ensures) c.args.label.now (c.args.dest.now, c.args.title.now) c.self.invariant.distinct c.in_slots-there.result
    (met text _ es _ c.args.label.now c.in_slots-there.result c.deref.ensures c.deref-2.ensures.value c.in_slots-there.ensures.there)
    (sym c.is_some.ensures ∙ c.if-is_some.true))

pub invariant_of-self : goal.invariant_of-self
invariant_of-self c = kept-grow (string_bytes c.self.inside.texts) _ _ _ c.in_err-entry.ensures.goes_on c.self.invariant

pub returns-in_err-entry-clause-err : goal.returns-in_err-entry-clause-err
returns-in_err-entry-clause-err c =
    on-err _ c.from_residual-in_err-entry.result
    (same-targets (string_bytes c.self.inside.texts) _ _ _ c.in_err-entry.ensures.goes_on c.self.invariant.there (c.self.view_is ∙ c.make_room.ensures))

pub invariant_of-self-in_err-added : goal.invariant_of-self-in_err-added
invariant_of-self-in_err-added c =
    same-kept (string_bytes c.self.inside.texts) _ c.self.inside.entries.items _ _ _ _ c.in_ok-entry.ensures.goes_on c.self.invariant c.self.view_is
    c.in_err-added.ensures.err.0 c.in_err-added.ensures.err.1

pub returns-in_err-added-clause-err : goal.returns-in_err-added-clause-err
returns-in_err-added-clause-err c =
    on-err _ c.from_residual-in_err-added.result
    (same-is (string_bytes c.self.inside.texts) _ c.self.inside.entries.items _ _ c.put.new.index _ c.in_ok-entry.ensures.goes_on c.self.invariant
    (c.self.view_is ∙ c.make_room.ensures) c.in_err-added.ensures.err.0)

pub truncate-requires : goal.truncate-requires
truncate-requires c = λ _.
    let boundary = seam (string_bytes c.self.inside.texts) (string_bytes c.copy.new.texts) c.len-from.result (omega arith) c.in_ok-entry.ensures.goes_on in
    (boundary.0, λ _ within. boundary.1 within)

pub invariant_of-self-then-not-added : goal.invariant_of-self-then-not-added
invariant_of-self-then-not-added c =
    let old = string_bytes c.self.inside.texts in
    subst (λ text. AreKept text c.put.new.entries.items c.put.new.index)
    (sym (c.truncate.ensures.bytes ∙ cut-back old (string_bytes c.copy.new.texts) c.len-from.result (omega arith) c.in_ok-entry.ensures.goes_on))
    (same-kept old old c.self.inside.entries.items c.put.new.entries.items c.self.inside.index c.put.new.index _ (same-goes-on old old refl) c.self.invariant c.self.view_is
    (c.in_ok-added.ensures.same c.if-not-added.true) (c.in_ok-added.ensures.there c.if-not-added.true).same)

pub returns-then-not-added-clause-ok : goal.returns-then-not-added-clause-ok
returns-then-not-added-clause-ok c =
    let old = string_bytes c.self.inside.texts in
    let es = c.self.inside.entries.items in
    ap (λ text. entries_in text c.put.new.entries.items)
    (c.truncate.ensures.bytes ∙ cut-back old (string_bytes c.copy.new.texts) c.len-from.result (omega arith) c.in_ok-entry.ensures.goes_on)
    ∙ ap (entries_in old) (c.in_ok-added.ensures.same c.if-not-added.true)
    ∙ c.self.view_is ∙ c.make_room.ensures
    ∙ sym (add-crowded old es c.args.self.now (c.self.view_is ∙ c.make_room.ensures) c.args.label.now (c.args.dest.now, c.args.title.now) c.self.inside.index c.put.new.index
    c.self.invariant (c.in_ok-added.ensures.there c.if-not-added.true))

pub invariant_of-self-else-not-added : goal.invariant_of-self-else-not-added
invariant_of-self-else-not-added c =
    let old = string_bytes c.self.inside.texts in
    let es = c.self.inside.entries.items in
    added-kept old (string_bytes c.copy.new.texts) es c.put.new.entries.items c.self.inside.index c.put.new.index _ c.in_ok-entry.ensures.goes_on c.self.invariant c.self.view_is
    c.in_ok-entry.entry c.args.label.now (c.args.dest.now, c.args.title.now) c.in_ok-entry.ensures.made
    (passed old _ es _ c.args.label.now c.in_slots-there.result c.deref.ensures c.deref-2.ensures.value c.self.inside.index.slots.items _ c.hash_of-hash.result c.deref-3.ensures.value
    (c.hash_of-hash.ensures ∙ ap (λ n. n / 2 ^ 32) c.requires) (sym c.is_some.ensures ∙ c.if-is_some.false) c.in_slots-there.ensures.absent)
    (c.in_ok-added.ensures.entries c.if-not-added.false) (c.in_ok-added.ensures.index c.if-not-added.false)

pub returns-else-not-added-clause-ok : goal.returns-else-not-added-clause-ok
returns-else-not-added-clause-ok c =
    let old = string_bytes c.self.inside.texts in
    let es = c.self.inside.entries.items in
    added-is old (string_bytes c.copy.new.texts) es c.put.new.entries.items c.self.inside.index c.put.new.index c.args.self.now c.in_ok-entry.ensures.goes_on c.self.invariant
    (c.self.view_is ∙ c.make_room.ensures) c.in_ok-entry.entry c.args.label.now (c.args.dest.now, c.args.title.now) c.in_ok-entry.ensures.made
    (passed old _ es _ c.args.label.now c.in_slots-there.result c.deref.ensures c.deref-2.ensures.value c.self.inside.index.slots.items _ c.hash_of-hash.result c.deref-3.ensures.value
    (c.hash_of-hash.ensures ∙ ap (λ n. n / 2 ^ 32) c.requires) (sym c.is_some.ensures ∙ c.if-is_some.false) c.in_slots-there.ensures.absent)
    (c.in_ok-added.ensures.entries c.if-not-added.false) (c.in_ok-added.ensures.index c.if-not-added.false)
