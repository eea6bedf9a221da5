use Rattle.std.proofs.Common.{◌≡◌, ◌<◌, ◌-◌, suc, [], true, false, ◌∙◌, sym, ap, arith, rules, length, get_or, inl, inr}
use Rattle.std.proofs.lemmas.Bool.{cases_lt}
use Rattle.std.proofs.lemmas.Slice.Eq.{bytes_eq-Decides}
use Rattle.cm_tree.specs.steps.Entries.{labels_in, label_in}
use Rattle.cm_tree.proofs.lemmas.EntryLemmas.{read-entry, read-label, count}
use Rattle.cm_tree.proofs.entries.in_slots.Goals as goal

pub is_under-requires-clause-entry : goal.is_under-requires-clause-entry
is_under-requires-clause-entry c =
    let named : c.unwrap_or-named.result ≡ get_or c.args.slots.now c.loop-slot.slot 0 = search rules in
    let within : c.unwrap_or-named.result - 1 < length c.args.entries.now = let most = c.requires.named c.loop-slot.slot in omega arith in
    read-entry c.args.texts.now c.args.entries.now (c.unwrap_or-named.result - 1) c.index-entries-named.result c.requires.entries within c.index-entries-named.is

pub returns-then-is_under-clause-there : goal.returns-then-is_under-clause-there
returns-then-is_under-clause-there c =
    let named : c.unwrap_or-named.result ≡ get_or c.args.slots.now c.loop-slot.slot 0 = search rules in
    let within : c.unwrap_or-named.result - 1 < length c.args.entries.now = let most = c.requires.named c.loop-slot.slot in omega arith in
    let all = count c.args.texts.now c.args.entries.now in (
      (omega arith),
      read-label c.args.texts.now c.args.entries.now (c.unwrap_or-named.result - 1) c.index-entries-named.result within c.index-entries-named.is
          ∙ (bytes_eq-Decides (label_in c.args.texts.now c.index-entries-named.result) c.args.label.now).0 (sym c.is_under.ensures ∙ c.if-is_under.true),
    )

pub loop-slot-preserved : goal.loop-slot-preserved
loop-slot-preserved c =
    let named : c.unwrap_or-named.result ≡ get_or c.args.slots.now c.loop-slot.slot 0 = search rules in
    let within : c.unwrap_or-named.result - 1 < length c.args.entries.now = let most = c.requires.named c.loop-slot.slot in omega arith in
    let read = read-label c.args.texts.now c.args.entries.now (c.unwrap_or-named.result - 1) c.index-entries-named.result within c.index-entries-named.is in (
      (λ s from less free. elim (cases_lt s c.loop-slot.slot) [
        | inl low ↦ c.loop-slot.invariant.0 s from low free
        | inr high ↦ let same : s ≡ c.loop-slot.slot = omega arith in
            let none : c.unwrap_or-named.result ≡ 0 = named ∙ ap (λ t. get_or c.args.slots.now t 0) (sym same) ∙ free in c.if-named-eq0.false none
      ]),
      (λ s entry from less is label. elim (cases_lt s c.loop-slot.slot) [
        | inl low ↦ c.loop-slot.invariant.1 s entry from low is label
        | inr high ↦ let same : s ≡ c.loop-slot.slot = omega arith in
            let it : c.unwrap_or-named.result ≡ suc entry = named ∙ ap (λ t. get_or c.args.slots.now t 0) (sym same) ∙ is in
            let entry_is : c.unwrap_or-named.result - 1 ≡ entry = omega arith in
            let met : label_in c.args.texts.now c.index-entries-named.result ≡ c.args.label.now =
            sym read ∙ ap (λ e. get_or (labels_in c.args.texts.now c.args.entries.now) e []) entry_is ∙ label in
            let wrong : true ≡ false = sym ((bytes_eq-Decides (label_in c.args.texts.now c.index-entries-named.result) c.args.label.now).1 met) ∙ sym c.is_under.ensures ∙ c.if-is_under.false in cc
      ]),
    )
