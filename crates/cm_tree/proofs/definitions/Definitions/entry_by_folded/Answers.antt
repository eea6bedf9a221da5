use Rattle.std.proofs.Common.{◌∙◌, Option, Some, None, option_map, cond, sym, ap, subst, string_bytes}
use Rattle.cm_tree.specs.Definitions.{Target, target_numbered, target_if_followed}
use Rattle.cm_tree.specs.steps.LabelIndex.{IsLabel, IsNew}
use Rattle.cm_tree.specs.steps.Entries.{labels_in}
use Rattle.cm_tree.proofs.lemmas.EntryLemmas.{has-none, has-followed}
use Rattle.cm_tree.proofs.definitions.Definitions.entry_by_folded.Goals as goal

pub returns-in_err-entry-clause-found : goal.returns-in_err-entry-clause-found
returns-in_err-entry-clause-found c =
    let text = string_bytes c.self.inside.texts in
    let es = c.self.inside.entries.items in
    let new : IsNew (labels_in text es) c.args.label.now =
    subst (λ t. IsNew (labels_in t es) c.args.label.now) c.deref.ensures
    (subst (λ ds. IsNew (labels_in c.deref.result.now ds) c.args.label.now) c.deref-2.ensures.value (c.entry_under.ensures.absent c.in_err-entry.was)) in
    ap (λ found. option_map (target_numbered c.args.self.now) found) c.from_residual.ensures
    ∙ ap (λ (target : Option Target). target_if_followed c.args.rules target) (sym (has-none text es c.args.self.now c.self.view_is c.args.label.now new))

pub returns-then-is_followed-clause-found : goal.returns-then-is_followed-clause-found
returns-then-is_followed-clause-found c =
    let text = string_bytes c.self.inside.texts in
    let es = c.self.inside.entries.items in
    let there : IsLabel (labels_in text es) c.in_ok-entry.entry c.args.label.now =
    subst (λ t. IsLabel (labels_in t es) c.in_ok-entry.entry c.args.label.now) c.deref.ensures
    (subst (λ ds. IsLabel (labels_in c.deref.result.now ds) c.in_ok-entry.entry c.args.label.now) c.deref-2.ensures.value c.in_ok-entry.ensures.there) in
    sym (has-followed text es c.args.self.now c.self.view_is c.in_ok-entry.entry c.index.result.now c.args.label.now c.args.rules c.is_followed.result
    c.self.invariant.there c.self.invariant.distinct there c.index.ensures c.is_followed.ensures
    ∙ ap (λ b. cond b (Some (target_numbered c.args.self.now c.in_ok-entry.entry)) None) c.if-is_followed.true)

pub returns-clause-found : goal.returns-clause-found
returns-clause-found c =
    let text = string_bytes c.self.inside.texts in
    let es = c.self.inside.entries.items in
    let there : IsLabel (labels_in text es) c.in_ok-entry.entry c.args.label.now =
    subst (λ t. IsLabel (labels_in t es) c.in_ok-entry.entry c.args.label.now) c.deref.ensures
    (subst (λ ds. IsLabel (labels_in c.deref.result.now ds) c.in_ok-entry.entry c.args.label.now) c.deref-2.ensures.value c.in_ok-entry.ensures.there) in
    sym (has-followed text es c.args.self.now c.self.view_is c.in_ok-entry.entry c.index.result.now c.args.label.now c.args.rules c.is_followed.result
    c.self.invariant.there c.self.invariant.distinct there c.index.ensures c.is_followed.ensures
    ∙ ap (λ b. cond b (Some (target_numbered c.args.self.now c.in_ok-entry.entry)) None) c.if-is_followed.false)
