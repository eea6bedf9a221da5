use Rattle.std.proofs.Common.{◌∙◌, sym, subst}
use Rattle.cm_tree.specs.steps.LabelIndex.{home, IsPassed}
use Rattle.cm_tree.specs.steps.Entries.{labels_in}
use Rattle.cm_tree.proofs.lemmas.IndexLemmas.{absent, tree-there}
use Rattle.cm_tree.proofs.entries.entry_under.Goals as goal

pub returns-in-None-clause-there : goal.returns-in-None-clause-there
returns-in-None-clause-there c =
    tree-there c.args.index.now (labels_in c.args.texts.now c.args.entries.now) c.args.label.now c.copied.result c.requires.index (c.copied.ensures ∙ c.get.ensures.value)

pub returns-in-None-clause-absent : goal.returns-in-None-clause-absent
returns-in-None-clause-absent c = λ none.
    let slots = c.args.index.now.slots.items in
    let labels = labels_in c.args.texts.now c.args.entries.now in
    absent c.args.index.now labels c.args.label.now c.requires.index
    (subst (λ n. IsPassed slots (home slots n) labels c.args.label.now) c.requires.hash
    (subst (λ ss. IsPassed ss (home ss c.args.hash) labels c.args.label.now) c.deref.ensures.value (c.in_slots.ensures.absent c.in-None.is)))
    (sym (c.copied.ensures ∙ c.get.ensures.value) ∙ none)
