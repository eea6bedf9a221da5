use Rattle.std.proofs.Common.{◌<◌, ◌∙◌, length, sym, ap, subst, arith, string_bytes}
use Rattle.cm_tree.specs.steps.KeptTexts.{kept_target, IsKept}
use Rattle.cm_tree.proofs.lemmas.EntryLemmas.{read-entry, count-value, has-numbered}
use Rattle.cm_tree.proofs.definitions.Definitions.target_at.Goals as goal

pub target-requires : goal.target-requires
target-requires c =
    let es = c.self.inside.entries.items in
    let all = count-value (string_bytes c.self.inside.texts) es c.args.self.now c.self.view_is in
    let within : c.args.entry < length es = omega arith in
    subst (λ t. IsKept t c.index.result.now.texts) (sym c.deref.ensures)
    (read-entry (string_bytes c.self.inside.texts) es c.args.entry c.index.result.now c.self.invariant.there within c.index.ensures).kept

pub returns : goal.returns
returns c =
    let es = c.self.inside.entries.items in
    let all = count-value (string_bytes c.self.inside.texts) es c.args.self.now c.self.view_is in
    c.target.ensures
    ∙ ap (λ t. kept_target t c.index.result.now.texts) c.deref.ensures
    ∙ sym (has-numbered (string_bytes c.self.inside.texts) es c.args.self.now c.self.view_is c.args.entry c.index.result.now (omega arith) c.index.ensures)
