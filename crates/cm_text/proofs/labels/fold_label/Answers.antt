use Rattle.std.proofs.Common.{◌≡◌, ◌∙◌, true, ap, string_bytes, sym}
use Rattle.cm_text.specs.Labels.{fold_label, settle_gaps}
use Rattle.cm_text.specs.steps.LabelSteps.{is_settled}
use Rattle.cm_text.proofs.lemmas.LabelLemmas.{settled}
use Rattle.cm_text.proofs.labels.fold_label.Goals as goal

pub returns-then-is_settled : goal.returns-then-is_settled
unfolding fold_label
returns-then-is_settled c = record {
  folded = let folded = string_bytes c.in_ok-folded.folded in
      let is : is_settled true folded ≡ true = ap (is_settled true) (sym c.as_bytes.ensures.value) ∙ sym c.is_settled.ensures.settled ∙ c.if-is_settled.true in
      sym (settled folded is) ∙ ap settle_gaps c.in_ok-folded.ensures.folded;
}
