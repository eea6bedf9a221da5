use Rattle.std.proofs.Common.{sym, ◌∙◌}
use Rattle.std.proofs.lemmas.Result.{IfOk-weaker}
use Rattle.cm_text.proofs.lemmas.FoldLemmas.{ascii_folds}
use Rattle.cm_text.proofs.labels.case_fold.Goals as goal

pub returns-then-is_ascii : goal.returns-then-is_ascii
returns-then-is_ascii c = record { folded = IfOk-weaker c.to_ascii_lowercase.result _ _ (λ folded is. is ∙ sym (ascii_folds c.args.text.now c.if-is_ascii.ensures.cases)) c.to_ascii_lowercase.ensures.ok }
