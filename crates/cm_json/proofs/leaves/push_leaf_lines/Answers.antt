use Rattle.std.proofs.Common.{◌+◌, ◌++◌, drop, ap, ap₂, ◌∙◌}
use Rattle.cm_json.specs.Mdast.{run_length}
use Rattle.cm_json.specs.steps.Texts.{lines_text}
use Rattle.cm_json.specs.steps.Phrases.{expanded}
use Rattle.cm_json.proofs.lemmas.Pushed.{then}
use Rattle.cm_json.proofs.leaves.push_leaf_lines.Goals as goal

pub returns-clause-written : goal.returns-clause-written
returns-clause-written c =
    let start = c.start_of-start.result in
    let end = c.end_of-end.result in
    let begins = c.start_of-start.ensures.found in
    let ends = c.end_of-end.ensures.found ∙ ap (λ s. s + run_length (drop s c.args.owners.now)) begins in
    then _ _ _ (expanded c.args.front.now) (lines_text start end) c.in_ok-push_str.ensures c.in_ok-push_lines.ensures
    ∙ ap₂ (λ s e. c.args.out.now ++ ((expanded c.args.front.now) ++ lines_text s e)) begins ends
