use Rattle.std.proofs.Common.{◌∙◌, ap, length, ◌==◌}
use Rattle.cm_html.specs.steps.Bytes.{is_changed}
use Rattle.cm_text.proofs.lemmas.SearchLemmas.{none-before-end}
use Rattle.cm_html.proofs.search.is_unchanged.Goals as goal

pub returns : goal.returns
returns c = ap (λ n. n == length c.args.destination.now) c.next_of.ensures.next ∙ none-before-end is_changed c.args.destination.now
