use Rattle.std.proofs.Common.{◌∙◌, length, ap, arith}
use Rattle.cm_text.specs.Search.{next_place, is_no_space}
use Rattle.cm_text.proofs.lemmas.SearchLemmas.{from_the_front, spaces_first, spaces_boundary}
use Rattle.cm_text.proofs.search.leading_spaces.Goals as goal

pub returns-clause-spaces : goal.returns-clause-spaces
returns-clause-spaces c =
    c.next_of.ensures.next ∙ ap (λ t. next_place is_no_space t 0) c.as_bytes.ensures.value ∙ from_the_front is_no_space c.args.text.now

pub returns-clause-boundary : goal.returns-clause-boundary
returns-clause-boundary c =
    spaces_boundary c.args.text.now c.next_of.result c.utf8.text (omega (arith, c.next_of.ensures.next, ap length c.as_bytes.ensures.value))
    (λ k below. spaces_first c.args.text.now k (omega (arith, below, returns-clause-spaces c)))
