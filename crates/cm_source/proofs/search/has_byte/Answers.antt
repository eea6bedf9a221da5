use Rattle.std.proofs.Common.{◌==◌, ap, ◌∙◌}
use Rattle.std.specs.List.{list_any}
use Rattle.std.specs.Option.{is_some}
use Rattle.cm_source.proofs.lemmas.spelling.SearchLemmas.{found-any}
use Rattle.cm_source.proofs.search.has_byte.Goals as goal

pub returns : goal.returns
returns c = c.is_some.ensures ∙ ap is_some c.find_byte.ensures ∙ found-any (λ x. x == c.args.b) c.as_bytes.result.now ∙ ap (list_any (λ x. x == c.args.b)) c.as_bytes.ensures.value
