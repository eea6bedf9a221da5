use Rattle.std.proofs.Common.{◌||◌, ap, sym, ◌∙◌}
use Rattle.cm_source.specs.Refusals.{begins_too_high}
use Rattle.cm_source.proofs.lemmas.refusals.BlockRefusals.{no-items}
use Rattle.cm_source.proofs.refusals.is_malformed.Goals as goal

pub returns-else-is_empty : goal.returns-else-is_empty
returns-else-is_empty c = λ rules.
    c.begins_too_high.ensures ∙ ap (λ v. v || begins_too_high c.args.kind) (sym c.if-is_empty.false ∙ c.is_empty.ensures ∙ no-items rules c.args.items.now)
