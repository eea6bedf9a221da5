use Rattle.cm_source.specs.Definitions.{without_definitions}
use Rattle.cm_tool.specs.steps.PlainSources.{Spelled}
use Rattle.cm_tool.proofs.lemmas.ParserLemmas.{walk_made}
use Rattle.cm_tool.proofs.outlines.plain_source_of_outline.Goals as goal

pub returns : goal.returns
returns c = λ bytes is.
    let new = c.new.ensures in
    walk_made c.args.limits c.args.outline bytes is (λ tree source. Spelled c.args.limits.rules (without_definitions tree) source) c.new.result c.plain_source.new.self
    new.first new.limits new.all c.plain_source.result (rw c.rules.ensures at c.plain_source.ensures.source) c.plain_source.ensures.passes c.plain_source.ensures.told
