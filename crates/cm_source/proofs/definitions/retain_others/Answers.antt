use Rattle.std.proofs.Common.{rules}
use Rattle.std.specs.Prelude.{not}
use Rattle.std.proofs.lemmas.List.Elements.{filter_from_retain}
use Rattle.cm_source.specs.Definitions.{is_definition}
use Rattle.cm_source.proofs.definitions.retain_others.Goals as goal

pub returns : goal.returns
returns c = filter_from_retain _ (λ block. not (is_definition block)) (λ f block b g h. search rules) _ c.args.blocks.now.items c.retain.new.self.items c.retain.ensures.filtered
