use Rattle.std.proofs.Common.{◌∙◌, ◌++◌, ap}
use Rattle.cm_scan.specs.blocks.Parts.{info_of}
use Rattle.cm_block.proofs.infos.set_info.Goals as goal

pub returns : goal.returns
returns c =
    c.in_ok-push_resolved.ensures c.args.source.now (c.deref.ensures.value ∙ c.in_ok-resolved.ensures.unescaped)
    ∙ ap (λ t. t ++ info_of c.args.rules c.args.source.now) c.clear.ensures.bytes
