use Rattle.std.proofs.Common.{string_bytes, Some, ap}
use Rattle.cm_text.specs.Views.{seen_view}
use Rattle.cm_block.proofs.lemmas.LeafLemmas.{no_text, fence_begins}
use Rattle.cm_block.proofs.counted_line.first_line.begin_fence.Goals as goal

pub returns : goal.returns
returns c =
    let text = c.args.leaf.now.text in
    ap Some (fence_begins c.args.rules c.args.fence.kind.marker c.args.fence.kind.count (string_bytes c.set_info.new.info) c.args.fence.info.now c.indent.result text (seen_view c.args.line.now)
    c.in_ok-set_info.ensures c.indent.ensures (no_text c.args.leaf.now c.requires))
