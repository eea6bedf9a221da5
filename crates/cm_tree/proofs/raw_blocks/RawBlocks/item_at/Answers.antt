use Rattle.std.proofs.Common.{◌<◌, ap, arith, length}
use Rattle.cm_tree.specs.RawBlocks.{Raw}
use Rattle.cm_tree.proofs.lemmas.RawLemmas.{items-length, is_item-there}
use Rattle.cm_tree.proofs.raw_blocks.RawBlocks.item_at.Goals as goal

pub returns-clause-placed : goal.returns-clause-placed
returns-clause-placed c =
    let within : c.args.at < length c.self.inside.items.items = omega (arith, c.requires, items-length _ _ _ c.self.invariant, ap (λ (r : Raw). length r.items) c.self.view_is) in
    rw (← c.self.view_is) (is_item-there _ _ _ c.self.invariant c.args.at c.index.result.now within c.index.ensures)
