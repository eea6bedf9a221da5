use Rattle.std.proofs.Common.{◌<◌, ap, arith, length}
use Rattle.cm_tree.specs.RawBlocks.{Raw}
use Rattle.cm_tree.proofs.lemmas.RawLemmas.{made-length, block-there, placed-there}
use Rattle.cm_tree.proofs.raw_blocks.RawBlocks.block_at.Goals as goal

pub index-requires : goal.index-requires
index-requires c = omega (arith, c.requires, made-length _ _ _ c.self.invariant, ap (λ (r : Raw). length r.blocks) c.self.view_is)

pub returns-clause-block : goal.returns-clause-block
returns-clause-block c =
    let within : c.args.at < length c.self.inside.blocks.items = omega (arith, c.requires, made-length _ _ _ c.self.invariant, ap (λ (r : Raw). length r.blocks) c.self.view_is) in
    rw (← c.self.view_is) (block-there _ _ _ c.self.invariant c.args.at c.index.result.now within c.index.ensures)

pub returns-clause-placed : goal.returns-clause-placed
returns-clause-placed c =
    let within : c.args.at < length c.self.inside.blocks.items = omega (arith, c.requires, made-length _ _ _ c.self.invariant, ap (λ (r : Raw). length r.blocks) c.self.view_is) in
    rw (← c.self.view_is) (placed-there _ _ _ c.self.invariant c.args.at c.index.result.now within c.index.ensures)
