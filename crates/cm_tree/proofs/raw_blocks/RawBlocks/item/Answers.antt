use Rattle.std.proofs.Common.{◌≡◌, [], length, ap, sym, arith, ◌∙◌}
use Rattle.std.proofs.lemmas.List.{append-nil}
use Rattle.cm_tree.specs.RawBlocks.{Raw, blocks_in}
use Rattle.cm_tree.proofs.lemmas.RawLemmas.{grows-same, made-length, blocks-beyond, blocks-held, blocks-last}
use Rattle.cm_tree.proofs.raw_blocks.RawBlocks.item.Goals as goal

pub returns-in_err-extend_from_slice-clause-grows : goal.returns-in_err-extend_from_slice-clause-grows
returns-in_err-extend_from_slice-clause-grows c =
    rw c.self.view_is at (blocks-beyond _ _ _ c.self.invariant [] _ (c.in_err-extend_from_slice.ensures.items ∙ sym (append-nil _)) tt)

pub returns-in_err-from-clause-grows : goal.returns-in_err-from-clause-grows
returns-in_err-from-clause-grows c = grows-same c.args.self.now

pub returns-in_err-to-clause-grows : goal.returns-in_err-to-clause-grows
returns-in_err-to-clause-grows c = grows-same c.args.self.now

pub invariant_of-self-2 : goal.invariant_of-self-2
invariant_of-self-2 c = blocks-held _ _ _ c.self.invariant c.args.blocks.now _ c.in_ok-extend_from_slice.ensures.items (rw c.self.view_is c.requires)

pub returns-clause-item : goal.returns-clause-item
returns-clause-item c =
    blocks-last _ _ _ c.self.invariant c.args.blocks.now _ c.in_ok-extend_from_slice.ensures.items (rw c.self.view_is c.requires) c.in_ok-from.from c.in_ok-to.to (omega (arith, c.in_ok-from.ensures.place)) (omega (arith, c.in_ok-to.ensures.place, c.len-len.ensures, c.in_ok-extend_from_slice.ensures.len))
    ∙ ap (λ (r : Raw). blocks_in r c.args.blocks.now) c.self.view_is

pub returns-clause-placed : goal.returns-clause-placed
returns-clause-placed c =
    let held = blocks-held _ _ _ c.self.invariant c.args.blocks.now _ c.in_ok-extend_from_slice.ensures.items (rw c.self.view_is c.requires) in
    (omega (arith, c.in_ok-from.ensures.place, c.in_ok-to.ensures.place), omega (arith, c.in_ok-to.ensures.place, c.len-len.ensures, c.in_ok-extend_from_slice.ensures.len, made-length _ _ _ held))

pub returns-clause-grows : goal.returns-clause-grows
returns-clause-grows c = rw c.self.view_is at (blocks-beyond _ _ _ c.self.invariant c.args.blocks.now _ c.in_ok-extend_from_slice.ensures.items (rw c.self.view_is c.requires))
