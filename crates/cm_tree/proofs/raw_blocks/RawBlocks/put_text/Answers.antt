use Rattle.std.proofs.Common.{[], refl, ap, sym, length, ◌∙◌}
use Rattle.std.proofs.lemmas.List.{append-nil}
use Rattle.std.proofs.lemmas.Str.{IsUtf8-nil}
use Rattle.cm_tree.specs.RawBlocks.{Raw}
use Rattle.cm_tree.specs.steps.RawSteps.{items_of}
use Rattle.cm_tree.proofs.lemmas.RawLemmas.{between-beyond, text-same, text-beyond, text-held}
use Rattle.cm_tree.proofs.raw_blocks.RawBlocks.put_text.Goals as goal

pub returns-in_err-push_str-clause-grows : goal.returns-in_err-push_str-clause-grows
returns-in_err-push_str-clause-grows c =
    rw c.self.view_is at (text-beyond _ _ _ c.self.invariant [] _ IsUtf8-nil (c.in_err-push_str.ensures.bytes ∙ sym (append-nil _)))

pub invariant_of-self-2 : goal.invariant_of-self-2
invariant_of-self-2 c = text-held _ _ _ c.self.invariant c.args.text.now _ c.utf8.text c.in_ok-push_str.ensures.bytes

pub returns-clause-blocks : goal.returns-clause-blocks
returns-clause-blocks c = text-same _ _ _ c.self.invariant c.args.text.now _ c.utf8.text c.in_ok-push_str.ensures.bytes ∙ ap (λ (r : Raw). r.blocks) c.self.view_is

pub returns-clause-items : goal.returns-clause-items
returns-clause-items c =
    ap (λ made. items_of made c.self.inside.items.items) (text-same _ _ _ c.self.invariant c.args.text.now _ c.utf8.text c.in_ok-push_str.ensures.bytes)
    ∙ ap (λ (r : Raw). r.items) c.self.view_is

pub returns-clause-grows : goal.returns-clause-grows
returns-clause-grows c = rw c.self.view_is at (text-beyond _ _ _ c.self.invariant c.args.text.now _ c.utf8.text c.in_ok-push_str.ensures.bytes)

pub returns-clause-between : goal.returns-clause-between
returns-clause-between c =
    between-beyond _ c.args.text.now _ _ _ c.in_ok-push_str.ensures.bytes c.utf8.text (sym (ap (λ (r : Raw). length r.text) c.self.view_is)) refl
