use Rattle.std.proofs.Common.{refl, sym, ap, ◌∙◌}
use Rattle.std.specs.Option.{is_some, option_map}
use Rattle.cm_block.specs.Stack.{close_leaves, own_leaves}
use Rattle.cm_block.specs.steps.LeafBlocks.{block_of}
use Rattle.cm_block.specs.steps.FirstLines.{of_one_line}
use Rattle.cm_block.specs.steps.StartViews.{seen}
use Rattle.cm_block.proofs.lemmas.LeafLemmas.{none_whole, some_whole, whole_closes, whole_owns}
use Rattle.cm_block.proofs.lemmas.PutLemmas.{none_closes, none_owns}
use Rattle.cm_block.proofs.counted_line.first_line.put_whole.Goals as goal

pub returns-in_default : goal.returns-in_default
returns-in_default c =
    let level = c.args.stack.now.level in
    let owned = c.args.owners.now in
    let none = none_whole (seen c.args.start.now) (ap (option_map block_of) (sym c.in_default.is) ∙ c.whole_leaf.ensures) in
    record {
      put = sym (ap is_some none);
      level = none_closes level ∙ ap (λ x. close_leaves level (of_one_line x)) (sym none);
      frames = refl;
      bare = refl;
      owners = none_owns owned ∙ ap (λ x. own_leaves owned (of_one_line x)) (sym none);
      kept = λ e. refl;
      unowned = λ e. refl;
      counted = c.requires.counted;
    }

pub returns-clause-put : goal.returns-clause-put
returns-clause-put c = some_whole (seen c.args.start.now) (block_of c.in-Some.leaf) (ap (option_map block_of) (sym c.in-Some.is) ∙ c.whole_leaf.ensures)

pub returns-clause-level : goal.returns-clause-level
returns-clause-level c =
    let is = ap (option_map block_of) (sym c.in-Some.is) ∙ c.whole_leaf.ensures in
    c.in_ok-put.ensures.level ∙ whole_closes (seen c.args.start.now) (block_of c.in-Some.leaf) is c.args.stack.now.level

pub returns-clause-owners : goal.returns-clause-owners
returns-clause-owners c =
    let is = ap (option_map block_of) (sym c.in-Some.is) ∙ c.whole_leaf.ensures in
    c.in_ok-leaf.ensures.owned ∙ whole_owns (seen c.args.start.now) (block_of c.in-Some.leaf) is c.args.owners.now
