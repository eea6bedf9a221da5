use Rattle.std.proofs.Common.{◌≡◌, [], None, inl, inr, arith, sym, ap, ◌∙◌}
use Rattle.std.proofs.lemmas.Grind.{common_steps}
use Rattle.std.proofs.lemmas.Result.{on_ok_weaker}
use Rattle.cm_scan.specs.blocks.Blocks.{content_leaf}
use Rattle.cm_block.specs.Stack.{close_leaves, own_leaves}
use Rattle.cm_block.specs.steps.LeafSteps.{underline_level}
use Rattle.cm_block.proofs.lemmas.PutLemmas.{none_closes, none_owns, content_closes, heading_closes, content_owns, heading_owns}
use Rattle.cm_block.proofs.closed_leaf.put_content.Goals.{In-Plain}
use Rattle.cm_block.proofs.closed_leaf.put_content.Goals as goal

pub returns-then-is_empty-clause-level : goal.returns-then-is_empty-clause-level
returns-then-is_empty-clause-level c =
    let level = c.args.stack.now.level in
    let none : c.args.source.now ≡ [] = grind (arith, common_steps) in
    none_closes level ∙ ap (λ t. close_leaves level (content_leaf (underline_level c.args.ending) t)) (sym none)

pub returns-then-is_empty-clause-owners : goal.returns-then-is_empty-clause-owners
returns-then-is_empty-clause-owners c =
    let none : c.args.source.now ≡ [] = grind (arith, common_steps) in
    none_owns c.args.owners.now ∙ ap (λ t. own_leaves c.args.owners.now (content_leaf (underline_level c.args.ending) t)) (sym none)

pub returns-in_ok-leaf-in-Underline-clause-level : goal.returns-in_ok-leaf-in-Underline-clause-level
returns-in_ok-leaf-in-Underline-clause-level c =
    let level = c.args.stack.now.level in
    let some : c.args.source.now ≡ [] → ⊥ = λ e. grind (arith, common_steps, e) in
    on_ok_weaker c.put.result (λ closed.
    closed
    ∙ heading_closes level c.in-Underline.level c.args.source.now some
    ∙ ap (λ e. close_leaves level (content_leaf (underline_level e) c.args.source.now)) (sym c.in-Underline.is)) c.put.ensures.level

pub returns-in_ok-leaf-in-Underline-clause-owners : goal.returns-in_ok-leaf-in-Underline-clause-owners
returns-in_ok-leaf-in-Underline-clause-owners c =
    let owned = c.args.owners.now in
    let some : c.args.source.now ≡ [] → ⊥ = λ e. grind (arith, common_steps, e) in
    on_ok_weaker c.put.result (λ closed.
    c.in_ok-leaf-in-Underline.ensures.owned
    ∙ heading_owns owned c.in-Underline.level c.args.source.now _ some (omega (arith, c.requires.feeds))
    ∙ ap (λ e. own_leaves owned (content_leaf (underline_level e) c.args.source.now)) (sym c.in-Underline.is)) c.put.ensures.level

-- nothing underlines it
none : (c : In-Plain) → None ≡ underline_level c.args.ending
none c = elim c.in-Plain.is [
  | inl plain ↦ ap underline_level (sym plain)
  | inr fence ↦ ap underline_level (sym fence)
]

pub returns-in_ok-leaf-in-Plain-clause-level : goal.returns-in_ok-leaf-in-Plain-clause-level
returns-in_ok-leaf-in-Plain-clause-level c =
    let level = c.args.stack.now.level in
    let some : c.args.source.now ≡ [] → ⊥ = λ e. grind (arith, common_steps, e) in
    on_ok_weaker c.put-in-Plain.result (λ closed.
    closed
    ∙ content_closes level c.args.source.now some
    ∙ ap (λ h. close_leaves level (content_leaf h c.args.source.now)) (none (goal.at.returns-in_ok-leaf-in-Plain-clause-level c).In-Plain)) c.put-in-Plain.ensures.level

pub returns-in_ok-leaf-in-Plain-clause-owners : goal.returns-in_ok-leaf-in-Plain-clause-owners
returns-in_ok-leaf-in-Plain-clause-owners c =
    let owned = c.args.owners.now in
    let some : c.args.source.now ≡ [] → ⊥ = λ e. grind (arith, common_steps, e) in
    on_ok_weaker c.put-in-Plain.result (λ closed.
    c.in_ok-leaf-in-Plain.ensures.owned
    ∙ content_owns owned c.args.source.now _ some (omega (arith, c.requires.feeds))
    ∙ ap (λ h. own_leaves owned (content_leaf h c.args.source.now)) (none (goal.at.returns-in_ok-leaf-in-Plain-clause-owners c).In-Plain)) c.put-in-Plain.ensures.level
