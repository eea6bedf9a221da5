use Rattle.std.proofs.Common.{◌||◌, ap, sym, ◌∙◌}
use Rattle.std.specs.List.{list_any}
use Rattle.cm_source.specs.Refusals.{has_two, is_as_said}
use Rattle.cm_source.proofs.lemmas.refusals.BlockRefusals.{seen_items, few-items}
use Rattle.cm_source.proofs.refusals.is_as_said.Goals as goal

pub returns-then-tight : goal.returns-then-tight
returns-then-tight c = λ rules. c.are_tight.ensures rules ∙ sym (ap (λ t. is_as_said t (seen_items rules c.args.items.now)) c.if-tight.true)

pub returns-else-items-gt1 : goal.returns-else-items-gt1
returns-else-items-gt1 c = λ rules.
    let items = seen_items rules c.args.items.now in
    c.any_has_two.ensures rules ∙ ap (λ v. v || list_any has_two items) (sym (few-items rules c.args.items.now c.if-items-gt1.false)) ∙ sym (ap (λ t. is_as_said t items) c.if-tight.false)
