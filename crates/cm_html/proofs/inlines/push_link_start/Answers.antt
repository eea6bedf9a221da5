use Rattle.std.proofs.Common.{◌++◌, ◌∷◌, [], ap, arith, append_assoc}
use Rattle.std.proofs.lemmas.Grind.{common_steps}
use Rattle.cm_html.proofs.inlines.push_link_start.Goals as goal

pub returns : goal.returns
returns c =
    let titled = c.push_title_after.new.out in
    grind (arith, common_steps, append_assoc titled (34 ∷ []) (62 ∷ []), ap (λ t. t ++ 62 ∷ []) c.in_ok-push_title_after.ensures)
