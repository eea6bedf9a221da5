use Rattle.std.proofs.Common.{◌≡◌, ◌∙◌, true, false, drop, sym, arith}
use Rattle.std.specs.Prelude.{◌==◌}
use Rattle.std.specs.List.{list_any}
use Rattle.std.proofs.lemmas.Grind.{common_steps}
use Rattle.cm_scan.proofs.lemmas.blocks.LineFormLemmas.{opening_tildes, opening_backticks}
use Rattle.cm_scan.proofs.line_forms.fence.Goals as goal

pub returns-in_err-tildes-clause-fence : goal.returns-in_err-tildes-clause-fence
returns-in_err-tildes-clause-fence c =
    let text = drop c.args.at c.args.text.now in
    grind (arith, common_steps, opening_tildes text c.in_default.ensures.fence, c.in_err-tildes.ensures.fence)

pub returns-in_default-clause-fence : goal.returns-in_default-clause-fence
returns-in_default-clause-fence c =
    let text = drop c.args.at c.args.text.now in
    opening_tildes text c.in_default.ensures.fence ∙ c.in_ok-tildes.ensures.fence

pub returns-then-has_backtick-clause-fence : goal.returns-then-has_backtick-clause-fence
returns-then-has_backtick-clause-fence c =
    let text = drop c.args.at c.args.text.now in
    let has : list_any (λ b. b == 96) c.in-Some.backticks.info.now ≡ true = sym c.has_backtick.ensures.held ∙ c.if-has_backtick.true in
    opening_backticks text _ c.in-Some.ensures.fence ∙ grind (arith, has)

pub returns-clause-fence : goal.returns-clause-fence
returns-clause-fence c =
    let text = drop c.args.at c.args.text.now in
    let has_not : list_any (λ b. b == 96) c.in-Some.backticks.info.now ≡ false = sym c.has_backtick.ensures.held ∙ c.if-has_backtick.false in
    opening_backticks text _ c.in-Some.ensures.fence ∙ grind (arith, has_not)
