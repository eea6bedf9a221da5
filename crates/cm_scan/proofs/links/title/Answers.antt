use Rattle.std.proofs.Common.{◌≡◌, ◌∙◌, ◌≤◌, ap, length, get_or, arith, le_refl}
use Rattle.std.proofs.lemmas.Bool.Decides.{nat_tests}
use Rattle.cm_scan.specs.Scanned.{reading_of}
use Rattle.cm_scan.proofs.lemmas.links.TitlesAndDestinations.{title-some, title-none, title-past}
use Rattle.cm_scan.proofs.links.title.Goals.{In_ok-open}
use Rattle.cm_scan.proofs.links.title.Goals as goal

-- the byte there
opener : (c : In_ok-open) → c.in_ok-open.field-0.now ≡ get_or c.args.text.now c.args.at 0
opener c =
    c.in_ok-open.ensures.lookup.4 (le_refl _) 0 ∙ ap (λ t. get_or t c.args.at 0) c.as_bytes.ensures.value

pub returns-in_err-open-clause-read : goal.returns-in_err-open-clause-read
returns-in_err-open-clause-read c =
    let past : length c.args.text.now ≤ c.args.at = grind (arith, nat_tests, c.in_err-open.ensures.lookup.0, c.as_bytes.ensures.len) in
    ap (reading_of c.args.text.now) c.from_residual.ensures ∙ title-past c.args.text.now c.args.at past

pub returns-in_err-end_of_title-clause-read : goal.returns-in_err-end_of_title-clause-read
returns-in_err-end_of_title-clause-read c =
    ap (reading_of c.args.text.now) c.from_residual-in_err-end_of_title.ensures
    ∙ title-none c.args.text.now c.args.at c.in_ok-open.field-0.now (grind (arith, nat_tests, c.in_ok-open.ensures.lookup.0, c.as_bytes.ensures.len))
    (opener (goal.at.returns-in_err-end_of_title-clause-read c).In_ok-open) c.in_err-end_of_title.ensures

pub returns-clause-read : goal.returns-clause-read
returns-clause-read c =
    title-some c.args.text.now c.args.at c.in_ok-open.field-0.now c.in_ok-end_of_title.field-0 (reading_of c.args.text.now c.enclosed.result)
    (grind (arith, nat_tests, c.in_ok-open.ensures.lookup.0, c.as_bytes.ensures.len)) (opener (goal.at.returns-clause-read c).In_ok-open) c.in_ok-end_of_title.ensures c.enclosed.ensures.read
