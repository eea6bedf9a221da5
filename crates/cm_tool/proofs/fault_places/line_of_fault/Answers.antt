use Rattle.std.proofs.Common.{◌∙◌, [], rules}
use Rattle.std.proofs.lemmas.Result.{IfOk-weaker}
use Rattle.cm_tool.specs.Faults.{fault_of, settled_fault_of}
use Rattle.cm_tool.proofs.lemmas.ParserLemmas.{nothing_settled}
use Rattle.cm_tool.proofs.lemmas.PlaceLemmas.{found_before, found_in_outline}
use Rattle.cm_tool.proofs.lemmas.ReadLemmas.{end_told}
use Rattle.cm_tool.proofs.fault_places.line_of_fault.Goals as goal

pub returns-in-Err : goal.returns-in-Err
returns-in-Err g c =
    let limits = c.args.task.now.limits in
    let taken = c.in-Err.ensures in
    let begun = nothing_settled limits _ _ [] c.new.ensures.goes in
    let found = c.line_before_outline.ensures in (
      taken.0,
      taken.1,
      found_before limits taken.0 _ _ c.args.task.now.job (search rules) _ c.deref.result.now c.in-Err.fault c.line_before_outline.result
          (taken.2 limits (c.new.ensures, c.new-2.ensures.items) begun (fault_of limits taken.0)) (λ there. c.deref.ensures.value ∙ taken.3 limits (c.new.ensures, c.new-2.ensures.items) begun there)
          (IfOk-weaker c.line_before_outline.result _ _ (λ line is. is limits.rules) found.line) found.known found.memory,
    )

pub returns-in-Ok : goal.returns-in-Ok
returns-in-Ok g c =
    let limits = c.args.task.now.limits in
    let taken = c.in_default.ensures in
    let begun = nothing_settled limits _ _ [] c.new.ensures.goes in
    let whole = taken.2 limits (c.new.ensures, c.new-2.ensures.items) begun in
    let is = c.in-Ok.ensures.outline limits taken.0 whole.2.0 in (
      taken.0,
      taken.1,
      found_in_outline limits taken.0 _ _ c.args.task.now.job (search rules) _ c.in-Ok.outline c.line_in_outline.result whole.0 whole.1 is
          (c.line_in_outline.ensures taken.0 is),
    )

pub returns : goal.returns
returns g c =
    let limits = c.args.task.now.limits in
    let taken = c.in_default.ensures in
    let begun = nothing_settled limits _ _ [] c.new.ensures.goes in
    let whole = taken.2 limits (c.new.ensures, c.new-2.ensures.items) begun in
    let fault = c.in-Err-outline.fault in
    let answer = (c.line_before_outline-in-Err-outline).result in
    let found = (c.line_before_outline-in-Err-outline).ensures in (
      taken.0,
      taken.1,
      found_before limits taken.0 _ _ c.args.task.now.job (search rules) _ (c.deref-in-Err-outline).result.now fault answer
          (end_told (settled_fault_of limits taken.0) (fault_of limits taken.0) fault _ _ whole.0 whole.1 whole.3 (c.in-Err-outline.ensures.told limits taken.0 whole.2.0))
          (λ there. (c.deref-in-Err-outline).ensures.value ∙ whole.2.1) (IfOk-weaker answer _ _ (λ line is. is limits.rules) found.line) found.known found.memory,
    )
