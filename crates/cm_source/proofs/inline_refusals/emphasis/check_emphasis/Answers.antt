use Rattle.std.proofs.Common.{[], ◌∷◌, map, ◌∙◌}
use Rattle.cm_source.specs.declared.why.Why.TheVariants.{EmphasisNested, EmphasisTouching, EmphasisEdge}
use Rattle.cm_source.specs.InlineRefusals.{is_emphasis, hold_emphasis, has_wrong_edge, judged}
use Rattle.cm_source.specs.steps.InlineFaces.{seen}
use Rattle.cm_source.proofs.lemmas.refusals.RefusalLemmas.{told-error, this-reason, next-reason, last-reason}
use Rattle.cm_source.proofs.inline_refusals.emphasis.check_emphasis.Goals as goal

pub returns-in_err-refuse_if : goal.returns-in_err-refuse_if
returns-in_err-refuse_if c =
    let rules = c.args.rules in
    let content = map (judged rules) c.args.content.now in
    let edge = has_wrong_edge rules (seen c.args.before) content (seen c.args.after) in
    told-error c.from_residual.result c.in_err-refuse_if.field-0.0 c.from_residual.ensures.1
    ∙ this-reason _ (hold_emphasis content) EmphasisNested ((is_emphasis (seen c.args.before), EmphasisTouching) ∷ (edge, EmphasisEdge) ∷ []) _ c.in_err-refuse_if.ensures (c.hold_emphasis.ensures rules)

pub returns-in_err-refuse_if-2 : goal.returns-in_err-refuse_if-2
returns-in_err-refuse_if-2 c =
    let rules = c.args.rules in
    let content = map (judged rules) c.args.content.now in
    let touches = is_emphasis (seen c.args.before) in
    let others = (has_wrong_edge rules (seen c.args.before) content (seen c.args.after), EmphasisEdge) ∷ [] in
    told-error c.from_residual-in_err-refuse_if-2.result c.in_err-refuse_if-2.field-0.0 c.from_residual-in_err-refuse_if-2.ensures.1
    ∙ next-reason _ (hold_emphasis content) EmphasisNested ((touches, EmphasisTouching) ∷ others) _ c.in_ok-refuse_if.ensures (c.hold_emphasis.ensures rules)
    (this-reason _ touches EmphasisTouching others _ c.in_err-refuse_if-2.ensures c.is_emphasis.ensures)

pub returns : goal.returns
returns c =
    let rules = c.args.rules in
    let content = map (judged rules) c.args.content.now in
    let touches = is_emphasis (seen c.args.before) in
    let edge = has_wrong_edge rules (seen c.args.before) content (seen c.args.after) in
    let others = (edge, EmphasisEdge) ∷ [] in
    next-reason _ (hold_emphasis content) EmphasisNested ((touches, EmphasisTouching) ∷ others) _ c.in_ok-refuse_if.ensures (c.hold_emphasis.ensures rules)
    (next-reason _ touches EmphasisTouching others _ c.in_ok-refuse_if-2.ensures c.is_emphasis.ensures
    (last-reason _ edge EmphasisEdge _ c.refuse_if-3.ensures c.has_wrong_edge.ensures))
