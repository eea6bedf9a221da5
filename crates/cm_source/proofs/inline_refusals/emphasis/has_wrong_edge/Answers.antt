use Rattle.std.proofs.Common.{◌||◌, map, refl, ap, sym, ◌∙◌}
use Rattle.cm_source.specs.InlineRefusals.{first_of, last_of, last_face, judged}
use Rattle.cm_source.specs.steps.InlineFaces.{seen}
use Rattle.cm_source.proofs.lemmas.refusals.RefusalLemmas.{is_wrong, some-face, edges}
use Rattle.cm_source.proofs.inline_refusals.emphasis.has_wrong_edge.Goals as goal

pub returns-then-is_wrong_edge : goal.returns-then-is_wrong_edge
returns-then-is_wrong_edge c =
    let rules = c.args.rules in
    let inside = c.first_of-first.ensures ∙ ap first_of (c.first_face.ensures rules) in
    let one = c.is_wrong_edge.ensures ∙ ap (λ o. is_wrong rules o c.first_of-first.result) c.last_of.ensures ∙ ap (is_wrong rules (last_of (seen c.args.before))) inside in
    let content = map (judged rules) c.args.content.now in
    let other = is_wrong rules (first_of (seen c.args.after)) (last_of (last_face content)) in
    let holds = c.if-is_wrong_edge.true in
    holds ∙ sym (ap (λ v. v || other) holds)
    ∙ edges rules (seen c.args.before) content (seen c.args.after) c.is_wrong_edge.result other (some-face rules c.args.content.now (sym c.is_empty.ensures ∙ c.if-is_empty.false)) one refl

pub returns-else-is_wrong_edge : goal.returns-else-is_wrong_edge
returns-else-is_wrong_edge c =
    let rules = c.args.rules in
    let inside = c.first_of-first.ensures ∙ ap first_of (c.first_face.ensures rules) in
    let one = c.is_wrong_edge.ensures ∙ ap (λ o. is_wrong rules o c.first_of-first.result) c.last_of.ensures ∙ ap (is_wrong rules (last_of (seen c.args.before))) inside in
    let content = map (judged rules) c.args.content.now in
    let beyond = c.last_of-last.ensures ∙ ap last_of (c.last_face.ensures rules) in
    let other = c.is_wrong_edge-else-is_wrong_edge.ensures ∙ ap (λ o. is_wrong rules o c.last_of-last.result) c.first_of.ensures ∙ ap (is_wrong rules (first_of (seen c.args.after))) beyond in
    sym (ap (λ v. v || c.is_wrong_edge-else-is_wrong_edge.result) c.if-is_wrong_edge.false)
    ∙ edges rules (seen c.args.before) content (seen c.args.after) c.is_wrong_edge.result c.is_wrong_edge-else-is_wrong_edge.result (some-face rules c.args.content.now (sym c.is_empty.ensures ∙ c.if-is_empty.false)) one other
