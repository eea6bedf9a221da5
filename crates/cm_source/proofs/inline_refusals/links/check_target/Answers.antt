use Rattle.std.proofs.Common.{[], ◌∷◌, ◌||◌, not, map, ap, ◌∙◌}
use Rattle.cm_text.specs.Addresses.{is_followed}
use Rattle.cm_source.specs.declared.why.Why.TheVariants.{Nul, LinkInLink, AddressOff}
use Rattle.cm_source.specs.InlineRefusals.{has_nul, hold_link, judged}
use Rattle.cm_source.proofs.lemmas.refusals.RefusalLemmas.{told-error, this-reason, next-reason, last-reason}
use Rattle.cm_source.proofs.inline_refusals.links.check_target.Goals as goal

pub returns-in_err-refuse_if : goal.returns-in_err-refuse_if
returns-in_err-refuse_if c =
    let content = map (judged c.args.rules) c.args.content.now in
    let off = (not (is_followed c.args.rules c.args.dest.now), AddressOff) ∷ [] in
    told-error c.from_residual.result c.in_err-refuse_if.field-0.0 c.from_residual.ensures.1
    ∙ this-reason _ (has_nul c.args.dest.now || has_nul c.args.title.now) Nul ((hold_link content, LinkInLink) ∷ off) _ c.in_err-refuse_if.ensures c.has_nul_in.ensures

pub returns-in_err-refuse_if-2 : goal.returns-in_err-refuse_if-2
returns-in_err-refuse_if-2 c =
    let content = map (judged c.args.rules) c.args.content.now in
    let off = (not (is_followed c.args.rules c.args.dest.now), AddressOff) ∷ [] in
    next-reason _ (has_nul c.args.dest.now || has_nul c.args.title.now) Nul ((hold_link content, LinkInLink) ∷ off) _ c.in_ok-refuse_if.ensures c.has_nul_in.ensures
    (told-error c.from_residual-in_err-refuse_if-2.result c.in_err-refuse_if-2.field-0.0 c.from_residual-in_err-refuse_if-2.ensures.1
    ∙ this-reason _ (hold_link content) LinkInLink off _ c.in_err-refuse_if-2.ensures (c.hold_link.ensures c.args.rules))

pub returns : goal.returns
returns c =
    let content = map (judged c.args.rules) c.args.content.now in
    let off = (not (is_followed c.args.rules c.args.dest.now), AddressOff) ∷ [] in
    next-reason _ (has_nul c.args.dest.now || has_nul c.args.title.now) Nul ((hold_link content, LinkInLink) ∷ off) _ c.in_ok-refuse_if.ensures c.has_nul_in.ensures
    (next-reason _ (hold_link content) LinkInLink off _ c.in_ok-refuse_if-2.ensures (c.hold_link.ensures c.args.rules)
    (last-reason _ (not (is_followed c.args.rules c.args.dest.now)) AddressOff _ c.refuse_if-3.ensures (ap not c.is_followed.ensures.followed)))
