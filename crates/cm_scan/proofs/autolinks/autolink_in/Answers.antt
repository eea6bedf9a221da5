use Rattle.std.proofs.Common.{◌∙◌, Option, option_map, sym, ap}
use Rattle.cm_scan.specs.declared.autolinks.AutolinkRead.{AutolinkRead}
use Rattle.cm_scan.specs.Scanned.{autolink_with}
use Rattle.cm_scan.proofs.lemmas.spans.AutolinkParts.{link-outside, link-inside}
use Rattle.cm_scan.proofs.lemmas.spans.FollowedAutolinks.{none-followed, link-followed, link-not-followed}
use Rattle.cm_scan.proofs.autolinks.autolink_in.Goals as goal

pub returns-in_err-inside-clause-read : goal.returns-in_err-inside-clause-read
returns-in_err-inside-clause-read g c =
    ap (λ (o : Option AutolinkRead). option_map (λ link. autolink_with link.is_address link.text link.rest) o) c.from_residual.ensures
    ∙ none-followed c.args.rules c.args.text.now (sym (link-outside c.args.text.now c.in_err-inside.ensures.read))

pub returns-in_err-is_address-clause-read : goal.returns-in_err-is_address-clause-read
returns-in_err-is_address-clause-read g c =
    let rest = c.in_ok-inside.rest in
    let none = c.in_err-is_address.ensures.read rest ∙ link-inside c.args.text.now (record { text = c.in_ok-inside.inside; rest = rest }) c.in_ok-inside.ensures.read in
    ap (λ (o : Option AutolinkRead). option_map (λ link. autolink_with link.is_address link.text link.rest) o) c.from_residual-in_err-is_address.ensures
    ∙ none-followed c.args.rules c.args.text.now (sym none)

pub returns-then-not-leads_on-clause-read : goal.returns-then-not-leads_on-clause-read
returns-then-not-leads_on-clause-read g c =
    let rest = c.in_ok-inside.rest in
    let found = c.in_ok-is_address.ensures.read rest ∙ link-inside c.args.text.now (record { text = c.in_ok-inside.inside; rest = rest }) c.in_ok-inside.ensures.read in
    link-not-followed c.args.rules c.args.text.now (autolink_with c.in_ok-is_address.is_address c.in_ok-inside.inside rest) (sym found) (sym (c.leads_on.ensures.followed rest) ∙ c.if-not-leads_on.true)

pub returns-clause-read : goal.returns-clause-read
returns-clause-read g c =
    let rest = c.in_ok-inside.rest in
    let found = c.in_ok-is_address.ensures.read rest ∙ link-inside c.args.text.now (record { text = c.in_ok-inside.inside; rest = rest }) c.in_ok-inside.ensures.read in
    link-followed c.args.rules c.args.text.now (autolink_with c.in_ok-is_address.is_address c.in_ok-inside.inside rest) (sym found) (sym (c.leads_on.ensures.followed rest) ∙ c.if-not-leads_on.false)
