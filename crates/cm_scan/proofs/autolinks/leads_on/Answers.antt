use Rattle.std.proofs.Common.{Bool, ◌++◌, codes, sym, ap, ◌∙◌}
use Rattle.std.specs.Prelude.{if◌then◌else◌}
use Rattle.cm_text.specs.Addresses.{is_followed}
use Rattle.cm_scan.proofs.lemmas.spans.FollowedAutolinks.{mail-followed}
use Rattle.cm_scan.proofs.autolinks.leads_on.Goals as goal

pub returns-then-is_address-clause-followed : goal.returns-then-is_address-clause-followed
returns-then-is_address-clause-followed g c = λ rest.
    let text = c.args.text.now in
    c.if-is_address.true ∙ sym (ap (λ (t : Bool). is_followed c.args.rules (if t then codes "mailto:" ++ text else text)) c.if-is_address.true ∙ mail-followed c.args.rules text)

pub returns-else-is_address-clause-followed : goal.returns-else-is_address-clause-followed
returns-else-is_address-clause-followed g c = λ rest.
    let text = c.args.text.now in
    c.follows.ensures.followed ∙ sym (ap (λ (t : Bool). is_followed c.args.rules (if t then codes "mailto:" ++ text else text)) c.if-is_address.false)
