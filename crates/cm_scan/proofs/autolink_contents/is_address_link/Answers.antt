use Rattle.std.proofs.Common.{◌∙◌, sym}
use Rattle.cm_scan.proofs.lemmas.spans.AutolinkParts.{link-uri, link-none, link-address}
use Rattle.cm_scan.proofs.autolink_contents.is_address_link.Goals as goal

pub returns-then-is_absolute-clause-read : goal.returns-then-is_absolute-clause-read
returns-then-is_absolute-clause-read g c = λ rest. link-uri c.args.inside.now rest (sym c.is_absolute.ensures.absolute ∙ c.if-is_absolute.true)

pub returns-then-not-is_address-clause-read : goal.returns-then-not-is_address-clause-read
returns-then-not-is_address-clause-read g c = λ rest.
    link-none c.args.inside.now rest (sym c.is_absolute.ensures.absolute ∙ c.if-is_absolute.false) (sym c.is_address.ensures.address ∙ c.if-not-is_address.true)

pub returns-clause-read : goal.returns-clause-read
returns-clause-read g c = λ rest.
    link-address c.args.inside.now rest (sym c.is_absolute.ensures.absolute ∙ c.if-is_absolute.false) (sym c.is_address.ensures.address ∙ c.if-not-is_address.false)
