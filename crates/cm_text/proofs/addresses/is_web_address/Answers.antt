use Rattle.std.proofs.Common.{◌∷◌, ◌-◌, true, not, take, sym, ap, ap₂, ◌∙◌}
use Rattle.std.specs.Option.{option_map_or}
use Rattle.cm_text.specs.Addresses.{is_web_scheme}
use Rattle.cm_text.proofs.lemmas.AddressLemmas.{ends_scheme, scheme-found, scheme-other, scheme-none}
use Rattle.cm_text.proofs.addresses.is_web_address.Goals as goal

pub returns-in_default-clause-web : goal.returns-in_default-clause-web
returns-in_default-clause-web g c =
    let left = c.skip-rest.ensures.skipped (λ b. not (ends_scheme b)) (λ b told small e. e) in
    sym (ap (λ scheme. option_map_or is_web_scheme scheme true) (scheme-none c.args.address.now c.skip-rest.result left c.in_default.ensures.read))

pub returns-then-b-ne58-clause-web : goal.returns-then-b-ne58-clause-web
returns-then-b-ne58-clause-web g c =
    let left = c.skip-rest.ensures.skipped (λ b. not (ends_scheme b)) (λ b told small e. e) in
    sym (ap (λ scheme. option_map_or is_web_scheme scheme true) (scheme-other c.args.address.now c.skip-rest.result left c.in-Some.b c.in-Some.field-0-1 c.in-Some.ensures.read c.if-b-ne58.true))

pub returns-clause-web : goal.returns-clause-web
returns-clause-web g c =
    let address = c.args.address.now in
    let left = c.skip-rest.ensures.skipped (λ b. not (ends_scheme b)) (λ b told small e. e) in
    let colon = c.in-Some.ensures.read ∙ ap (λ b. b ∷ c.in-Some.field-0-1) c.if-b-ne58.false in
    let front = c.front.ensures ∙ ap (λ n. take n address) (ap₂ (λ m n. m - n) c.len.ensures c.len-2.ensures) in
    c.is_web_scheme.ensures.web ∙ ap is_web_scheme front
    ∙ sym (ap (λ scheme. option_map_or is_web_scheme scheme true) (scheme-found address c.skip-rest.result left c.in-Some.field-0-1 colon))
