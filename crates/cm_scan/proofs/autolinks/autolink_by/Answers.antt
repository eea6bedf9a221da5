use Rattle.std.proofs.Common.{◌≡◌, ◌+◌, ◌-◌, ◌∷◌, ◌++◌, ◌∙◌, ℕ, Option, option_map, Some, length, drop, ap, arith}
use Rattle.cm_scan.specs.declared.autolink_contents.Autolink.{Autolink}
use Rattle.cm_scan.specs.spans.Autolinks.{followed_autolink}
use Rattle.cm_scan.specs.Scanned.{autolink_with}
use Rattle.cm_scan.proofs.lemmas.spans.RawHtmlByFirstBytes.{cut-boundary}
use Rattle.cm_scan.proofs.lemmas.spans.AutolinkPlaces.{linked, is-linked, link-cut, link-size, link-text, link-start, link-end}
use Rattle.cm_scan.proofs.autolinks.autolink_by.Goals.{In_ok-link}
use Rattle.cm_scan.proofs.autolinks.autolink_by.Goals as goal

pub returns-in_err-link-clause-read : goal.returns-in_err-link-clause-read
returns-in_err-link-clause-read c =
    ap (λ (o : Option (Autolink × ℕ)). option_map (λ r. autolink_with r.0.is_address r.0.text.now (drop r.1 c.args.text.now)) o) c.from_residual.ensures
    ∙ c.in_err-link.ensures.read ∙ ap (followed_autolink c.args.rules) c.bytes_from.ensures.rest

-- the autolink that was read
found : (c : In_ok-link) → Some (autolink_with c.in_ok-link.link.is_address c.in_ok-link.link.text.now c.in_ok-link.link.rest.now) ≡ followed_autolink c.args.rules (drop c.args.at c.args.text.now)
found c = c.in_ok-link.ensures.read ∙ ap (followed_autolink c.args.rules) c.bytes_from.ensures.rest

-- its bytes
there : (c : In_ok-link) → drop c.args.at c.args.text.now ≡ 60 ∷ (c.in_ok-link.link.text.now ++ 62 ∷ c.in_ok-link.link.rest.now)
there c =
    let text = drop c.args.at c.args.text.now in
    let link = autolink_with c.in_ok-link.link.is_address c.in_ok-link.link.text.now c.in_ok-link.link.rest.now in
    linked text link (is-linked c.args.rules text link (found c))

pub overflow_sub-end : goal.overflow_sub-end
overflow_sub-end c = omega (arith, link-size c.args.text.now c.in_ok-link.link.text.now c.in_ok-link.link.rest.now c.args.at c.requires.0 (there (goal.at.overflow_sub-end c).In_ok-link))

pub overflow_sub-end-2 : goal.overflow_sub-end-2
overflow_sub-end-2 c = omega (arith, link-size c.args.text.now c.in_ok-link.link.text.now c.in_ok-link.link.rest.now c.args.at c.requires.0 (there (goal.at.overflow_sub-end-2 c).In_ok-link))

pub range-text-requires-clause-start_le_end : goal.range-text-requires-clause-start_le_end
range-text-requires-clause-start_le_end c = omega (arith, link-size c.args.text.now c.in_ok-link.link.text.now c.in_ok-link.link.rest.now c.args.at c.requires.0 (there (goal.at.range-text-requires-clause-start_le_end c).In_ok-link))

pub range-text-requires-clause-start_boundary : goal.range-text-requires-clause-start_boundary
range-text-requires-clause-start_boundary c = λ _. link-start c.args.text.now c.in_ok-link.link.text.now c.in_ok-link.link.rest.now c.args.at c.requires.0 (there (goal.at.range-text-requires-clause-start_boundary c).In_ok-link) c.utf8.text

pub range-text-requires-clause-end_boundary : goal.range-text-requires-clause-end_boundary
range-text-requires-clause-end_boundary c = link-end c.args.text.now c.in_ok-link.link.text.now c.in_ok-link.link.rest.now c.args.at c.requires.0 (there (goal.at.range-text-requires-clause-end_boundary c).In_ok-link)

pub returns-clause-read : goal.returns-clause-read
returns-clause-read c =
    let d = (goal.at.returns-clause-read c).In_ok-link in
    let address = c.in_ok-link.link.is_address in
    let text = c.in_ok-link.link.text.now in
    let rest = c.in_ok-link.link.rest.now in
    ap (λ t. Some (autolink_with address t (drop (length c.args.text.now - length rest) c.args.text.now))) (c.range-text.ensures.value ∙ link-text c.args.text.now c.in_ok-link.link.text.now c.in_ok-link.link.rest.now c.args.at c.requires.0 (there d))
    ∙ ap (λ r. Some (autolink_with address text r)) (link-cut c.args.text.now c.in_ok-link.link.text.now c.in_ok-link.link.rest.now c.args.at c.requires.0 (there d)).beyond ∙ found d

pub returns-clause-boundary : goal.returns-clause-boundary
returns-clause-boundary c =
    let d = (goal.at.returns-clause-boundary c).In_ok-link in
    cut-boundary c.args.text.now c.args.at c.in_ok-link.link.rest.now c.utf8.text (link-cut c.args.text.now c.in_ok-link.link.text.now c.in_ok-link.link.rest.now c.args.at c.requires.0 (there d))
