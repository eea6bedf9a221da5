use Rattle.std.proofs.Common.{◌+◌, ◌*◌, ◌≤◌, length, refl, ◌∷◌, ◌∙◌, sym, ap, arith}
use Rattle.cm_scan.specs.spans.Tags.{open_tag}
use Rattle.cm_scan.specs.spans.RawHtml.{html_tag}
use Rattle.cm_scan.specs.spans.Reach.{tag_reach}
use Rattle.cm_scan.specs.steps.SpanSteps.{after_tag}
use Rattle.cm_scan.proofs.lemmas.spans.RawHtmlByFirstBytes.{html-none, html-other, html-end, html-instruction, html-closing, html-open}
use Rattle.cm_scan.proofs.lemmas.spans.ReachLemmas.{map_some, reach_some, reach_plain, html_some, html_one, html_mark, html_instruction, html_other_reach, needed_mark, needed_instruction, tag_shorter}
use Rattle.cm_scan.proofs.inline_html.after_html_tag.Goals as goal

pub returns-in_err-b-clause-read : goal.returns-in_err-b-clause-read
returns-in_err-b-clause-read g c = c.from_residual.ensures ∙ html-none c.args.rules ∙ sym (ap (html_tag c.args.rules) c.in_err-b.ensures.read)

pub returns-then-b-ne60-clause-read : goal.returns-then-b-ne60-clause-read
returns-then-b-ne60-clause-read g c = html-other c.args.rules c.in_ok-b.b c.in_ok-b.inside c.if-b-ne60.true ∙ sym (ap (html_tag c.args.rules) c.in_ok-b.ensures.read)

pub returns-in_err-c-clause-read : goal.returns-in_err-c-clause-read
returns-in_err-c-clause-read g c =
    let text = c.in_ok-b.ensures.read ∙ ap (λ b. b ∷ c.in_ok-b.inside) c.if-b-ne60.false ∙ ap (λ t. 60 ∷ t) c.in_err-c.ensures.read in
    c.from_residual-in_err-c.ensures ∙ html-end c.args.rules ∙ sym (ap (html_tag c.args.rules) text)

pub returns-in-33-clause-read : goal.returns-in-33-clause-read
returns-in-33-clause-read g c =
    let text = c.in_ok-b.ensures.read ∙ ap (λ b. b ∷ c.in_ok-b.inside) c.if-b-ne60.false ∙ ap (λ t. 60 ∷ t) c.in_ok-c.ensures.read ∙ ap (λ m. 60 ∷ m ∷ c.in_ok-c.beyond) c.in-33.is in
    c.after_mark.ensures.read ∙ sym (ap (html_tag c.args.rules) text)

pub returns-in-63-clause-read : goal.returns-in-63-clause-read
returns-in-63-clause-read g c =
    let text = c.in_ok-b.ensures.read ∙ ap (λ b. b ∷ c.in_ok-b.inside) c.if-b-ne60.false ∙ ap (λ t. 60 ∷ t) c.in_ok-c.ensures.read ∙ ap (λ m. 60 ∷ m ∷ c.in_ok-c.beyond) c.in-63.is in
    c.after_end.ensures.read ∙ html-instruction c.args.rules c.in_ok-c.beyond ∙ sym (ap (html_tag c.args.rules) text)

pub returns-in_err-closing_tag-in-47-clause-read : goal.returns-in_err-closing_tag-in-47-clause-read
returns-in_err-closing_tag-in-47-clause-read g c =
    let text = c.in_ok-b.ensures.read ∙ ap (λ b. b ∷ c.in_ok-b.inside) c.if-b-ne60.false ∙ ap (λ t. 60 ∷ t) c.in_ok-c.ensures.read ∙ ap (λ m. 60 ∷ m ∷ c.in_ok-c.beyond) c.in-47.is in
    c.from_residual-in_err-closing_tag-in-47.ensures ∙ sym (ap after_tag c.in_err-closing_tag-in-47.ensures.read)
    ∙ html-closing c.args.rules c.in_ok-c.beyond ∙ sym (ap (html_tag c.args.rules) text)

pub returns-in_ok-closing_tag-in-47-clause-read : goal.returns-in_ok-closing_tag-in-47-clause-read
returns-in_ok-closing_tag-in-47-clause-read g c =
    let text = c.in_ok-b.ensures.read ∙ ap (λ b. b ∷ c.in_ok-b.inside) c.if-b-ne60.false ∙ ap (λ t. 60 ∷ t) c.in_ok-c.ensures.read ∙ ap (λ m. 60 ∷ m ∷ c.in_ok-c.beyond) c.in-47.is in
    sym (ap after_tag c.in_ok-closing_tag-in-47.ensures.read) ∙ html-closing c.args.rules c.in_ok-c.beyond ∙ sym (ap (html_tag c.args.rules) text)

pub returns-in_err-open_tag-in_default-clause-read : goal.returns-in_err-open_tag-in_default-clause-read
returns-in_err-open_tag-in_default-clause-read g c =
    let text = c.in_ok-b.ensures.read ∙ ap (λ b. b ∷ c.in_ok-b.inside) c.if-b-ne60.false ∙ ap (λ t. 60 ∷ t) c.in_ok-c.ensures.read in
    c.from_residual-in_err-open_tag-in_default.ensures ∙ sym (ap (λ t. after_tag (open_tag (60 ∷ t))) (sym c.in_ok-c.ensures.read) ∙ ap after_tag c.in_err-open_tag-in_default.ensures.read)
    ∙ html-open c.args.rules c.in_ok-c.c c.in_ok-c.beyond (λ e. absurd (omega (arith, e))) (λ e. absurd (omega (arith, e))) (λ e. absurd (omega (arith, e))) ∙ sym (ap (html_tag c.args.rules) text)

pub returns-in_ok-open_tag-in_default-clause-read : goal.returns-in_ok-open_tag-in_default-clause-read
returns-in_ok-open_tag-in_default-clause-read g c =
    let text = c.in_ok-b.ensures.read ∙ ap (λ b. b ∷ c.in_ok-b.inside) c.if-b-ne60.false ∙ ap (λ t. 60 ∷ t) c.in_ok-c.ensures.read in
    sym (ap (λ t. after_tag (open_tag (60 ∷ t))) (sym c.in_ok-c.ensures.read) ∙ ap after_tag c.in_ok-open_tag-in_default.ensures.read)
    ∙ html-open c.args.rules c.in_ok-c.c c.in_ok-c.beyond (λ e. absurd (omega (arith, e))) (λ e. absurd (omega (arith, e))) (λ e. absurd (omega (arith, e))) ∙ sym (ap (html_tag c.args.rules) text)

pub returns-in_err-b-clause-none : goal.returns-in_err-b-clause-none
returns-in_err-b-clause-none g c = λ _. omega (arith, html_some c.args.rules.older c.args.bytes.now, c.first.ensures.looks)

pub returns-then-b-ne60-clause-none : goal.returns-then-b-ne60-clause-none
returns-then-b-ne60-clause-none g c = λ _. omega (arith, html_some c.args.rules.older c.args.bytes.now, c.first.ensures.looks)

pub returns-in_err-c-clause-none : goal.returns-in_err-c-clause-none
returns-in_err-c-clause-none g c =
    let text = c.in_ok-b.ensures.read ∙ ap (λ t. c.in_ok-b.b ∷ t) c.in_err-c.ensures.read in
    λ _. omega (arith, html_one c.args.rules.older c.args.bytes.now c.in_ok-b.b text, c.first.ensures.looks, c.first-2.ensures.looks)

pub returns-in-33-clause-some : goal.returns-in-33-clause-some
returns-in-33-clause-some g c =
    let text = c.in_ok-b.ensures.read ∙ ap (λ t. c.in_ok-b.b ∷ t) c.in_ok-c.ensures.read ∙ ap (λ m. c.in_ok-b.b ∷ m ∷ c.in_ok-c.beyond) c.in-33.is in
    map_some c.after_mark.result _ _ c.after_mark.ensures.some (λ rest h. omega (arith, h, html_mark c.args.rules.older c.args.bytes.now c.in_ok-b.b c.in_ok-c.beyond text, ap length text, c.first.ensures.looks, c.first-2.ensures.looks))

pub returns-in-33-clause-none : goal.returns-in-33-clause-none
returns-in-33-clause-none g c =
    let text = c.in_ok-b.ensures.read ∙ ap (λ t. c.in_ok-b.b ∷ t) c.in_ok-c.ensures.read ∙ ap (λ m. c.in_ok-b.b ∷ m ∷ c.in_ok-c.beyond) c.in-33.is in
    λ none. omega (arith, c.after_mark.ensures.none none, html_mark c.args.rules.older c.args.bytes.now c.in_ok-b.b c.in_ok-c.beyond text, needed_mark c.args.rules.older c.args.bytes.now c.in_ok-b.b c.in_ok-c.beyond text, c.first.ensures.looks, c.first-2.ensures.looks)

pub returns-in-63-clause-some : goal.returns-in-63-clause-some
returns-in-63-clause-some g c =
    let text = c.in_ok-b.ensures.read ∙ ap (λ t. c.in_ok-b.b ∷ t) c.in_ok-c.ensures.read ∙ ap (λ m. c.in_ok-b.b ∷ m ∷ c.in_ok-c.beyond) c.in-63.is in
    map_some c.after_end.result _ _ c.after_end.ensures.some (λ rest h. omega (arith, h, html_instruction c.args.rules.older c.args.bytes.now c.in_ok-b.b c.in_ok-c.beyond text, ap length text, c.first.ensures.looks, c.first-2.ensures.looks))

pub returns-in-63-clause-none : goal.returns-in-63-clause-none
returns-in-63-clause-none g c =
    let text = c.in_ok-b.ensures.read ∙ ap (λ t. c.in_ok-b.b ∷ t) c.in_ok-c.ensures.read ∙ ap (λ m. c.in_ok-b.b ∷ m ∷ c.in_ok-c.beyond) c.in-63.is in
    λ none. omega (arith, c.after_end.ensures.looks, html_instruction c.args.rules.older c.args.bytes.now c.in_ok-b.b c.in_ok-c.beyond text, needed_instruction c.args.rules.older c.args.bytes.now c.in_ok-b.b c.in_ok-c.beyond text, c.first.ensures.looks, c.first-2.ensures.looks)

pub returns-in_err-closing_tag-in-47-clause-none : goal.returns-in_err-closing_tag-in-47-clause-none
returns-in_err-closing_tag-in-47-clause-none g c =
    let text = c.in_ok-b.ensures.read ∙ ap (λ t. c.in_ok-b.b ∷ t) c.in_ok-c.ensures.read in
    let far = html_other_reach c.args.rules.older c.args.bytes.now c.in_ok-b.b c.in_ok-c.c c.in_ok-c.beyond text (λ e. absurd (omega (arith, e, c.in-47.is))) (λ e. absurd (omega (arith, e, c.in-47.is))) in
    let step = ap (λ m. tag_reach 0 (m ∷ c.in_ok-c.beyond)) c.in-47.is ∙ reach_plain 47 c.in_ok-c.beyond refl in
    λ _. omega (arith, far, step, c.closing_tag.ensures.looks, c.first.ensures.looks, c.first-2.ensures.looks)

pub returns-in_ok-closing_tag-in-47-clause-some : goal.returns-in_ok-closing_tag-in-47-clause-some
returns-in_ok-closing_tag-in-47-clause-some g c =
    let text = c.in_ok-b.ensures.read ∙ ap (λ t. c.in_ok-b.b ∷ t) c.in_ok-c.ensures.read in
    let far = html_other_reach c.args.rules.older c.args.bytes.now c.in_ok-b.b c.in_ok-c.c c.in_ok-c.beyond text (λ e. absurd (omega (arith, e, c.in-47.is))) (λ e. absurd (omega (arith, e, c.in-47.is))) in
    let step = ap (λ m. tag_reach 0 (m ∷ c.in_ok-c.beyond)) c.in-47.is ∙ reach_plain 47 c.in_ok-c.beyond refl in
    omega (arith, far, step, tag_shorter c.args.rules c.args.bytes.now c.in_ok-closing_tag-in-47.field-0.rest (sym (returns-in_ok-closing_tag-in-47-clause-read g c)), c.closing_tag.ensures.looks, c.first.ensures.looks, c.first-2.ensures.looks)

pub returns-in_err-open_tag-in_default-clause-none : goal.returns-in_err-open_tag-in_default-clause-none
returns-in_err-open_tag-in_default-clause-none g c =
    let text = c.in_ok-b.ensures.read ∙ ap (λ t. c.in_ok-b.b ∷ t) c.in_ok-c.ensures.read in
    let far = html_other_reach c.args.rules.older c.args.bytes.now c.in_ok-b.b c.in_ok-c.c c.in_ok-c.beyond text (λ e. absurd (omega (arith, e))) (λ e. absurd (omega (arith, e))) in
    λ _. omega (arith, far, ap (tag_reach 0) c.in_ok-c.ensures.read, c.open_tag.ensures.looks, c.first.ensures.looks, c.first-2.ensures.looks)

pub returns-in_ok-open_tag-in_default-clause-some : goal.returns-in_ok-open_tag-in_default-clause-some
returns-in_ok-open_tag-in_default-clause-some g c =
    let text = c.in_ok-b.ensures.read ∙ ap (λ t. c.in_ok-b.b ∷ t) c.in_ok-c.ensures.read in
    let far = html_other_reach c.args.rules.older c.args.bytes.now c.in_ok-b.b c.in_ok-c.c c.in_ok-c.beyond text (λ e. absurd (omega (arith, e))) (λ e. absurd (omega (arith, e))) in
    omega (arith, far, tag_shorter c.args.rules c.args.bytes.now c.in_ok-open_tag-in_default.field-0.rest (sym (returns-in_ok-open_tag-in_default-clause-read g c)), ap (tag_reach 0) c.in_ok-c.ensures.read, c.open_tag.ensures.looks, c.first.ensures.looks, c.first-2.ensures.looks)
