use Rattle.cm_inline.proofs.lemmas.Words.{◌≡◌, ◌+◌, ◌-◌, ◌≤◌, ◌<◌, ◌∙◌, length, length-drop, drop, refl, List, ℕ, Some, sym, ap, arith, raw_html}
use Rattle.std.specs.Prelude.{option_map}
use Rattle.cm_scan.specs.spans.Reach.{html_reach, needed}
use Rattle.cm_scan.proofs.lemmas.spans.RawHtmlByFirstBytes.{Cut, html-cut, cut-boundary}
use Rattle.cm_inline.proofs.atoms.html_end.Goals as goal

pub overflow_sub-result : goal.overflow_sub-result
overflow_sub-result g c =
    let same = c.after-text.ensures ∙ ap (drop c.args.at) (c.of.ensures ∙ c.as_bytes.ensures.value) in
    let found : raw_html c.args.rules (drop c.args.at c.args.source.now) ≡ Some c.in_ok-rest.rest = sym (c.in_ok-rest.ensures.read ∙ ap (raw_html c.args.rules) same) in
    omega (arith, (html-cut c.args.rules c.args.source.now c.args.at c.in_ok-rest.rest c.requires found).high)

pub returns-in_err-rest-clause-read : goal.returns-in_err-rest-clause-read
returns-in_err-rest-clause-read g c =
    let same = c.after-text.ensures ∙ ap (drop c.args.at) (c.of.ensures ∙ c.as_bytes.ensures.value) in
    ap (option_map (λ end. drop end c.args.source.now)) c.from_residual.ensures ∙ c.in_err-rest.ensures.read ∙ ap (raw_html c.args.rules) same

pub returns-in_err-rest-clause-none : goal.returns-in_err-rest-clause-none
returns-in_err-rest-clause-none g c = λ _.
    let same = c.after-text.ensures ∙ ap (drop c.args.at) (c.of.ensures ∙ c.as_bytes.ensures.value) in
    omega (arith, c.in_err-rest.ensures.none refl, ap (html_reach c.args.rules.older) same, ap (needed c.args.rules.older) same)

pub returns-clause-read : goal.returns-clause-read
returns-clause-read g c =
    let source = c.args.source.now in
    let same = c.after-text.ensures ∙ ap (drop c.args.at) (c.of.ensures ∙ c.as_bytes.ensures.value) in
    let found : raw_html c.args.rules (drop c.args.at source) ≡ Some c.in_ok-rest.rest = sym (c.in_ok-rest.ensures.read ∙ ap (raw_html c.args.rules) same) in
    let cut = html-cut c.args.rules source c.args.at c.in_ok-rest.rest c.requires found in
    ap (λ n. Some (drop (length source - n) source)) c.len.ensures ∙ ap Some cut.beyond ∙ sym found

pub returns-clause-boundary : goal.returns-clause-boundary
returns-clause-boundary g c =
    let source = c.args.source.now in
    let same = c.after-text.ensures ∙ ap (drop c.args.at) (c.of.ensures ∙ c.as_bytes.ensures.value) in
    let found : raw_html c.args.rules (drop c.args.at source) ≡ Some c.in_ok-rest.rest = sym (c.in_ok-rest.ensures.read ∙ ap (raw_html c.args.rules) same) in
    rw c.len.ensures (cut-boundary source c.args.at c.in_ok-rest.rest c.utf8.source (html-cut c.args.rules source c.args.at c.in_ok-rest.rest c.requires found))

pub returns-clause-further : goal.returns-clause-further
returns-clause-further g c =
    let source = c.args.source.now in
    let same = c.after-text.ensures ∙ ap (drop c.args.at) (c.of.ensures ∙ c.as_bytes.ensures.value) in
    let found : raw_html c.args.rules (drop c.args.at source) ≡ Some c.in_ok-rest.rest = sym (c.in_ok-rest.ensures.read ∙ ap (raw_html c.args.rules) same) in
    let low = (html-cut c.args.rules source c.args.at c.in_ok-rest.rest c.requires found).low in
    (omega (arith, low, c.len.ensures), omega arith)

pub returns-clause-some : goal.returns-clause-some
returns-clause-some g c =
    let source = c.args.source.now in
    let same = c.after-text.ensures ∙ ap (drop c.args.at) (c.of.ensures ∙ c.as_bytes.ensures.value) in
    let found : raw_html c.args.rules (drop c.args.at source) ≡ Some c.in_ok-rest.rest = sym (c.in_ok-rest.ensures.read ∙ ap (raw_html c.args.rules) same) in
    let high = (html-cut c.args.rules source c.args.at c.in_ok-rest.rest c.requires found).high in
    omega (arith, c.in_ok-rest.ensures.some, ap length same, ap (html_reach c.args.rules.older) same, length-drop c.args.at source, c.len.ensures, high, c.requires)
