use Rattle.cm_inline.proofs.lemmas.Words.{◌-◌, ◌≤◌, [], length, sym, ap, refl, subst, drop, drop-drop, ◌∙◌, arith, link_of, Finished, whole_of, followed_autolink}
use Rattle.cm_scan.specs.Scanned.{autolink_with}
use Rattle.cm_scan.specs.spans.Angles.{before}
use Rattle.cm_scan.specs.spans.Reach.{link_reach}
use Rattle.cm_scan.proofs.lemmas.spans.RawHtmlByFirstBytes.{cut-boundary}
use Rattle.cm_tree.specs.declared.tree.Inline.TheVariants as inlines
use Rattle.cm_inline.specs.steps.Missing.{spare}
use Rattle.cm_inline.specs.steps.Reads.{IsAtom}
use Rattle.cm_inline.proofs.lemmas.AtomLemmas.{link-is, html-is, angle-is-text}
use Rattle.cm_inline.proofs.lemmas.MissingForms.{past-on}
use Rattle.cm_inline.proofs.lemmas.StandaloneLemmas.{link-cut, link-placed, whole-placed}
use Rattle.cm_inline.proofs.atoms.angle.Goals as goal

pub overflow_sub-end : goal.overflow_sub-end
overflow_sub-end g c =
    let source = c.args.source.now in
    let link = autolink_with c.in-Some.link.is_address c.in-Some.link.text c.in-Some.link.rest in
    let within : c.args.at ≤ length source = omega (arith, c.requires.stands.within) in
    let found = c.in-Some.ensures.read ∙ ap (followed_autolink c.args.rules) (c.after-text.ensures ∙ ap (drop c.args.at) (c.of.ensures ∙ c.as_bytes.ensures.value)) in
    omega (arith, (link-cut c.args.rules source c.args.at link within found).high, c.len.ensures)

pub returns-in-Some-clause-atom : goal.returns-in-Some-clause-atom
returns-in-Some-clause-atom g c =
    let source = c.args.source.now in
    let at = c.args.at in
    let rest = c.in-Some.link.rest in
    let end = length source - length rest in
    let link = autolink_with c.in-Some.link.is_address c.in-Some.link.text rest in
    let within : at ≤ length source = omega (arith, c.requires.stands.within) in
    let found = c.in-Some.ensures.read ∙ ap (followed_autolink c.args.rules) (c.after-text.ensures ∙ ap (drop c.args.at) (c.of.ensures ∙ c.as_bytes.ensures.value)) in
    let cut = link-cut c.args.rules source at link within found in
    let placed = link-placed c.args.rules source at link within found c.utf8.source in
    rw c.len.ensures (record {
      is = subst (λ text. IsAtom c.args.rules source at (Finished (link_of (autolink_with c.in-Some.link.is_address text []))) end) (sym placed.0)
          (link-is c.args.rules source at link end c.requires.stands found (sym cut.beyond) (cut-boundary source at rest c.utf8.source cut));
      there = placed.1;
    })

pub returns-in-Some-clause-past : goal.returns-in-Some-clause-past
returns-in-Some-clause-past g c = past-on c.args.source.now c.args.ends.now c.args.at

pub returns-in-Some-clause-looks : goal.returns-in-Some-clause-looks
returns-in-Some-clause-looks g c = λ past.
    let source = c.args.source.now in
    let link = autolink_with c.in-Some.link.is_address c.in-Some.link.text c.in-Some.link.rest in
    let within : c.args.at ≤ length source = omega (arith, c.requires.stands.within) in
    let found = c.in-Some.ensures.read ∙ ap (followed_autolink c.args.rules) (c.after-text.ensures ∙ ap (drop c.args.at) (c.of.ensures ∙ c.as_bytes.ensures.value)) in
    let reach = ap (λ t. link_reach (drop 1 t)) (c.after-text.ensures ∙ ap (drop c.args.at) (c.of.ensures ∙ c.as_bytes.ensures.value)) ∙ ap link_reach (drop-drop 1 c.args.at source) in
    omega (arith, (link-cut c.args.rules source c.args.at link within found).low, c.autolink_in.ensures.looks, reach, c.len.ensures)

pub returns-in-Some-raw_html-clause-atom : goal.returns-in-Some-raw_html-clause-atom
returns-in-Some-raw_html-clause-atom g c =
    let source = c.args.source.now in
    let at = c.args.at in
    let end = c.in-Some-raw_html.end in
    let none = c.in_default.ensures.read ∙ ap (followed_autolink c.args.rules) (c.after-text.ensures ∙ ap (drop c.args.at) (c.of.ensures ∙ c.as_bytes.ensures.value)) in
    let read = ap (whole_of (drop at source)) c.in-Some-raw_html.ensures.read in
    let is = html-is c.args.rules source at (before (drop end source) (drop at source)) end c.requires.stands none read c.in-Some-raw_html.ensures.boundary in
    let low : at ≤ end = omega (arith, is.further) in
    record { is = subst (λ html. IsAtom c.args.rules source at (Finished (inlines.Html html)) end) (whole-placed source at end low is.within) is; there = tt }

pub returns-in-Some-raw_html-clause-looks : goal.returns-in-Some-raw_html-clause-looks
returns-in-Some-raw_html-clause-looks g c = λ past.
    let reach = ap (λ t. link_reach (drop 1 t)) (c.after-text.ensures ∙ ap (drop c.args.at) (c.of.ensures ∙ c.as_bytes.ensures.value)) ∙ ap link_reach (drop-drop 1 c.args.at c.args.source.now) in
    omega (arith, c.in-Some-raw_html.ensures.some.1, ap (spare c.args.source.now) c.in-Some-raw_html.ensures.some.0, c.autolink_in.ensures.looks, reach)

pub returns-in-None-clause-atom : goal.returns-in-None-clause-atom
returns-in-None-clause-atom g c =
    let none = c.in_default.ensures.read ∙ ap (followed_autolink c.args.rules) (c.after-text.ensures ∙ ap (drop c.args.at) (c.of.ensures ∙ c.as_bytes.ensures.value)) in
    angle-is-text c.args.rules c.args.source.now c.args.at c.utf8.source c.requires.stands none (ap (whole_of (drop c.args.at c.args.source.now)) c.in-None.ensures.read)

pub returns-in-None-clause-looks : goal.returns-in-None-clause-looks
returns-in-None-clause-looks g c = λ past.
    let reach = ap (λ t. link_reach (drop 1 t)) (c.after-text.ensures ∙ ap (drop c.args.at) (c.of.ensures ∙ c.as_bytes.ensures.value)) ∙ ap link_reach (drop-drop 1 c.args.at c.args.source.now) in
    omega (arith, c.in-None.ensures.none refl past, c.autolink_in.ensures.looks, reach)
