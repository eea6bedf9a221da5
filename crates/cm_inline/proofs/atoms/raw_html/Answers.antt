use Rattle.cm_inline.proofs.lemmas.Words.{◌≡◌, ◌+◌, ◌<◌, ◌≤◌, ◌∙◌, ◌∷◌, ℕ, true, false, None, refl, sym, ap, subst, length, length-drop, drop, arith, raw_html, nat_lt}
use Rattle.cm_scan.specs.spans.Reach.{html_reach, needed}
use Rattle.cm_scan.proofs.lemmas.spans.RawHtmlGoesOn.{raw-off}
use Rattle.cm_scan.proofs.lemmas.spans.ReachLemmas.{map_some}
use Rattle.cm_inline.specs.steps.Missing.{Starts, Knows, IsPast, missing_from, spare}
use Rattle.cm_inline.proofs.lemmas.FormStarts.{needed-within, from-bracket}
use Rattle.cm_inline.proofs.lemmas.MissingForms.{no-raw-html, lacks, knows-more, past-more, past-on, spare-falls}
use Rattle.cm_inline.proofs.atoms.raw_html.Goals as goal

pub returns-then-not-raw_html-clause-read : goal.returns-then-not-raw_html-clause-read
returns-then-not-raw_html-clause-read g c = sym (raw-off c.args.rules (drop c.args.at c.args.source.now) (sym c.raw_html.ensures ∙ c.if-not-raw_html.true))

pub returns-in_default-clause-none : goal.returns-in_default-clause-none
returns-in_default-clause-none g c = λ none past.
    let source = c.args.source.now in
    let inside = c.after-inside.ensures ∙ ap (drop (c.args.at + 1)) (c.of.ensures ∙ c.as_bytes.ensures.value) in
    let whole = ap (λ t. 60 ∷ t) inside ∙ from-bracket source c.args.at c.requires.stands.within c.requires.stands.byte in
    let nothing : needed c.args.rules.older (drop c.args.at source) ≡ 0 = ap (needed c.args.rules.older) (sym whole) ∙ c.in_default.ensures.none refl in
    omega (arith, c.html_end.ensures.none none, nothing, c.form_of.ensures.looks)

pub returns-in_default-clause-some : goal.returns-in_default-clause-some
returns-in_default-clause-some g c = map_some c.html_end.result _ _ c.html_end.ensures.some (λ end h. (refl, omega (arith, h, c.form_of.ensures.looks)))

pub returns-then-is_missing-clause-read : goal.returns-then-is_missing-clause-read
returns-then-is_missing-clause-read g c =
    let source = c.args.source.now in
    let inside = c.after-inside.ensures ∙ ap (drop (c.args.at + 1)) (c.of.ensures ∙ c.as_bytes.ensures.value) in
    let whole = ap (λ t. 60 ∷ t) inside ∙ from-bracket source c.args.at c.requires.stands.within c.requires.stands.byte in
    let starts = subst (λ t. Starts c.args.rules.older t c.in-Some.form) whole c.in-Some.ensures.start in
    sym (no-raw-html c.args.rules source c.args.ends.now c.in-Some.form c.args.at c.requires.knows (sym c.is_missing.ensures ∙ c.if-is_missing.true) starts)

pub returns-in-Some-html_end-clause-some : goal.returns-in-Some-html_end-clause-some
returns-in-Some-html_end-clause-some g c = (refl, omega (arith, c.in-Some-html_end.ensures.some, c.form_of.ensures.looks))

pub returns-clause-knows : goal.returns-clause-knows
returns-clause-knows g c =
    let source = c.args.source.now in
    let inside = c.after-inside.ensures ∙ ap (drop (c.args.at + 1)) (c.of.ensures ∙ c.as_bytes.ensures.value) in
    let whole = ap (λ t. 60 ∷ t) inside ∙ from-bracket source c.args.at c.requires.stands.within c.requires.stands.byte in
    let starts = subst (λ t. Starts c.args.rules.older t c.in-Some.form) whole c.in-Some.ensures.start in
    let on : c.args.rules.raw_html ≡ true = sym c.raw_html.ensures ∙ c.if-not-raw_html.false in
    subst (Knows source) (sym c.remember.ensures)
    (knows-more source c.args.ends.now c.args.at c.in-Some.form c.requires.knows (lacks c.args.rules source c.in-Some.form c.args.at on starts c.in_default-html_end.ensures.read))

pub returns-clause-past : goal.returns-clause-past
returns-clause-past g c = λ past.
    subst (IsPast c.args.source.now (c.args.at + 1)) (sym c.remember.ensures) (past-more c.args.source.now c.args.ends.now c.args.at c.in-Some.form past)

pub returns-clause-none : goal.returns-clause-none
returns-clause-none g c = λ none past.
    let source = c.args.source.now in
    let unknown : nat_lt (missing_from c.args.ends.now c.in-Some.form) c.args.at ≡ false = sym c.is_missing.ensures ∙ c.if-is_missing.false in
    let falls = spare-falls source c.args.ends.now c.args.at c.in-Some.form c.requires.stands.within unknown past in
    omega (arith, c.in_default-html_end.ensures.none refl, needed-within c.args.rules.older (drop c.args.at source), length-drop c.args.at source, falls, ap (spare source) c.remember.ensures, c.form_of.ensures.looks)
