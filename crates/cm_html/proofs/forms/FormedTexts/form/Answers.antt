use Rattle.std.proofs.Common.{ap, sym, subst, ◌∙◌}
use Rattle.cm_html.specs.Forms.{formed}
use Rattle.cm_html.specs.steps.FormedTexts.{AreFormed, IsFormed}
use Rattle.cm_html.proofs.lemmas.FormedLemmas.{copied, found_is_formed, is_formed, stay_formed}
use Rattle.cm_html.proofs.forms.FormedTexts.form.Goals as goal

pub returns-in-Some : goal.returns-in-Some
returns-in-Some c =
    let there : IsFormed (c.number_of.result, c.in_ok-clone.field-0) c.in-Some.there.now =
    found_is_formed c.self.inside.texts.entries (c.number_of.result, c.in_ok-clone.field-0) c.in-Some.there.now c.self.invariant (sym c.in-Some.ensures.value) in
    copied c.clone-in-Some.result c.in-Some.there.now (formed c.args.form c.args.text.now) _ c.clone-in-Some.ensures.cases
    (there c.args.form (sym c.number_of.ensures) ∙ ap (formed c.args.form) c.in_ok-clone.ensures.cases)

pub invariant_of-self-2 : goal.invariant_of-self-2
invariant_of-self-2 c =
    subst AreFormed (sym c.in_ok-insert.ensures.entries) (stay_formed c.self.inside.texts.entries (c.number_of.result, c.in_ok-clone.field-0) c.in_ok-clone-2.field-0 c.self.invariant
    (is_formed c.args.form c.number_of.result c.args.text.now c.in_ok-clone.field-0 c.in_ok-clone-2.field-0 c.number_of.ensures c.in_ok-clone.ensures.cases
    (c.in_ok-clone-2.ensures.cases ∙ c.in_ok-made.ensures ∙ ap (formed c.args.form) c.as_str.ensures)))
