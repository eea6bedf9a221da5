use Rattle.cm_inline.proofs.lemmas.Words.{ap, ◌∙◌}
use Rattle.cm_inline.specs.steps.pairing.Events.{made_of}
use Rattle.cm_inline.specs.steps.Building.{built_in}
use Rattle.cm_inline.specs.steps.Marks.{link_tag}
use Rattle.cm_inline.proofs.lemmas.HtmlLemmas.{on-ok}
use Rattle.cm_inline.proofs.lemmas.SettleLemmas.{closed-with}
use Rattle.cm_inline.proofs.inlines_of_marks.close_link.Goals as goal

pub returns : goal.returns
returns c = record {
  closed = on-ok c.push.result c.push.ensures.ok
      (λ e number. closed-with (built_in c.args.made.now) _ _ _ _ c.in_ok-inline.inline _ c.in_ok-content.ensures.left e
      (c.in_ok-inline.ensures.made number ∙ ap (made_of (link_tag c.args.source.now c.args.definitions.now number c.args.link)) c.in_ok-content.ensures.content));
}
