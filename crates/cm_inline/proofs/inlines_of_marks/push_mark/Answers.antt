use Rattle.cm_inline.specs.steps.Building.{built_in}
use Rattle.cm_inline.proofs.lemmas.HtmlLemmas.{on-ok}
use Rattle.cm_inline.proofs.lemmas.SettleLemmas.{built-plain, built-escaped, built-nothing, built-character, built-code, built-html, built-autolink, built-soft, built-hard, built-start, built-end}
use Rattle.cm_inline.proofs.inlines_of_marks.push_mark.Goals as goal

pub returns-in-Plain : goal.returns-in-Plain
returns-in-Plain c = record { pushed = on-ok c.add_text.result c.add_text.ensures.added (λ e. built-plain c.args.source.now c.args.definitions.now c.args.reader.now c.args.mark (built_in c.args.made.now) _ _ c.in-Plain.is c.part.ensures.part e) }

pub returns-in-Escaped : goal.returns-in-Escaped
returns-in-Escaped c = record { pushed = on-ok c.add_text-in-Escaped.result c.add_text-in-Escaped.ensures.added (λ e. built-escaped c.args.source.now c.args.definitions.now c.args.reader.now c.args.mark (built_in c.args.made.now) _ _ c.in-Escaped.is c.part-in-Escaped.ensures.part e) }

pub returns-in-Nothing : goal.returns-in-Nothing
returns-in-Nothing c = record { pushed = built-nothing c.args.source.now c.args.definitions.now c.args.reader.now c.args.mark (built_in c.args.made.now) c.in-Nothing.is }

pub returns-in-Character : goal.returns-in-Character
returns-in-Character c = record { pushed = on-ok c.add_character.result c.add_character.ensures (λ e. built-character c.args.source.now c.args.definitions.now c.args.reader.now c.args.mark (built_in c.args.made.now) _ c.in-Character.character c.in-Character.is e) }

pub returns-in-Code : goal.returns-in-Code
returns-in-Code c = record {
  pushed = on-ok c.push_code.result c.push_code.ensures.pushed
      (λ e. built-code c.args.source.now c.args.definitions.now c.args.reader.now c.args.mark (built_in c.args.made.now) _ _ c.in-Code.from c.in-Code.to c.in-Code.is c.part-in-Code.ensures.part e);
}

pub returns-in_ok-text-in-Html : goal.returns-in_ok-text-in-Html
returns-in_ok-text-in-Html c = record { pushed = on-ok c.push.result c.push.ensures (λ e. built-html c.args.source.now c.args.definitions.now c.args.reader.now c.args.mark (built_in c.args.made.now) _ _ _ c.in-Html.is c.part-in-Html.ensures.part c.in_ok-text-in-Html.ensures.copy e) }

pub returns-in_ok-link-in-Autolink : goal.returns-in_ok-link-in-Autolink
returns-in_ok-link-in-Autolink c = record {
  pushed = on-ok c.push-in-Autolink.result c.push-in-Autolink.ensures
      (λ e. built-autolink c.args.source.now c.args.definitions.now c.args.reader.now c.args.mark (built_in c.args.made.now) _ _ c.in-Autolink.is_address c.in_ok-link-in-Autolink.link c.in-Autolink.is c.part-in-Autolink.ensures.part c.in_ok-link-in-Autolink.ensures.made e);
}

pub returns-in-Soft : goal.returns-in-Soft
returns-in-Soft c = record { pushed = on-ok c.push-in-Soft.result c.push-in-Soft.ensures (λ e. built-soft c.args.source.now c.args.definitions.now c.args.reader.now c.args.mark (built_in c.args.made.now) _ c.in-Soft.is e) }

pub returns-in-Hard : goal.returns-in-Hard
returns-in-Hard c = record { pushed = on-ok c.push-in-Hard.result c.push-in-Hard.ensures (λ e. built-hard c.args.source.now c.args.definitions.now c.args.reader.now c.args.mark (built_in c.args.made.now) _ c.in-Hard.is e) }

pub returns-in-Start : goal.returns-in-Start
returns-in-Start c = record { pushed = on-ok c.open.result c.open.ensures (λ e. built-start c.args.source.now c.args.definitions.now c.args.reader.now c.args.mark (built_in c.args.made.now) _ c.in-Start.number c.in-Start.is e) }

pub returns-in-End : goal.returns-in-End
returns-in-End c = record { pushed = on-ok c.close_link.result c.close_link.ensures.closed (λ e. built-end c.args.source.now c.args.definitions.now c.args.reader.now c.args.mark (built_in c.args.made.now) _ c.in-End.number c.index-link.result.now c.in-End.is c.requires c.index-link.ensures (e c.in-End.number)) }
