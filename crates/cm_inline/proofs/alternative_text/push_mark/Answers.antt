use Rattle.cm_inline.proofs.lemmas.HtmlLemmas.{on-ok}
use Rattle.cm_inline.proofs.lemmas.MarkLemmas.{alt-plain, alt-escaped, alt-nothing, alt-character, alt-code, alt-html, alt-autolink, alt-soft, alt-hard, alt-run, alt-start, alt-end}
use Rattle.cm_inline.proofs.alternative_text.push_mark.Goals as goal

pub returns-in-Plain : goal.returns-in-Plain
returns-in-Plain c = record { pushed = on-ok c.push_escaped.result c.push_escaped.ensures (λ e link targets other m. alt-plain c.args.source.now targets c.args.reader.now c.args.mark link c.args.html.now _ _ c.in-Plain.is c.part.ensures.part e) }

pub returns-in-Escaped : goal.returns-in-Escaped
returns-in-Escaped c = record { pushed = on-ok c.push_escaped-in-Escaped.result c.push_escaped-in-Escaped.ensures (λ e link targets other m. alt-escaped c.args.source.now targets c.args.reader.now c.args.mark link c.args.html.now _ _ c.in-Escaped.is c.part-in-Escaped.ensures.part e) }

pub returns-in-Nothing : goal.returns-in-Nothing
returns-in-Nothing c = record { pushed = λ link targets other m. alt-nothing c.args.source.now targets c.args.reader.now c.args.mark link c.args.html.now c.in-Nothing.is }

pub returns-in-Character : goal.returns-in-Character
returns-in-Character c = record { pushed = on-ok c.push_character.result c.push_character.ensures (λ e link targets other m. alt-character c.args.source.now targets c.args.reader.now c.args.mark link c.args.html.now _ c.in-Character.character c.in-Character.is e) }

pub returns-in-Code : goal.returns-in-Code
returns-in-Code c = record { pushed = on-ok c.push_one_line.result c.push_one_line.ensures.pushed (λ e link targets other m. alt-code c.args.source.now targets c.args.reader.now c.args.mark link c.args.html.now _ _ c.in-Code.from c.in-Code.to c.in-Code.is c.part-in-Code.ensures.part e) }

pub returns-in-Html : goal.returns-in-Html
returns-in-Html c = record { pushed = on-ok c.push_escaped-in-Html.result c.push_escaped-in-Html.ensures (λ e link targets other m. alt-html c.args.source.now targets c.args.reader.now c.args.mark link c.args.html.now _ _ c.in-Html.is c.part-in-Html.ensures.part e) }

pub returns-in-Autolink : goal.returns-in-Autolink
returns-in-Autolink c = record {
  pushed = on-ok c.push_escaped-in-Autolink.result c.push_escaped-in-Autolink.ensures
      (λ e link targets other m. alt-autolink c.args.source.now targets c.args.reader.now c.args.mark link c.args.html.now _ _ c.in-Autolink.is_address c.in-Autolink.is c.part-in-Autolink.ensures.part e);
}

pub returns-in-Soft : goal.returns-in-Soft
returns-in-Soft c = record { pushed = on-ok c.push_str.result c.push_str.ensures (λ e link targets other m. alt-soft c.args.source.now targets c.args.reader.now c.args.mark link c.args.html.now _ c.in-Soft.is e) }

pub returns-in-Hard : goal.returns-in-Hard
returns-in-Hard c = record { pushed = on-ok c.push_str-in-Hard.result c.push_str-in-Hard.ensures (λ e link targets other m. alt-hard c.args.source.now targets c.args.reader.now c.args.mark link c.args.html.now _ c.in-Hard.is e) }

pub returns-in-Run : goal.returns-in-Run
returns-in-Run c = record { pushed = on-ok c.push_left.result c.push_left.ensures (λ e link targets other m. alt-run c.args.source.now targets c.args.reader.now c.args.mark link c.args.html.now _ c.in-Run.number c.run.result c.in-Run.is m c.run.ensures e) }

pub returns-in-Start : goal.returns-in-Start
returns-in-Start c = record { pushed = λ link targets other m. alt-start c.args.source.now targets c.args.reader.now c.args.mark link c.args.html.now c.in-Start.number c.in-Start.is }

pub returns-in-End : goal.returns-in-End
returns-in-End c = record { pushed = λ link targets other m. alt-end c.args.source.now targets c.args.reader.now c.args.mark link c.args.html.now c.in-End.number c.in-End.is other }
