use Rattle.cm_inline.proofs.lemmas.Words.{refl}
use Rattle.cm_inline.proofs.lemmas.HtmlLemmas.{on-ok}
use Rattle.cm_inline.proofs.lemmas.MarkLemmas.{escaped-at, tags-plain, tags-escaped, tags-nothing, tags-character, tags-code, tags-html, tags-autolink, tags-soft, tags-hard, tags-start, tags-end}
use Rattle.cm_inline.proofs.html.push_one.Goals as goal

pub push_reference-requires : goal.push_reference-requires
push_reference-requires c = (escaped-at c.args.source.now c.as_bytes.result.now c.args.definitions.now c.args.reader.now c.args.mark c.in-Escaped.is c.requires c.as_bytes.ensures.value).0

pub returns-in-Plain : goal.returns-in-Plain
returns-in-Plain c = record { pushed = on-ok c.push_str.result c.push_str.ensures (λ e. tags-plain c.args.source.now c.args.definitions.now c.args.reader.now c.args.mark c.args.html.now _ _ c.in-Plain.is c.requires c.part.ensures.part e) }

pub returns-in-Escaped : goal.returns-in-Escaped
returns-in-Escaped c = record { pushed = on-ok c.push_reference.result c.push_reference.ensures (λ e. tags-escaped c.args.source.now c.as_bytes.result.now c.args.definitions.now c.args.reader.now c.args.mark c.args.html.now _ c.in-Escaped.is c.requires c.as_bytes.ensures.value e) }

pub returns-in-Nothing : goal.returns-in-Nothing
returns-in-Nothing c = record { pushed = tags-nothing c.args.source.now c.args.definitions.now c.args.reader.now c.args.mark c.args.html.now c.in-Nothing.is }

pub returns-in-Character : goal.returns-in-Character
returns-in-Character c = record { pushed = on-ok c.push_character.result c.push_character.ensures (λ e. tags-character c.args.source.now c.args.definitions.now c.args.reader.now c.args.mark c.args.html.now _ c.in-Character.character c.in-Character.is e) }

pub returns-in-Code : goal.returns-in-Code
returns-in-Code c = record { pushed = on-ok c.push_code.result c.push_code.ensures.pushed (λ e. tags-code c.args.source.now c.args.definitions.now c.args.reader.now c.args.mark c.args.html.now _ _ c.in-Code.from c.in-Code.to c.in-Code.is refl e) }

pub returns-in-Html : goal.returns-in-Html
returns-in-Html c = record { pushed = on-ok c.push_str-in-Html.result c.push_str-in-Html.ensures (λ e. tags-html c.args.source.now c.args.definitions.now c.args.reader.now c.args.mark c.args.html.now _ _ c.in-Html.is c.part-in-Html.ensures.part e) }

pub returns-in-Autolink : goal.returns-in-Autolink
returns-in-Autolink c = record {
  pushed = on-ok c.push_autolink.result c.push_autolink.ensures.pushed
      (λ e. tags-autolink c.args.source.now c.args.definitions.now c.args.reader.now c.args.mark c.args.html.now _ _ c.in-Autolink.is_address c.in-Autolink.is c.part-text.ensures.part e);
}

pub returns-in-Soft : goal.returns-in-Soft
returns-in-Soft c = record { pushed = on-ok c.push_str-in-Soft.result c.push_str-in-Soft.ensures (λ e. tags-soft c.args.source.now c.args.definitions.now c.args.reader.now c.args.mark c.args.html.now _ c.in-Soft.is e) }

pub returns-in-Hard : goal.returns-in-Hard
returns-in-Hard c = record { pushed = on-ok c.push_str-in-Hard.result c.push_str-in-Hard.ensures (λ e. tags-hard c.args.source.now c.args.definitions.now c.args.reader.now c.args.mark c.args.html.now _ c.in-Hard.is e) }

pub returns-in-Start : goal.returns-in-Start
returns-in-Start c = record {
  pushed = on-ok c.push_start.result c.push_start.ensures.pushed
      (λ e. tags-start c.args.source.now c.args.definitions.now c.args.reader.now c.args.mark c.args.html.now _ c.in-Start.number c.index-link.result.now c.in-Start.is c.requires c.index-link.ensures (e c.in-Start.number));
}

pub returns-in-End : goal.returns-in-End
returns-in-End c = record {
  pushed = on-ok c.push_end.result c.push_end.ensures.pushed
      (λ e. tags-end c.args.source.now c.args.definitions.now c.args.reader.now c.args.mark c.args.html.now _ c.in-End.number c.index-link-in-End.result.now c.in-End.is c.requires c.index-link-in-End.ensures (e c.in-End.number));
}
