use Rattle.std.proofs.Common.{◌∙◌, sym, ap}
use Rattle.cm_scan.specs.Words.{holds_word}
use Rattle.cm_scan.proofs.lemmas.texts.FoundWords.{holds-found, past-later}
use Rattle.cm_scan.proofs.inline_html.holds_from.Goals as goal

pub returns-clause-held : goal.returns-clause-held
returns-clause-held c =
    c.is_some.ensures ∙ holds-found c.as_bytes.result.now c.bytes_from.result.now c.find.result c.find.ensures
    ∙ ap (λ w. holds_word w c.bytes_from.result.now) c.as_bytes.ensures.value ∙ ap (holds_word c.args.word.now) c.bytes_from.ensures.rest

pub returns-clause-none_later : goal.returns-clause-none_later
returns-clause-none_later c = λ none later low.
    past-later c.args.word.now c.args.text.now c.args.from later low (sym (returns-clause-held c) ∙ none)
