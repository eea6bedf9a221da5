use Rattle.cm_html.proofs.lemmas.WritingLemmas.{as_it_is}
use Rattle.cm_html.proofs.phrases.NoPhrasesPhrases.first.Goals as goal

pub returns-clause-none : goal.returns-clause-none
returns-clause-none c = λ none. as_it_is c.args.arg1.now
