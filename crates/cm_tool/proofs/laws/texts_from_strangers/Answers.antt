use Rattle.cm_tool.proofs.lemmas.MarkupLemmas.{stranger_is_no_markup}
use Rattle.cm_tool.proofs.laws.texts_from_strangers.Goals as goal

pub returns : goal.returns
returns c = stranger_is_no_markup
