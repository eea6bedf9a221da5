use Rattle.cm_html.proofs.lemmas.MarkupBlocks.{text_is_no_markup}
use Rattle.cm_html.proofs.laws.text_is_no_markup.Goals as goal

pub returns : goal.returns
returns c = text_is_no_markup
