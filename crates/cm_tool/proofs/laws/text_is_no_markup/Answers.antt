use Rattle.cm_tool.proofs.lemmas.MarkupLemmas.{document_levels, document_is_no_markup}
use Rattle.cm_tool.proofs.laws.text_is_no_markup.Goals as goal

pub returns-clause-levels : goal.returns-clause-levels
returns-clause-levels c = document_levels

pub returns-clause-tags : goal.returns-clause-tags
returns-clause-tags c = document_is_no_markup
