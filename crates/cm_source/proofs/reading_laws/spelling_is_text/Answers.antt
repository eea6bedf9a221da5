use Rattle.cm_source.proofs.lemmas.BlocksBack as reading_back
use Rattle.cm_source.proofs.reading_laws.spelling_is_text.Goals as goal

pub returns : goal.returns
returns c = reading_back.spelling_is_text
