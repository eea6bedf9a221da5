use Rattle.cm_text.proofs.lemmas.StripLemmas.{strip_takes_columns}
use Rattle.cm_text.proofs.laws.strip_takes_columns.Goals as goal

pub returns : goal.returns
returns c = strip_takes_columns
