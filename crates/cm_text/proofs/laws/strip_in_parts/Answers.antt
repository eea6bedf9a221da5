use Rattle.cm_text.proofs.lemmas.StripLemmas.{strip_in_parts}
use Rattle.cm_text.proofs.laws.strip_in_parts.Goals as goal

pub returns : goal.returns
returns c = strip_in_parts
