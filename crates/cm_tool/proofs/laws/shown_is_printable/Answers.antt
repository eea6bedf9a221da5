use Rattle.cm_tool.proofs.lemmas.ShownLemmas.{shown_is_printable}
use Rattle.cm_tool.proofs.laws.shown_is_printable.Goals as goal

pub returns : goal.returns
returns c = shown_is_printable
