use Rattle.cm_html.proofs.lemmas.MarkupBlocks.{addresses_stay}
use Rattle.cm_html.proofs.laws.addresses_stay.Goals as goal

pub returns : goal.returns
returns c = addresses_stay
