use Rattle.std.proofs.Common.{refl, rules}
use Rattle.cm_text.proofs.lemmas.FeedLemmas.{new_goes}
use Rattle.cm_text.proofs.line_buffer.LineBuffer.new.Goals as goal

pub returns-clause-stands : goal.returns-clause-stands
returns-clause-stands c = new_goes _ refl c.new.ensures.items (search rules)
