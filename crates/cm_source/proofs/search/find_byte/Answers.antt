use Rattle.std.proofs.Common.{◌==◌}
use Rattle.cm_source.proofs.lemmas.spelling.SearchLemmas.{first-position}
use Rattle.cm_source.proofs.search.find_byte.Goals as goal

pub returns : goal.returns
returns c = first-position (λ x. x == c.args.b) c.args.bytes.now c.memchr.result c.memchr.ensures
