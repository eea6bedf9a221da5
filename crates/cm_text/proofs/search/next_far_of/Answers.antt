use Rattle.std.proofs.Common.{◌∙◌}
use Rattle.cm_text.proofs.lemmas.SearchLemmas.{next-from}
use Rattle.cm_text.proofs.search.next_far_of.Goals as goal

pub returns : goal.returns
returns g c = record {
  next = c.next_of.ensures.next
      ∙ next-from g.K.ByteKind.passes c.args.bytes.now c.args.from c.pass_by_32-at.result c.pass_by_32-at.ensures.low c.pass_by_32-at.ensures.within c.pass_by_32-at.ensures.none;
}
