use Rattle.cm_html.proofs.lemmas.WritingLemmas.{both}
use Rattle.cm_html.proofs.outgoing.Outgoing.add_both.Goals as goal

pub returns : goal.returns
returns g c = both _ _ _ c.args.second.now c.args.self.now c.add.new.self c.in_ok-add.ensures c.add-2.result c.add-2.new.self _ c.add-2.ensures
