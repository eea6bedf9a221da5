use Rattle.std.proofs.Common.{subst}
use Rattle.cm_html.specs.Writing.{WritesText}
use Rattle.cm_html.proofs.lemmas.WritingLemmas.{as_it_is}
use Rattle.cm_html.proofs.pages.Pages.write.Goals as goal

pub returns : goal.returns
returns g c = subst (λ t. WritesText c.send.result t (g.W.Sink.seen c.args.sink.now) (g.W.Sink.seen c.send.new.sink)) (as_it_is c.args.self.now) c.send.ensures
