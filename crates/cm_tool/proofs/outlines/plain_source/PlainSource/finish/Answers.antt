use Rattle.cm_tool.proofs.lemmas.PlainSourceLemmas.{refused_for}
use Rattle.cm_tool.proofs.outlines.plain_source.PlainSource.finish.Goals as goal

pub returns-in-Some : goal.returns-in-Some
returns-in-Some c = λ rules blocks takes. refused_for c.args.self.refused c.args.self.speller rules blocks c.in-Some.why c.in-Some.is takes
