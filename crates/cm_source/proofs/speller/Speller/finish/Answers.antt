use Rattle.cm_source.proofs.lemmas.DocumentsBack.{written_reads_back}
use Rattle.cm_source.proofs.speller.Speller.finish.Goals as goal

pub returns-clause-spelled : goal.returns-clause-spelled
returns-clause-spelled c = λ rules blocks stands. (stands.spellable, stands.spelled.stands.0)

pub returns-clause-reads_back : goal.returns-clause-reads_back
returns-clause-reads_back c = λ rules blocks stands. written_reads_back rules blocks c.args.self.source.text stands.spellable stands.spelled.stands.0
