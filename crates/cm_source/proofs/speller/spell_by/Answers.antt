use Rattle.cm_source.specs.Refusals.{refusal_of}
use Rattle.cm_source.proofs.lemmas.refusals.RefusalLemmas.{no-reason}
use Rattle.cm_source.proofs.lemmas.DocumentsBack.{written_reads_back}
use Rattle.cm_source.proofs.speller.spell_by.Goals as goal

pub returns-clause-reads_back : goal.returns-clause-reads_back
returns-clause-reads_back c =
    written_reads_back c.args.rules c.args.blocks.now c.in_ok-spelling.field-0 (no-reason (refusal_of c.args.rules c.args.blocks.now) c.in_ok-spellable_by.ensures) c.in_ok-spelling.ensures
