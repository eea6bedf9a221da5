use Rattle.std.proofs.Common.{◌≡◌, IfOk, string_bytes, subst}
use Rattle.cm_scan.specs.Documents.{tree_of}
use Rattle.cm_source.proofs.speller.spell.Goals as goal

pub returns-clause-reads_back : goal.returns-clause-reads_back
returns-clause-reads_back c = subst (λ rules. IfOk c.spell_by.result (λ source. tree_of rules (string_bytes source) ≡ c.args.blocks.now)) c.profile.ensures c.spell_by.ensures.reads_back
