use Rattle.cm_source.specs.Inlines.{spelled_content}
use Rattle.cm_source.proofs.lemmas.spelling.WrittenLineLemmas.{then-ok, writes-content}
use Rattle.cm_source.proofs.blocks.spell_paragraph.Goals as goal

pub returns : goal.returns
returns c =
    then-ok c.end_line.result (writes-content c.args.source.now c.begin_line.new.self c.spell_inlines.new.source c.end_line.new.self (spelled_content c.args.content.now) c.in_ok-begin_line.ensures.begins c.in_ok-spell_inlines.ensures) c.end_line.ensures
