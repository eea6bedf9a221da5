use Rattle.cm_text.proofs.lemmas.ViewLemmas.{strip_line_some}
use Rattle.cm_block.proofs.counted_line.items.past_spaces.Goals as goal

pub returns-clause-line : goal.returns-clause-line
returns-clause-line c =
    let line = c.args.line.now in
    strip_line_some c.args.count line.column line.spaces line.rest.now line.lazy c.requires
