use Rattle.cm_block.proofs.counted_line.readings.inside_quote.Goals as goal

pub returns : goal.returns
returns c = c.in_ok-view.ensures
