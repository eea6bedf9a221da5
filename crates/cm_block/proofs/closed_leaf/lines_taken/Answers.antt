use Rattle.std.proofs.Common.{arith}
use Rattle.cm_block.proofs.lemmas.PutLemmas.{all_lines, some_lines}
use Rattle.cm_block.proofs.closed_leaf.lines_taken.Goals as goal

pub returns-then-end-text : goal.returns-then-end-text
returns-then-end-text c =
    all_lines c.args.text.now c.args.end c.args.feeds c.requires.some c.requires.feeds c.if-end-text.true

pub returns : goal.returns
returns c =
    some_lines c.args.text.now c.args.end c.args.feeds c.requires.some c.requires.feeds (omega (arith, c.requires.within, c.if-end-text.false))
