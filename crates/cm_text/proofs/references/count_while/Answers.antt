use Rattle.std.proofs.Common.{length, length-drop, ap, arith}
use Rattle.std.proofs.lemmas.List.Sums.{prefix_len-le-length}
use Rattle.std.specs.List.{prefix_len}
use Rattle.cm_text.proofs.references.count_while.Goals as goal

pub returns-clause-count : goal.returns-clause-count
returns-clause-count g c = λ passes tells.
    let text = c.args.text.now in
    omega (arith, ap length (c.skip.ensures.skipped passes tells), length-drop (prefix_len passes text) text, prefix_len-le-length passes text, c.len.ensures, c.len-2.ensures)
