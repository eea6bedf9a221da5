use Rattle.std.proofs.Common.{◌∙◌, ap}
use Rattle.cm_text.specs.Cut.{cut_of, without}
use Rattle.cm_text.proofs.lemmas.TextLineLemmas.{passed_more}
use Rattle.cm_text.proofs.unread.Unread.pass_lines.Goals as goal

pub loop-preserved : goal.loop-preserved
loop-preserved c = record {
  cut = c.pass_line.ensures.cut ∙ ap (without 1) c.loop.invariant.cut ∙ passed_more c.loop.counter (cut_of c.args.self.now);
  len = c.pass_line.ensures.len ∙ c.loop.invariant.len;
}
