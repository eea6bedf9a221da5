use Rattle.std.proofs.lemmas.Result.{on_err_weaker}
use Rattle.cm_text.proofs.feed.copy_lines.Goals as goal

pub returns-then-is_err-clause-refused : goal.returns-then-is_err-clause-refused
returns-then-is_err-clause-refused c =
    let m = c.move_lines-moved in
    on_err_weaker m.result (λ some. record {
      gone = m.ensures.moves.0;
      left = m.new.buffer.cut.ended;
      went = m.ensures.moves.1;
      parts = m.ensures.moves.2;
      some = some;
      ended = c.new.ensures.ended;
      count = c.new.ensures.count;
    }) m.ensures.left
