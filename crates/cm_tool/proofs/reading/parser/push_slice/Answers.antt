use Rattle.std.proofs.Common.{◌∙◌, ◌++◌, ℕ, List, ap, sym, true≢false}
use Rattle.cm_text.specs.Answers.{answer_after}
use Rattle.cm_text.specs.Limits.{LimitsView}
use Rattle.std.proofs.lemmas.Result.{err_from_is_err_and}
use Rattle.cm_tool.specs.Parsing.{Goes}
use Rattle.cm_tool.proofs.lemmas.ParserLemmas.{no_fault, stands, push_goes, nothing_settled, text_told, line_told, count_of, ended_of}
use Rattle.cm_tool.proofs.reading.parser.push_slice.Goals as goal

pub returns-in_err-hand_over-clause-pushes : goal.returns-in_err-hand_over-clause-pushes
returns-in_err-hand_over-clause-pushes c =
    let p = err_from_is_err_and c.from_residual.result c.from_residual.ensures.1 in
    let pushed = c.push-pushed.ensures in
    rw (p.1, p.2) (record {
      goes = tt;
      settled = λ limits bytes g.
          line_told limits c.in_err-hand_over.field-0.0 c.push-pushed.new.self bytes c.args.piece.now (pushed.limit ∙ g.limit) pushed.ended
          (λ e. true≢false (sym (rw (pushed.answer ∙ ap answer_after e) at c.eq.ensures) ∙ c.if-eq.false))
          (pushed.stands g.sound bytes (count_of limits bytes) (stands limits _ _ bytes g))
          (rw g.same_limits at (c.in_err-hand_over.ensures.told (ended_of limits bytes) g.handed));
    })

pub returns-in_err-pushed-clause-pushes : goal.returns-in_err-pushed-clause-pushes
returns-in_err-pushed-clause-pushes c =
    let p = err_from_is_err_and c.from_residual-in_err-pushed.result c.from_residual-in_err-pushed.ensures.1 in
    let pushed = c.push-pushed.ensures in
    rw (p.1, p.2) (record {
      goes = tt;
      settled = λ limits bytes g.
          let was = pushed.stands g.sound bytes (count_of limits bytes) (stands limits _ _ bytes g) in
          text_told limits c.in_err-pushed.field-0.0 c.push-pushed.new.self c.hand_over.new.blocks bytes c.args.piece.now (pushed.limit ∙ g.limit) pushed.ended
          (λ e. true≢false (sym (rw (pushed.answer ∙ ap answer_after e) at c.eq.ensures) ∙ c.if-eq.false))
          was (c.in_ok-hand_over.ensures.limits ∙ g.same_limits) (c.in_ok-hand_over.ensures.handed (ended_of limits bytes) g.handed)
          (rw (c.in_err-pushed.was, g.limit) at (pushed.settled g.sound bytes (count_of limits bytes) (stands limits _ _ bytes g)));
    })

pub returns-clause-pushes : goal.returns-clause-pushes
returns-clause-pushes c =
    let pushed = c.push-pushed.ensures in
    let given : (limits : LimitsView) (bytes : List ℕ) → Goes limits c.args.feed.now c.args.blocks.now bytes → Goes limits c.hand_over.new.feed c.hand_over.new.blocks (bytes ++ c.args.piece.now) = λ limits bytes g.
    let was = pushed.stands g.sound bytes (count_of limits bytes) (stands limits _ _ bytes g) in
    push_goes limits c.args.feed.now c.push-pushed.new.self c.hand_over.new.feed c.args.blocks.now c.hand_over.new.blocks bytes c.args.piece.now g
    pushed.limit pushed.ended (no_fault _ _ (sym c.in_ok-pushed.was ∙ pushed.answer)) was
    c.in_ok-hand_over.ensures.ready (c.in_ok-hand_over.ensures.stands _ _ was) c.in_ok-hand_over.ensures.limits (c.in_ok-hand_over.ensures.handed (ended_of limits bytes) g.handed) in
    record {
      goes = given;
      settled = λ limits bytes g. nothing_settled limits _ _ _ (given limits bytes g);
    }
