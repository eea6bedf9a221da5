use Rattle.std.proofs.Common.{◌∙◌, subst}
use Rattle.std.proofs.lemmas.Result.{err_from_is_err_and}
use Rattle.cm_text.specs.Limits.{LimitsView}
use Rattle.cm_text.specs.Lines.{plain_lines_of, text_of}
use Rattle.cm_block.specs.Parser.{OutlineOf}
use Rattle.cm_tool.proofs.lemmas.ParserLemmas.{nothing_settled, no_fault, stands, end_told, has_ended, last_line_told, whole_taken, count_of, ended_of}
use Rattle.cm_tool.proofs.reading.parser.end_outline.Goals as goal

pub returns-in_err-end-clause-told : goal.returns-in_err-end-clause-told
returns-in_err-end-clause-told c =
    let p = err_from_is_err_and c.from_residual.result c.from_residual.ensures.1 in
    rw (p.1, p.2) (λ limits bytes g.
    end_told limits c.in_err-end.field-0.0 c.args.feed c.args.blocks bytes g
    (rw g.limit at (c.in_err-end.ensures.told g.sound bytes (count_of limits bytes) (stands limits _ _ bytes g))))

pub returns-in_err-hand_over-clause-told : goal.returns-in_err-hand_over-clause-told
returns-in_err-hand_over-clause-told c =
    let p = err_from_is_err_and c.from_residual-in_err-hand_over.result c.from_residual-in_err-hand_over.ensures.1 in
    let end = c.in_ok-end.ensures in
    rw (p.1, p.2) (λ limits bytes g.
    let ended = has_ended limits c.end.new.self bytes (end.limit ∙ g.limit) end.ended (no_fault _ _ end.answer) (end.stands g.sound bytes (count_of limits bytes) (stands limits _ _ bytes g)) in
    last_line_told limits c.in_err-hand_over.field-0.0 c.args.feed c.end.new.self c.args.blocks bytes g ended (c.in_err-hand_over.ensures.told (ended_of limits bytes) g.handed))

pub returns-clause-outline : goal.returns-clause-outline
returns-clause-outline c = λ limits bytes g.
    let end = c.in_ok-end.ensures in
    let ended = has_ended limits c.end.new.self bytes (end.limit ∙ g.limit) end.ended (no_fault _ _ end.answer) (end.stands g.sound bytes (count_of limits bytes) (stands limits _ _ bytes g)) in
    let both = whole_taken limits c.args.feed c.end.new.self c.args.blocks c.hand_over.new.blocks bytes g ended c.in_ok-hand_over.ensures.limits (c.in_ok-hand_over.ensures.handed (ended_of limits bytes) g.handed) in
    record {
      same = subst (λ (l : LimitsView). OutlineOf c.in_ok-outline.outline l.rules (plain_lines_of (text_of bytes))) (c.in_ok-hand_over.ensures.limits ∙ g.same_limits)
          (c.in_ok-outline.ensures.outline _ both.1);
      sound = nothing_settled limits c.args.feed c.args.blocks bytes g;
      left = both.0;
    }
