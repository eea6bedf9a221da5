use Rattle.std.proofs.Common.{◌∙◌, [], ◌∷◌, ◌++◌, ap, sym, arith, drop, length, subst, append_assoc}
use Rattle.std.proofs.lemmas.Result.{err_from_is_err_and}
use Rattle.cm_text.specs.Views.{seen_view}
use Rattle.cm_block.specs.Parser.{HasTaken, TellsDepth}
use Rattle.cm_tool.proofs.lemmas.ParserLemmas.{taken_told}
use Rattle.cm_tool.proofs.lemmas.PassedLemmas.{all_handed, all_passed, all_stands, one_passed, hands_then}
use Rattle.cm_tool.proofs.reading.parser.hand_over.Goals as goal

pub loop-feed-preserved : goal.loop-feed-preserved
loop-feed-preserved c =
    let i = c.loop-feed.invariant in
    let text = hands_then c.args.feed.now c.loop-feed.feed c.hand_over_text.new.feed c.args.blocks.now c.loop-feed.blocks c.hand_over_text.new.blocks i.handed c.in_ok-hand_over_text.ensures.handed in
    let front = text.0 in
    let first = c.in-Some.ensures.line in
    let line = seen_view c.in-Some.line in
    record {
      limits = c.in_ok-line_view.ensures.limits ∙ c.in_ok-hand_over_text.ensures.limits ∙ i.limits;
      handed = (
        front ++ line ∷ [],
        one_passed c.args.feed.now c.hand_over_text.new.feed c.pass_line.new.self front line text.1 first c.pass_line.ensures.rest (c.pass_line.ensures.stands (omega (arith, ap length first))),
        λ lines h. subst (HasTaken c.line_view.new.self) (append_assoc lines front (line ∷ [])) (c.in_ok-line_view.ensures.stands (lines ++ front) (text.2 lines h)),
      );
    }

pub returns-in_err-line_view-clause-told : goal.returns-in_err-line_view-clause-told
returns-in_err-line_view-clause-told c =
    let p = err_from_is_err_and c.from_residual-in_err-line_view.result c.from_residual-in_err-line_view.ensures.1 in
    let i = c.loop-feed.invariant in
    let text = hands_then c.args.feed.now c.loop-feed.feed c.hand_over_text.new.feed c.args.blocks.now c.loop-feed.blocks c.hand_over_text.new.blocks i.handed c.in_ok-hand_over_text.ensures.handed in
    rw (p.1, p.2) (λ lines h are. taken_told c.in_err-line_view.field-0.0 _ _ lines text.0 (drop 1 c.hand_over_text.new.feed.cut.ended) _ (seen_view c.in-Some.line) (c.in_ok-hand_over_text.ensures.limits ∙ i.limits)
    (ap (λ t. text.0 ++ t) (sym c.in-Some.ensures.line) ∙ text.1.parts) (c.in_err-line_view.ensures.told (lines ++ text.0) (text.2 lines h)) are)

pub returns-in_err-hand_over_text-clause-told : goal.returns-in_err-hand_over_text-clause-told
returns-in_err-hand_over_text-clause-told c =
    let p = err_from_is_err_and c.from_residual.result c.from_residual.ensures.1 in
    rw (p.1, p.2) (λ lines h are.
    subst (λ fault. TellsDepth fault c.args.blocks.now.limits (lines ++ c.args.feed.now.cut.ended)) (sym c.in_err-hand_over_text.ensures.memory) tt)

pub returns-in_default-clause-ready : goal.returns-in_default-clause-ready
returns-in_default-clause-ready c =
    let hands = hands_then c.args.feed.now c.loop-feed.feed c.hand_over_text.new.feed c.args.blocks.now c.loop-feed.blocks c.hand_over_text.new.blocks c.loop-feed.invariant.handed c.in_ok-hand_over_text.ensures.handed in
    all_passed c.args.feed.now c.hand_over_text.new.feed c.args.blocks.now c.hand_over_text.new.blocks hands c.in_default.ensures.none

pub returns-in_default-clause-stands : goal.returns-in_default-clause-stands
returns-in_default-clause-stands c =
    let hands = hands_then c.args.feed.now c.loop-feed.feed c.hand_over_text.new.feed c.args.blocks.now c.loop-feed.blocks c.hand_over_text.new.blocks c.loop-feed.invariant.handed c.in_ok-hand_over_text.ensures.handed in
    all_stands c.args.feed.now c.hand_over_text.new.feed c.args.blocks.now c.hand_over_text.new.blocks hands c.in_default.ensures.none

pub returns-in_default-clause-handed : goal.returns-in_default-clause-handed
returns-in_default-clause-handed c =
    let hands = hands_then c.args.feed.now c.loop-feed.feed c.hand_over_text.new.feed c.args.blocks.now c.loop-feed.blocks c.hand_over_text.new.blocks c.loop-feed.invariant.handed c.in_ok-hand_over_text.ensures.handed in
    all_handed c.args.feed.now c.hand_over_text.new.feed c.args.blocks.now c.hand_over_text.new.blocks hands c.in_default.ensures.none
