use Rattle.std.proofs.Common.{◌+◌, List, Option, Some, None, map, drop, refl, sym, ap, ◌∙◌}
use Rattle.std.proofs.lemmas.List.{take_rest}
use Rattle.cm_tree.specs.declared.tree.Inline.{Inline}
use Rattle.cm_scan.specs.Words.{◌<|>◌}
use Rattle.cm_source.specs.declared.why.Why.{Why}
use Rattle.cm_source.specs.Answers.{ok_unless}
use Rattle.cm_source.specs.InlineRefusals.{first_face, further_in, Judged, judged, refused, emphasis_reasons, refusal_of_all}
use Rattle.cm_source.specs.steps.InlineFaces.{seen, place_of}
use Rattle.cm_source.proofs.lemmas.refusals.RefusalLemmas.{stops, goes-on, no-reason, told-error, from-next, from-end}
use Rattle.cm_tree.proofs.lemmas.InlineFolds as inline_fold
use Rattle.cm_source.specs.InlineRefusals as refusals
use Rattle.cm_source.proofs.inline_refusals.+inlines.Goals as goal

pub check_inlines-loop-at-init : goal.check_inlines-loop-at-init
check_inlines-loop-at-init t c = refl

pub check_inlines-loop-at-preserved : goal.check_inlines-loop-at-preserved
check_inlines-loop-at-preserved t c =
    let rules = c.args.rules in
    let all = c.args.inlines.now in
    let place = place_of c.loop-at.place in
    let before = seen c.loop-at.before in
    let next = c.index-inlines-at.result in
    let rest = drop (c.loop-at.at + 1) all in
    let after = ap (λ l. first_face (map (judged rules) l)) (take_rest all (c.loop-at.at + 1)) in
    let fine = no-reason _ (c.in_ok-check_inline.ensures ∙ ap (λ a. ok_unless ((judged rules next).refusal place before a)) after) in
    let left : List Inline → Option Why = λ l. refusal_of_all place before (map (judged rules) l) in
    c.loop-at.invariant ∙ from-next left all c.loop-at.at next c.loop-at-test.true c.index-inlines-at.is
    ∙ ap (λ r. r <|> refusal_of_all (further_in place) (Some (judged rules next).face) (map (judged rules) rest)) fine
    ∙ ap (λ p. refusal_of_all p (Some (judged rules next).face) (map (judged rules) rest)) (sym c.further-place.ensures)
    ∙ ap (λ f. refusal_of_all (place_of c.further-place.result) (Some f) (map (judged rules) rest)) (sym (c.face_of.ensures rules))

pub check_inlines-returns : goal.check_inlines-returns
check_inlines-returns t c =
    let rules = c.args.rules in
    let left : List Inline → Option Why = λ l. refusal_of_all (place_of c.loop-at.place) (seen c.loop-at.before) (map (judged rules) l) in
    sym (ap ok_unless (c.loop-at.invariant ∙ from-end left c.args.inlines.now c.loop-at.at c.loop-at-test.false))

pub check_inlines-returns-in_err-check_inline : goal.check_inlines-returns-in_err-check_inline
check_inlines-returns-in_err-check_inline t c =
    let rules = c.args.rules in
    let all = c.args.inlines.now in
    let place = place_of c.loop-at.place in
    let before = seen c.loop-at.before in
    let next = c.index-inlines-at.result in
    let rest = drop (c.loop-at.at + 1) all in
    let after = ap (λ l. first_face (map (judged rules) l)) (take_rest all (c.loop-at.at + 1)) in
    let why = c.in_err-check_inline.ensures ∙ ap (λ a. ok_unless ((judged rules next).refusal place before a)) after in
    let left : List Inline → Option Why = λ l. refusal_of_all place before (map (judged rules) l) in
    told-error c.from_residual.result c.in_err-check_inline.field-0.0 c.from_residual.ensures.1
    ∙ stops _ (refusal_of_all (further_in place) (Some (judged rules next).face) (map (judged rules) rest)) _ why
    ∙ sym (ap ok_unless (c.loop-at.invariant ∙ from-next left all c.loop-at.at next c.loop-at-test.true c.index-inlines-at.is))

pub check_between-returns-in_err-check_emphasis : goal.check_between-returns-in_err-check_emphasis
check_between-returns-in_err-check_emphasis t c =
    told-error c.from_residual.result c.in_err-check_emphasis.field-0.0 c.from_residual.ensures.1
    ∙ stops _ _ _ (c.in_err-check_emphasis.ensures ∙ ap (λ a. ok_unless (refused (emphasis_reasons c.args.rules (map (judged c.args.rules) c.args.content.now) (seen c.args.before) a))) (c.first_face.ensures c.args.rules))

pub check_between-returns-in_err-check_strike : goal.check_between-returns-in_err-check_strike
check_between-returns-in_err-check_strike t c =
    told-error c.from_residual-in_err-check_strike.result c.in_err-check_strike.field-0.0 c.from_residual-in_err-check_strike.ensures.1
    ∙ stops _ _ _ c.in_err-check_strike.ensures
    ∙ goes-on _ _ (c.in_ok-check_emphasis.ensures ∙ ap (λ a. ok_unless (refused (emphasis_reasons c.args.rules (map (judged c.args.rules) c.args.content.now) (seen c.args.before) a))) (c.first_face.ensures c.args.rules))

pub check_between-returns : goal.check_between-returns
check_between-returns t c =
    let content = map (judged c.args.rules) c.args.content.now in
    c.check_inlines.ensures ∙ ap (λ p. ok_unless (refusal_of_all p None content)) c.further.ensures ∙ goes-on _ _ c.in_ok-check_strike.ensures
    ∙ goes-on _ _ (c.in_ok-check_emphasis.ensures ∙ ap (λ a. ok_unless (refused (emphasis_reasons c.args.rules content (seen c.args.before) a))) (c.first_face.ensures c.args.rules))

pub check_link-returns : goal.check_link-returns
check_link-returns t c =
    let content = map (judged c.args.rules) c.args.content.now in
    c.check_inlines.ensures ∙ ap (λ p. ok_unless (refusal_of_all p None content)) c.inside_link.ensures ∙ goes-on _ _ c.in_ok-check_target.ensures

pub check_link-returns-in_err-check_target : goal.check_link-returns-in_err-check_target
check_link-returns-in_err-check_target t c =
    told-error c.from_residual.result c.in_err-check_target.field-0.0 c.from_residual.ensures.1 ∙ stops _ _ _ c.in_err-check_target.ensures

pub check_inline-returns-in-Soft : goal.check_inline-returns-in-Soft
check_inline-returns-in-Soft t c =
    let rules = c.args.rules in
    c.check_break.ensures rules
    ∙ ap (λ (j : Judged). ok_unless (j.refusal (place_of c.args.place) (seen c.args.before) (first_face (map (judged rules) c.args.rest.now)))) (sym (ap (judged rules) c.in-Soft.is ∙ (inline_fold.soft (refusals.inline_step rules))))

pub check_inline-returns-in-Hard : goal.check_inline-returns-in-Hard
check_inline-returns-in-Hard t c =
    let rules = c.args.rules in
    c.check_break-in-Hard.ensures rules
    ∙ ap (λ (j : Judged). ok_unless (j.refusal (place_of c.args.place) (seen c.args.before) (first_face (map (judged rules) c.args.rest.now)))) (sym (ap (judged rules) c.in-Hard.is ∙ (inline_fold.hard (refusals.inline_step rules))))
