use Rattle.std.proofs.Common.{◌+◌, ◌≤◌, ◌∙◌, codes, length, sym, ap, arith}
use Rattle.cm_scan.specs.spans.Reach.{dash_reach}
use Rattle.cm_scan.proofs.lemmas.spans.ReachLemmas.{map_some, chosen_false, chosen_true, dash_found, dash_none}
use Rattle.cm_scan.specs.spans.RawHtml.{after_comment}
use Rattle.cm_scan.proofs.lemmas.spans.RawHtmlByFirstBytes.{comment-refused, comment-short, comment-long, comment-open, comment-strict}
use Rattle.cm_scan.proofs.inline_html.after_comment.Goals as goal

pub returns-then-older-clause-read : goal.returns-then-older-clause-read
returns-then-older-clause-read g c = comment-refused c.args.inside.now c.in-Some.rest c.in-Some.ensures.read ∙ ap (λ older. after_comment older c.args.inside.now) (sym c.if-older.true)

pub returns-else-older-clause-read : goal.returns-else-older-clause-read
returns-else-older-clause-read g c = comment-short c.args.inside.now c.in-Some.rest c.in-Some.ensures.read ∙ ap (λ older. after_comment older c.args.inside.now) (sym c.if-older.false)

pub returns-then-not-older-clause-read : goal.returns-then-not-older-clause-read
returns-then-not-older-clause-read g c =
    c.after_end.ensures.read ∙ comment-long c.args.inside.now c.in_default.ensures.read ∙ ap (λ older. after_comment older c.args.inside.now) (sym c.if-not-older.true)

pub returns-in_err-after_end-clause-read : goal.returns-in_err-after_end-clause-read
returns-in_err-after_end-clause-read g c =
    c.from_residual.ensures ∙ comment-open c.args.inside.now c.in_default.ensures.read c.in_err-after_end.ensures.read
    ∙ ap (λ older. after_comment older c.args.inside.now) (sym c.if-not-older.false)

pub returns-clause-read : goal.returns-clause-read
returns-clause-read g c =
    c.after_front.ensures.read ∙ comment-strict c.args.inside.now c.in_default.ensures.read c.in_ok-after_end.field-0 c.in_ok-after_end.ensures.read
    ∙ ap (λ older. after_comment older c.args.inside.now) (sym c.if-not-older.false)

pub returns-then-not-older-clause-some : goal.returns-then-not-older-clause-some
returns-then-not-older-clause-some g c = map_some c.after_end.result _ _ c.after_end.ensures.some (λ rest h. omega (arith, h, c.short_end.ensures.looks))

pub returns-then-not-older-clause-none : goal.returns-then-not-older-clause-none
returns-then-not-older-clause-none g c = λ none.
    omega (arith, c.after_end.ensures.looks, c.short_end.ensures.looks, chosen_false c.args.older (dash_reach c.args.inside.now) (length c.args.inside.now) c.if-not-older.true)

pub returns-in_err-after_end-clause-none : goal.returns-in_err-after_end-clause-none
returns-in_err-after_end-clause-none g c = λ none.
    omega (arith, c.after_end-2.ensures.looks, c.short_end.ensures.looks, chosen_true c.args.older (dash_reach c.args.inside.now) (length c.args.inside.now) c.if-not-older.false, dash_none c.args.inside.now c.in_err-after_end.ensures.read)

pub returns-clause-some : goal.returns-clause-some
returns-clause-some g c = map_some c.after_front.result _ _ c.after_front.ensures.shorter (λ rest h. omega (arith, h, c.after_front.ensures.looks, c.in_ok-after_end.ensures.some, c.short_end.ensures.looks))

pub returns-clause-none : goal.returns-clause-none
returns-clause-none g c = λ none.
    omega (arith, c.after_front.ensures.looks, c.in_ok-after_end.ensures.some, c.short_end.ensures.looks, chosen_true c.args.older (dash_reach c.args.inside.now) (length c.args.inside.now) c.if-not-older.false, dash_found c.args.inside.now c.in_ok-after_end.field-0 c.in_ok-after_end.ensures.read)
