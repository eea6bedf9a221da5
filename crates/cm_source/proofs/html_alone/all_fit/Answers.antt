use Rattle.std.proofs.Common.{◌≡◌, ◌==◌, ◌&&◌, Some, None, ap, sym, ◌∙◌}
use Rattle.std.specs.List.{position}
use Rattle.std.proofs.Math.Bool.{and-true}
use Rattle.cm_scan.specs.blocks.HtmlKinds.{kind_of}
use Rattle.cm_source.specs.Spelling.{ended_lines}
use Rattle.cm_source.specs.steps.HtmlLines.{all_fit}
use Rattle.cm_source.proofs.lemmas.spelling.NoLineFeeds.{no-feed, ended-nothing, ended-rest, cut-ascii, cut-first}
use Rattle.cm_source.proofs.lemmas.refusals.HtmlAlone.{fit-first}
use Rattle.cm_source.proofs.html_alone.all_fit.Goals as goal

pub cut_at-requires-clause-ascii : goal.cut_at-requires-clause-ascii
cut_at-requires-clause-ascii c =
    let found : position (λ b. b == 10) c.loop-at.rest.now ≡ Some c.in-Some.at = cc in
    cut-ascii c.loop-at.rest.now c.in-Some.at found

pub returns-then-not-fits : goal.returns-then-not-fits
returns-then-not-fits c =
    let found : position (λ b. b == 10) c.loop-at.rest.now ≡ Some c.in-Some.at = cc in
    let rest = c.loop-at.rest.now in
    let line = c.cut_at.result.0.now in
    let beyond = c.cut_at.result.1.now in
    let is = cut-first rest line beyond c.in-Some.at found c.cut_at.ensures.before c.cut_at.ensures.after in
    sym (fit-first (kind_of c.args.kind) rest line beyond c.fits.result c.is_empty.result is c.is_empty.ensures c.fits.ensures ∙ ap (λ v. v && all_fit (kind_of c.args.kind) (ended_lines beyond)) c.if-not-fits.true)
    ∙ c.loop-at.invariant.1

pub loop-at-preserved : goal.loop-at-preserved
loop-at-preserved c =
    let found : position (λ b. b == 10) c.loop-at.rest.now ≡ Some c.in-Some.at = cc in
    let rest = c.loop-at.rest.now in
    let line = c.cut_at.result.0.now in
    let beyond = c.cut_at.result.1.now in
    let is = cut-first rest line beyond c.in-Some.at found c.cut_at.ensures.before c.cut_at.ensures.after in (
      c.cut_at.ensures.after_utf8,
      sym (fit-first (kind_of c.args.kind) rest line beyond c.fits.result c.is_empty.result is c.is_empty.ensures c.fits.ensures ∙ ap (λ v. v && all_fit (kind_of c.args.kind) (ended_lines beyond)) c.if-not-fits.false)
          ∙ c.loop-at.invariant.1,
    )

pub returns-then-is_empty : goal.returns-then-is_empty
returns-then-is_empty c =
    let empty = c.if-is_empty.true in
    empty ∙ sym (ap (all_fit (kind_of c.args.kind)) (ended-nothing c.loop-at.rest.now (sym c.is_empty-2.ensures ∙ empty))) ∙ c.loop-at.invariant.1

pub returns-else-is_empty : goal.returns-else-is_empty
returns-else-is_empty c =
    let rest = c.loop-at.rest.now in
    let none : position (λ b. b == 10) rest ≡ None = cc in
    c.fits-else-is_empty.ensures ∙ sym (and-true _) ∙ sym (ap (all_fit (kind_of c.args.kind)) (ended-rest rest (sym c.is_empty-2.ensures ∙ c.if-is_empty.false) (no-feed rest none))) ∙ c.loop-at.invariant.1
