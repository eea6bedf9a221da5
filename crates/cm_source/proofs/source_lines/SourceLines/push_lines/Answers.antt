use Rattle.std.proofs.Common.{◌≡◌, [], ◌∷◌, ◌++◌, Some, None, take, drop, ◌+◌, ◌==◌, refl, sym, ap, subst, ◌∙◌, append_assoc}
use Rattle.std.specs.List.{position}
use Rattle.cm_source.specs.steps.WrittenLines.{Lays}
use Rattle.cm_source.proofs.lemmas.spelling.NoLineFeeds.{has_feed, feed-at, no-feed, cut-ascii}
use Rattle.cm_source.proofs.lemmas.spelling.WrittenLineLemmas.{then-ok, lays-then, lays-nothing}
use Rattle.cm_source.proofs.source_lines.SourceLines.push_lines.Goals as goal

pub loop-at-init : goal.loop-at-init
loop-at-init c = (c.utf8.text, [], refl, lays-nothing c.args.self.now)

pub cut_at-requires-clause-ascii : goal.cut_at-requires-clause-ascii
cut_at-requires-clause-ascii c =
    let found : position (λ b. b == 10) c.loop-at.rest.now ≡ Some c.in-Some.at = cc in
    cut-ascii c.loop-at.rest.now c.in-Some.at found

pub push-requires : goal.push-requires
push-requires c =
    let found : position (λ b. b == 10) c.loop-at.rest.now ≡ Some c.in-Some.at = cc in
    ap has_feed c.cut_at.ensures.before ∙ (feed-at c.loop-at.rest.now c.in-Some.at found).0

pub loop-at-preserved : goal.loop-at-preserved
loop-at-preserved c =
    let found : position (λ b. b == 10) c.loop-at.rest.now ≡ Some c.in-Some.at = cc in
    let rest = c.loop-at.rest.now in
    let line = take c.in-Some.at rest in
    let start = c.args.self.now in
    let done = c.loop-at.invariant.1 in
    let at = feed-at rest c.in-Some.at found in (
      c.cut_at.ensures.after_utf8,
      done ++ (line ++ 10 ∷ []),
      c.loop-at.invariant.2 ∙ ap (λ t. done ++ t) (at.1 ∙ sym (append_assoc line (10 ∷ []) (drop (c.in-Some.at + 1) rest))) ∙ sym (append_assoc done (line ++ 10 ∷ []) (drop (c.in-Some.at + 1) rest))
          ∙ ap (λ t. (done ++ (line ++ 10 ∷ [])) ++ t) (sym c.cut_at.ensures.after),
      lays-then start c.loop-at.self c.break_line.new.self done (line ++ 10 ∷ []) c.loop-at.invariant.3
          (lays-then c.loop-at.self c.push.new.self c.break_line.new.self line (10 ∷ []) (subst (Lays c.loop-at.self c.push.new.self) c.cut_at.ensures.before c.in_ok-push.ensures) c.in_ok-break_line.ensures),
    )

pub push-requires-2 : goal.push-requires-2
push-requires-2 c =
    let none : position (λ b. b == 10) c.loop-at.rest.now ≡ None = cc in
    no-feed c.loop-at.rest.now none

pub returns : goal.returns
returns c =
    let start = c.args.self.now in
    let done = c.loop-at.invariant.1 in
    then-ok c.push-2.result (λ lays. subst (Lays start c.push-2.new.self) (sym c.loop-at.invariant.2) (lays-then start c.loop-at.self c.push-2.new.self done c.loop-at.rest.now c.loop-at.invariant.3 lays)) c.push-2.ensures
