use Rattle.std.proofs.Common.{◌≡◌, [], ◌∷◌, ◌++◌, Some, None, take, drop, ◌+◌, ◌==◌, refl, sym, ap, subst, ◌∙◌, append_assoc, append-nil}
use Rattle.std.specs.List.{position}
use Rattle.cm_source.specs.Spelling.{ended_lines}
use Rattle.cm_source.specs.steps.WrittenLines.{Writes}
use Rattle.cm_source.proofs.lemmas.spelling.NoLineFeeds.{has_feed, feed-at, no-feed, ended-first, ended-nothing, ended-rest, cut-ascii}
use Rattle.cm_source.proofs.lemmas.spelling.WrittenLineLemmas.{then-ok, writes-then, writes-nothing}
use Rattle.cm_source.proofs.source_lines.SourceLines.push_ended_lines.Goals as goal

pub loop-at-init : goal.loop-at-init
loop-at-init c = (c.utf8.text, [], refl, writes-nothing c.args.self.now)

pub cut_at-requires-clause-ascii : goal.cut_at-requires-clause-ascii
cut_at-requires-clause-ascii c =
    let found : position (λ b. b == 10) c.loop-at.rest.now ≡ Some c.in-Some.at = cc in
    cut-ascii c.loop-at.rest.now c.in-Some.at found

pub push_line-requires : goal.push_line-requires
push_line-requires c =
    let found : position (λ b. b == 10) c.loop-at.rest.now ≡ Some c.in-Some.at = cc in
    ap has_feed c.cut_at.ensures.before ∙ (feed-at c.loop-at.rest.now c.in-Some.at found).0

pub loop-at-preserved : goal.loop-at-preserved
loop-at-preserved c =
    let found : position (λ b. b == 10) c.loop-at.rest.now ≡ Some c.in-Some.at = cc in
    let rest = c.loop-at.rest.now in
    let line = take c.in-Some.at rest in
    let beyond = drop (c.in-Some.at + 1) rest in
    let done = c.loop-at.invariant.1 in
    let at = feed-at rest c.in-Some.at found in (
      c.cut_at.ensures.after_utf8,
      done ++ line ∷ [],
      c.loop-at.invariant.2 ∙ ap (λ t. done ++ t) (ap ended_lines at.1 ∙ ended-first line beyond at.0) ∙ sym (append_assoc done (line ∷ []) (ended_lines beyond)) ∙ ap (λ t. (done ++ line ∷ []) ++ ended_lines t) (sym c.cut_at.ensures.after),
      writes-then c.args.self.now c.loop-at.self c.push_line.new.self done (line ∷ []) c.loop-at.invariant.3 (subst (λ t. Writes c.loop-at.self c.push_line.new.self (t ∷ [])) c.cut_at.ensures.before c.in_ok-push_line.ensures),
    )

pub push_line-requires-2 : goal.push_line-requires-2
push_line-requires-2 c =
    let none : position (λ b. b == 10) c.loop-at.rest.now ≡ None = cc in
    no-feed c.loop-at.rest.now none

pub returns-then-is_empty : goal.returns-then-is_empty
returns-then-is_empty c =
    let inv = c.loop-at.invariant in
    let nothing = ap (λ t. inv.1 ++ t) (ended-nothing c.loop-at.rest.now (sym c.is_empty.ensures ∙ c.if-is_empty.true)) ∙ append-nil inv.1 in
    subst (Writes c.args.self.now c.loop-at.self) (sym (inv.2 ∙ nothing)) inv.3

pub returns : goal.returns
returns c =
    let inv = c.loop-at.invariant in
    let rest = c.loop-at.rest.now in
    let none : position (λ b. b == 10) rest ≡ None = cc in
    let last = ap (λ t. inv.1 ++ t) (ended-rest rest (sym c.is_empty.ensures ∙ c.if-is_empty.false) (no-feed rest none)) in
    let end = c.push_line-2.new.self in
    then-ok c.push_line-2.result (λ writes. subst (Writes c.args.self.now end) (sym (inv.2 ∙ last)) (writes-then c.args.self.now c.loop-at.self end inv.1 (rest ∷ []) inv.3 writes)) c.push_line-2.ensures
