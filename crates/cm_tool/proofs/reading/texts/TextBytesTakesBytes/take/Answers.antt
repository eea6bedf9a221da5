use Rattle.std.proofs.Common.{◌++◌, ap, subst, sym}
use Rattle.std.specs.Prelude.{option_map}
use Rattle.std.proofs.lemmas.Result.{err_from_is_err_and}
use Rattle.cm_text.specs.Faults.{settled_fault}
use Rattle.cm_text.proofs.lemmas.FeedLemmas.{goes}
use Rattle.cm_tool.specs.ToldFaults.{told}
use Rattle.cm_tool.specs.steps.Texts.{TextSoFar, HasGathered}
use Rattle.cm_tool.proofs.lemmas.TextLemmas.{feed_told, feed_goes, had_none}
use Rattle.cm_tool.proofs.reading.texts.TextBytesTakesBytes.take.Goals as goal

pub returns-in_err-push-clause-settled : goal.returns-in_err-push-clause-settled
returns-in_err-push-clause-settled c =
    let p = err_from_is_err_and c.from_residual-in_err-push.result c.from_residual-in_err-push.ensures.1 in
    let t = c.self.inside in
    let fault = c.in_err-push.field-0.0 in
    rw (p.1, p.2) (λ limits bytes stands.
    let s = subst (λ (t : TextSoFar). HasGathered limits t bytes) (sym c.self.view_is) stands in
    rw (← s.same, ← s.limit) (feed_told fault (settled_fault t.feed.limit (t.bytes.items ++ c.args.piece.now))
    (c.in_err-push.ensures.settled s.sound t.bytes.items 0 (feed_goes t.feed t.bytes.items c.self.invariant.0 c.self.invariant.1 s.sound))))

pub invariant_of-self-2 : goal.invariant_of-self-2
invariant_of-self-2 c =
    let t = c.self.inside in
    let bytes = t.bytes.items ++ c.args.piece.now in
    let pushed = c.push.ensures in (
      pushed.ended,
      λ none.
          let sound = had_none t.feed c.push.new.self pushed.failed none in
          rw c.in_ok-extend_from_slice.ensures.items (goes c.push.new.self bytes 0 none pushed.ended
          (pushed.stands sound t.bytes.items 0 (feed_goes t.feed t.bytes.items c.self.invariant.0 c.self.invariant.1 sound))),
    )

pub returns-clause-settled : goal.returns-clause-settled
returns-clause-settled c = λ limits bytes stands.
    let t = c.self.inside in
    let s = subst (λ (t : TextSoFar). HasGathered limits t bytes) (sym c.self.view_is) stands in
    rw (← s.same, ← s.limit) (ap (option_map told) (c.in_ok-push.ensures.settled s.sound t.bytes.items 0
    (feed_goes t.feed t.bytes.items c.self.invariant.0 c.self.invariant.1 s.sound)))
