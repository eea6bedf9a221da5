use Rattle.cm_inline.proofs.lemmas.Words.{◌+◌, ◌-◌, ◌∙◌, length, length-drop, drop, refl, ap, subst, arith}
use Rattle.cm_scan.proofs.lemmas.spans.BacktickStrings.{found-at, nowhere, no-run-here, further}
use Rattle.cm_scan.proofs.lemmas.spans.BacktickRuns.{run-over}
use Rattle.cm_inline.specs.steps.Missing.{AreLast}
use Rattle.cm_inline.proofs.lemmas.MissingEndsLemmas.{none-beyond-last, some-beyond-last}
use Rattle.cm_inline.proofs.missing_ends.last_backticks.Goals as goal

pub overflow_add-start : goal.overflow_add-start
overflow_add-start g c =
    let text = c.of-text.result in
    let found = found-at text c.after.result c.loop-plain.at c.in-Some.plain c.after.ensures c.loop-plain.invariant.within c.in-Some.ensures.found in
    omega (arith, found.inside, ap length (c.of-text.ensures ∙ c.as_bytes.ensures.value))

pub loop-plain-smaller : goal.loop-plain-smaller
loop-plain-smaller g c =
    let text = c.of-text.result in
    let found = found-at text c.after.result c.loop-plain.at c.in-Some.plain c.after.ensures c.loop-plain.invariant.within c.in-Some.ensures.found in
    let more = further 0 text c.loop-plain.at c.loop-plain.at c.in-Some.plain (omega arith) found c.after_backticks-at.result c.after_backticks-at.ensures.end c.after_backticks-at.ensures.beyond in
    omega (arith, more, c.after_backticks-at.ensures.within)

pub loop-plain-preserved : goal.loop-plain-preserved
loop-plain-preserved g c =
    let text = c.of-text.result in
    let found = found-at text c.after.result c.loop-plain.at c.in-Some.plain c.after.ensures c.loop-plain.invariant.within c.in-Some.ensures.found in
    let more = further 0 text c.loop-plain.at c.loop-plain.at c.in-Some.plain (omega arith) found c.after_backticks-at.result c.after_backticks-at.ensures.end c.after_backticks-at.ensures.beyond in
    record {
      none = none-beyond-last c.loop-plain.last c.insert.new.self (c.after_backticks-at.result - (c.loop-plain.at + c.in-Some.plain)) c.after_backticks-at.result c.in_ok-insert.ensures.updates text c.loop-plain.at c.in-Some.plain found c.after_backticks-at.ensures.end c.after_backticks-at.ensures.beyond refl c.loop-plain.invariant.none;
      some = some-beyond-last c.loop-plain.last c.insert.new.self (c.after_backticks-at.result - (c.loop-plain.at + c.in-Some.plain)) c.after_backticks-at.result c.in_ok-insert.ensures.updates text c.loop-plain.at c.in-Some.plain found c.loop-plain.invariant.over c.after_backticks-at.ensures.end refl c.loop-plain.invariant.some;
      over = λ _ tick. run-over text (c.loop-plain.at + c.in-Some.plain) c.after_backticks-at.result c.after_backticks-at.ensures.end tick;
      within = c.after_backticks-at.ensures.within;
      looks = omega (arith, more, c.loop-plain.invariant.looks, c.in-Some.ensures.some, c.after_backticks-at.ensures.looks);
    }

pub returns : goal.returns
returns g c =
    let text = c.of-text.result in
    let at = c.loop-plain.at in
    record {
      last = subst (λ t. AreLast t c.loop-plain.last) (c.of-text.ensures ∙ c.as_bytes.ensures.value) (record {
        none = λ count. c.loop-plain.invariant.none count (no-run-here count (drop at text) (nowhere text c.after.result at c.after.ensures c.in_default.ensures.found));
        some = c.loop-plain.invariant.some;
      });
      looks = omega (arith, c.loop-plain.invariant.looks, c.loop-plain.invariant.within, c.find_byte.ensures.none c.in_default.is, ap length c.after.ensures, length-drop at text, ap length (c.of-text.ensures ∙ c.as_bytes.ensures.value));
    }
