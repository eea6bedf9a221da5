use Rattle.std.proofs.Common.{◌+◌, ◌<◌, ◌∙◌, length, length-drop, sym, ap, arith}
use Rattle.cm_scan.proofs.lemmas.spans.BacktickStrings.{Found, found-at, nowhere, further, past-run, at-run, no-run-left}
use Rattle.cm_scan.proofs.lemmas.spans.BacktickRuns.{run-last, run-some}
use Rattle.cm_scan.proofs.code_spans.next_backticks.Given.{Over}
use Rattle.cm_scan.proofs.code_spans.next_backticks.Goals.{In-Some, After-after_backticks-at}
use Rattle.cm_scan.proofs.code_spans.next_backticks.Goals as goal

-- the backtick that was found
found-here : (g : Over) (c : In-Some g) → Found c.args.text.now c.loop-plain.at c.in-Some.plain
found-here g c = found-at c.args.text.now c.after.result c.loop-plain.at c.in-Some.plain c.after.ensures c.loop-plain.invariant.within.1 c.in-Some.ensures.found

-- its string ends further on
further-here : (g : Over) (c : After-after_backticks-at g) → c.loop-plain.at < c.after_backticks-at.result
further-here g c =
    further c.args.count c.args.text.now c.args.from c.loop-plain.at c.in-Some.plain c.loop-plain.invariant.within.0
    (found-at c.args.text.now c.after.result c.loop-plain.at c.in-Some.plain c.after.ensures c.loop-plain.invariant.within.1 c.in-Some.ensures.found)
    c.after_backticks-at.result c.after_backticks-at.ensures.end c.after_backticks-at.ensures.beyond

pub returns-then-at-start-clause-read : goal.returns-then-at-start-clause-read
returns-then-at-start-clause-read g c =
    let text = c.args.text.now in
    let found = found-here g (goal.at.returns-then-at-start-clause-read g c).In-Some in
    at-run c.args.count text c.args.from c.loop-plain.at c.in-Some.plain c.loop-plain.invariant.within.0 found c.after_backticks-at.result c.after_backticks-at.ensures.end c.after_backticks-at.ensures.beyond c.if-at-start.true
    ∙ c.loop-plain.invariant.read

pub returns-then-at-start-clause-within : goal.returns-then-at-start-clause-within
returns-then-at-start-clause-within g c =
    let text = c.args.text.now in
    let found = found-here g (goal.at.returns-then-at-start-clause-within g c).In-Some in
    let more = run-some text c.loop-plain.at c.in-Some.plain found c.after_backticks-at.result c.after_backticks-at.ensures.end in
    (omega (arith, c.loop-plain.invariant.within.0), more, c.after_backticks-at.ensures.within)

pub returns-then-at-start-clause-backticks : goal.returns-then-at-start-clause-backticks
returns-then-at-start-clause-backticks g c =
    let text = c.args.text.now in
    let found = found-here g (goal.at.returns-then-at-start-clause-backticks g c).In-Some in
    let more = run-some text c.loop-plain.at c.in-Some.plain found c.after_backticks-at.result c.after_backticks-at.ensures.end in
    (found.tick, run-last text (c.loop-plain.at + c.in-Some.plain) c.after_backticks-at.result c.after_backticks-at.ensures.end more)

pub returns-then-at-start-clause-some : goal.returns-then-at-start-clause-some
returns-then-at-start-clause-some g c =
    let more = further-here g (goal.at.returns-then-at-start-clause-some g c).After-after_backticks-at in
    omega (arith, more, c.loop-plain.invariant.looks, c.in-Some.ensures.some, c.after_backticks-at.ensures.looks)

pub loop-plain-smaller : goal.loop-plain-smaller
loop-plain-smaller g c =
    let more = further-here g (goal.at.loop-plain-smaller g c).After-after_backticks-at in
    omega (arith, more, c.after_backticks-at.ensures.within)

pub loop-plain-preserved : goal.loop-plain-preserved
loop-plain-preserved g c =
    let text = c.args.text.now in
    let found = found-here g (goal.at.loop-plain-preserved g c).In-Some in
    let more = further-here g (goal.at.loop-plain-preserved g c).After-after_backticks-at in
    record {
      read = past-run c.args.count text c.args.from c.loop-plain.at c.in-Some.plain c.loop-plain.invariant.within.0 found c.after_backticks-at.result c.after_backticks-at.ensures.end c.after_backticks-at.ensures.beyond
          c.if-at-start.false ∙ c.loop-plain.invariant.read;
      within = (omega (arith, more, c.loop-plain.invariant.within.0), c.after_backticks-at.ensures.within);
      looks = omega (arith, more, c.loop-plain.invariant.looks, c.in-Some.ensures.some, c.after_backticks-at.ensures.looks);
    }

pub returns-clause-read : goal.returns-clause-read
returns-clause-read g c =
    let text = c.args.text.now in
    sym (no-run-left c.args.count text c.args.from c.loop-plain.at (nowhere text c.after.result c.loop-plain.at c.after.ensures c.in_default.ensures.found)) ∙ c.loop-plain.invariant.read

pub returns-clause-none : goal.returns-clause-none
returns-clause-none g c = λ none.
    omega (arith, c.loop-plain.invariant.looks, c.loop-plain.invariant.within.1, c.first_backtick.ensures.none c.in_default.is, ap length c.after.ensures, length-drop c.loop-plain.at c.args.text.now)

pub overflow_add-start : goal.overflow_add-start
overflow_add-start g c =
    let found = found-here g c in
    omega (arith, found.inside, c.len-len.ensures)

-- nothing is left
pub returns-then-at-len-clause-read : goal.returns-then-at-len-clause-read
returns-then-at-len-clause-read g c =
    let text = c.args.text.now in
    let at = c.after_backticks-at.result in
    let found = found-here g (goal.at.returns-then-at-len-clause-read g c).In-Some in
    let past = past-run c.args.count text c.args.from c.loop-plain.at c.in-Some.plain c.loop-plain.invariant.within.0 found at c.after_backticks-at.ensures.end c.after_backticks-at.ensures.beyond c.if-at-start.false in
    sym (no-run-left c.args.count text c.args.from at (λ k below. absurd (omega (arith, below, length-drop at text, c.if-at-len.true, c.len-len.ensures)))) ∙ past ∙ c.loop-plain.invariant.read

pub returns-then-at-len-clause-none : goal.returns-then-at-len-clause-none
returns-then-at-len-clause-none g c = λ none.
    let more = further-here g (goal.at.returns-then-at-len-clause-none g c).After-after_backticks-at in
    omega (arith, more, c.loop-plain.invariant.looks, c.in-Some.ensures.some, c.after_backticks-at.ensures.looks, c.after_backticks-at.ensures.within)
