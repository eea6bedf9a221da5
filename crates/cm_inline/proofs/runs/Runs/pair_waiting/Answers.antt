use Rattle.cm_inline.proofs.lemmas.Words.{◌≡◌, ◌+◌, ◌<◌, Err, List, length, drop, get_or, replicate, refl, sym, ap, subst, ◌∙◌, arith, get_or_read, InlinesTooDeep, Item, Delimiters, passed, HeldRun, Runs}
use Rattle.cm_inline.specs.Closers.{all_kinds}
use Rattle.cm_inline.specs.steps.Depths.{items_depth}
use Rattle.cm_inline.specs.steps.Runs.{run_of}
use Rattle.cm_inline.specs.steps.pairing.ClosingRuns.{RunComes, PassGoesOn}
use Rattle.cm_inline.specs.steps.pairing.Parts.{Part}
use Rattle.cm_inline.specs.steps.pairing.States.{IsFresh, RunSteps, state_of}
use Rattle.cm_inline.proofs.lemmas.DeeperLemmas.{same-fault}
use Rattle.cm_inline.proofs.lemmas.StateLemmas.{from-zero}
use Rattle.cm_inline.proofs.lemmas.PassLoopLemmas.{Passing, Reaching, cleared, held_by, is-cleared, passing-first, reaching-first, waits-at, can-step, passing-step, reaching-step, reaching-deep, passes-all}
use Rattle.cm_inline.proofs.runs.Runs.pair_waiting.Goals as goal

pub loop-at-init : goal.loop-at-init
loop-at-init c =
    let old = c.args.self.now in
    let from = c.args.from in
    let now = is-cleared old c.clear.new.self c.clear.ensures.same.0 c.clear.ensures.entries c.clear.ensures.same.1 in
    let none = sym c.first-bottoms.ensures in
    record {
      passing = subst (λ (r : Runs). Passing old r (replicate all_kinds c.first-bottoms.result) from from) (sym now) (subst (λ b. Passing old (cleared old) (replicate all_kinds b) from from) none (passing-first old from c.requires.some c.requires.pass));
      reaching = λ front inside a. subst (λ (r : Runs). Reaching old r (replicate all_kinds c.first-bottoms.result) inside (drop from old.waiting.items)) (sym now)
          (subst (λ b. Reaching old (cleared old) (replicate all_kinds b) inside (drop from old.waiting.items)) none (reaching-first old from front inside a));
    }

pub pass-requires-clause-ready : goal.pass-requires-clause-ready
pass-requires-clause-ready c =
    let p = c.loop-at.invariant.passing in
    let old = c.args.self.now in
    let more : c.loop-at.at < length c.loop-at.self.waiting.items = omega (arith, c.loop-at-test.true, c.len-at-end.ensures, ap length p.waiting) in
    let is : c.index-number.result.now ≡ get_or old.waiting.items c.loop-at.at 0 =
    get_or_read c.loop-at.self.waiting.items c.loop-at.at c.index-number.result.now more c.index-number.ensures 0 ∙ ap (λ l. get_or l c.loop-at.at 0) p.waiting in
    let here = waits-at old c.loop-at.at c.index-number.result.now (omega (arith, more, ap length p.waiting)) is in
    (can-step old c.loop-at.self c.loop-at.bottoms c.args.from c.loop-at.at c.index-number.result.now c.requires.pass p here).ready

pub pass-requires-clause-some : goal.pass-requires-clause-some
pass-requires-clause-some c =
    let p = c.loop-at.invariant.passing in
    let old = c.args.self.now in
    let more : c.loop-at.at < length c.loop-at.self.waiting.items = omega (arith, c.loop-at-test.true, c.len-at-end.ensures, ap length p.waiting) in
    let is : c.index-number.result.now ≡ get_or old.waiting.items c.loop-at.at 0 =
    get_or_read c.loop-at.self.waiting.items c.loop-at.at c.index-number.result.now more c.index-number.ensures 0 ∙ ap (λ l. get_or l c.loop-at.at 0) p.waiting in
    let here = waits-at old c.loop-at.at c.index-number.result.now (omega (arith, more, ap length p.waiting)) is in
    omega (arith, (can-step old c.loop-at.self c.loop-at.bottoms c.args.from c.loop-at.at c.index-number.result.now c.requires.pass p here).some, ap (λ (r : HeldRun). r.run.left) c.run.ensures)

pub returns-in_err-pass-clause-deep : goal.returns-in_err-pass-clause-deep
returns-in_err-pass-clause-deep c = λ e front inside a.
    let p = c.loop-at.invariant.passing in
    let old = c.args.self.now in
    let more : c.loop-at.at < length c.loop-at.self.waiting.items = omega (arith, c.loop-at-test.true, c.len-at-end.ensures, ap length p.waiting) in
    let is : c.index-number.result.now ≡ get_or old.waiting.items c.loop-at.at 0 =
    get_or_read c.loop-at.self.waiting.items c.loop-at.at c.index-number.result.now more c.index-number.ensures 0 ∙ ap (λ l. get_or l c.loop-at.at 0) p.waiting in
    let here = waits-at old c.loop-at.at c.index-number.result.now (omega (arith, more, ap length p.waiting)) is in
    let told = same-fault c.from_residual.result c.in_err-pass.field-0.0 InlinesTooDeep c.from_residual.ensures.1 e in
    reaching-deep old c.loop-at.self c.loop-at.bottoms inside c.index-number.result.now c.args.limit (drop (c.loop-at.at + 1) old.waiting.items)
    (subst (Reaching old c.loop-at.self c.loop-at.bottoms inside) here (c.loop-at.invariant.reaching front inside a))
    (subst (λ (r : HeldRun). (parts : List Part) (had : List Item) → RunComes parts (state_of (held_by c.loop-at.self) c.loop-at.bottoms c.index-number.result.now) (run_of r.run) had → c.args.limit < items_depth (passed had (Delimiters (run_of r.run)))) c.run.ensures
    (c.in_err-pass.ensures.deep (ap Err told)))

pub loop-at-preserved : goal.loop-at-preserved
loop-at-preserved c =
    let p = c.loop-at.invariant.passing in
    let old = c.args.self.now in
    let more : c.loop-at.at < length c.loop-at.self.waiting.items = omega (arith, c.loop-at-test.true, c.len-at-end.ensures, ap length p.waiting) in
    let is : c.index-number.result.now ≡ get_or old.waiting.items c.loop-at.at 0 =
    get_or_read c.loop-at.self.waiting.items c.loop-at.at c.index-number.result.now more c.index-number.ensures 0 ∙ ap (λ l. get_or l c.loop-at.at 0) p.waiting in
    let here = waits-at old c.loop-at.at c.index-number.result.now (omega (arith, more, ap length p.waiting)) is in
    let n = c.index-number.result.now in
    let was = c.loop-at.self in
    let bs = c.loop-at.bottoms in
    let cs = c.pass.new.bottoms in
    let now : Runs = record was { list = c.pass.new.list; pairs = c.pass.new.pairs } in
    let s = subst (λ (r : HeldRun). RunSteps (held_by was) (held_by now) bs cs n (n + 1) (all_kinds + 1 + r.run.left)) c.run.ensures c.in_ok-pass.ensures.steps in
    let next = subst (λ (r : HeldRun). (parts : List Part) (had : List Item) → RunComes parts (state_of (held_by was) bs n) (run_of r.run) had → IsFresh was.list.runs n → PassGoesOn parts (state_of (held_by was) bs n) (run_of r.run) had (state_of (held_by now) cs (n + 1)) n) c.run.ensures
    c.in_ok-pass.ensures.next in
    record {
      passing = passing-step old was now bs cs c.args.from c.loop-at.at n refl p here s;
      reaching = λ front inside a. reaching-step old was now bs cs inside 0 n (drop (c.loop-at.at + 1) old.waiting.items) (subst (Reaching old was bs inside) here (c.loop-at.invariant.reaching front inside a)) next (s.grows 0 (omega arith) (from-zero was.list.entries)).1;
    }

pub returns-clause-passes : goal.returns-clause-passes
returns-clause-passes c = λ front inside a.
    passes-all c.args.self.now c.loop-at.self c.loop-at.bottoms c.args.from c.loop-at.at front inside c.requires.some (omega (arith, c.loop-at-test.false, c.len-at-end.ensures)) a c.loop-at.invariant.passing
    (c.loop-at.invariant.reaching front inside a) _ refl refl c.truncate.ensures.items
