use Rattle.cm_inline.proofs.lemmas.Words.{◌<◌, ◌∷◌, [], length, refl, sym, ap, subst, ◌∙◌, arith, get_or-map, length-map, set, DelimiterRun, HeldRun}
use Rattle.cm_inline.specs.steps.Entries.{before_last, last_entry}
use Rattle.cm_inline.specs.steps.pairing.ClosingRuns.{PartAdded}
use Rattle.cm_inline.specs.steps.pairing.Parts.{PairedRun, no_run as no_paired_run}
use Rattle.cm_inline.specs.steps.pairing.States.{closed_at, held_before, no_run, run_at, state_of}
use Rattle.cm_inline.specs.steps.Runs.{run_of, runs_in, pair_in, paired_run}
use Rattle.cm_inline.proofs.lemmas.CloserLoopLemmas.{fresh-opened, last-written, put-closed}
use Rattle.cm_inline.proofs.lemmas.StateLemmas.{same-list, same-state, steps-longer, steps-put}
use Rattle.cm_inline.proofs.pairing.close.Goals as goal

pub returns-clause-last : goal.returns-clause-last
returns-clause-last c =
    let left = c.in_ok-left.ensures in
    let n = c.args.number in
    let there : n < length c.make_pairs.new.list.runs = omega (arith, c.requires.there, left.steps.same.long) in
    ap last_entry (last-written c.args.list.now c.make_pairs.new.list c.close.new.self n c.in_ok-left.left c.in_ok-from.from c.in_ok-to.to there c.requires.last left.last left.steps.ready.under left.own c.close.ensures.runs c.close.ensures.entries)
    ∙ ap (λ (r : DelimiterRun). record { place = n; run = record (run_of r) { left = c.in_ok-left.left } } ∷ []) (sym c.requires.held)

pub returns-clause-steps : goal.returns-clause-steps
returns-clause-steps c =
    let left = c.in_ok-left.ensures in
    let s = left.steps in
    let n = c.args.number in
    let old = held_before c.args.list.now c.args.pairs.now.items in
    let mid = held_before c.make_pairs.new.list c.make_pairs.new.pairs.items in
    let now = held_before c.close.new.self c.make_pairs.new.pairs.items in
    let x : HeldRun = closed_at c.in_ok-left.left c.in_ok-from.from c.in_ok-to.to (run_at mid.runs n) in
    let there : n < length mid.runs = omega (arith, c.requires.there, s.same.long) in
    let entries = ap before_last (last-written c.args.list.now c.make_pairs.new.list c.close.new.self n c.in_ok-left.left c.in_ok-from.from c.in_ok-to.to there c.requires.last left.last s.ready.under left.own c.close.ensures.runs c.close.ensures.entries) in
    steps-put old mid now c.args.bottoms.now c.make_pairs.new.bottoms n x s there c.close.ensures.runs refl entries c.close.ensures.looks refl refl
    (λ ch. omega (arith, ch.opened n, ap (λ (r : PairedRun). r.opened) (get_or-map paired_run mid.runs n no_run no_paired_run there), length-map mid.pairs pair_in))
    (omega (arith, c.in_ok-from.ensures, c.len.ensures, c.in_ok-to.ensures, c.len-2.ensures, steps-longer old mid c.args.bottoms.now c.make_pairs.new.bottoms n s)) (omega (arith, c.in_ok-to.ensures, c.len-2.ensures))

pub returns-clause-put : goal.returns-clause-put
returns-clause-put c = λ parts had comes fresh.
    let left = c.in_ok-left.ensures in
    let s = left.steps in
    let n = c.args.number in
    let bs = c.make_pairs.new.bottoms in
    let old = state_of (held_before c.args.list.now c.args.pairs.now.items) c.args.bottoms.now n in
    let mid = held_before c.make_pairs.new.list c.make_pairs.new.pairs.items in
    let now = held_before c.close.new.self c.make_pairs.new.pairs.items in
    let x : HeldRun = closed_at c.in_ok-left.left c.in_ok-from.from c.in_ok-to.to (run_at mid.runs n) in
    let there : n < length mid.runs = omega (arith, c.requires.there, s.same.long) in
    let entries = ap before_last (last-written c.args.list.now c.make_pairs.new.list c.close.new.self n c.in_ok-left.left c.in_ok-from.from c.in_ok-to.to there c.requires.last left.last s.ready.under left.own c.close.ensures.runs c.close.ensures.entries) in
    let same = same-state (state_of now bs n) (record (state_of mid bs n) { runs = runs_in (set mid.runs n x) }) (ap runs_in c.close.ensures.runs) refl (same-list _ _ entries c.close.ensures.looks refl) refl in
    subst (λ t. PartAdded parts old (run_of c.args.run) had t n c.in_ok-left.left) (sym same)
    (put-closed parts old (run_of c.args.run) had mid bs n c.in_ok-left.left x there (left.done parts had comes) (ap (λ (r : HeldRun). record (run_of r.run) { left = c.in_ok-left.left }) left.own ∙ ap (λ (r : DelimiterRun). record (run_of r) { left = c.in_ok-left.left }) (sym c.requires.held))
    (ap (λ (r : HeldRun). r.opened) left.own ∙ fresh-opened c.args.list.now.runs n c.requires.there fresh) (omega (arith, c.in_ok-from.ensures, c.len.ensures, length-map c.args.pairs.now.items pair_in)) (omega (arith, c.in_ok-to.ensures, c.len-2.ensures)))
