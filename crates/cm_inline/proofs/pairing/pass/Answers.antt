use Rattle.cm_inline.proofs.lemmas.Words.{◌≡◌, inl, ◌+◌, ◌∷◌, refl, sym, ap, subst, ◌∙◌, arith, length-map, not-true, DelimiterRun}
use Rattle.cm_inline.specs.Closers.{all_kinds}
use Rattle.cm_inline.specs.steps.Entries.{Entry}
use Rattle.cm_inline.specs.steps.pairing.ClosingRuns.{RunComes, PassGoesOn, PartAdded}
use Rattle.cm_inline.specs.steps.pairing.States.{IsFresh, RunSteps, held, held_before, state_of}
use Rattle.cm_inline.specs.steps.Runs.{run_of, paired_run}
use Rattle.cm_inline.proofs.lemmas.ClosingLemmas.{put-other}
use Rattle.cm_inline.proofs.lemmas.CloserLoopLemmas.{entered-before, entered-held, removed-held, kept-held, top-is, next-rest, next-waits}
use Rattle.cm_inline.proofs.lemmas.NumberLemmas.{either-of}
use Rattle.cm_inline.proofs.lemmas.SlotLemmas.{at-last}
use Rattle.std.proofs.lemmas.Bool.{not-false}
use Rattle.cm_inline.proofs.lemmas.StateLemmas.{steps-none, steps-on, steps-push}
use Rattle.cm_inline.proofs.pairing.pass.Goals as goal

pub returns-then-run-clause-steps : goal.returns-then-run-clause-steps
returns-then-run-clause-steps c =
    let list = c.args.list.now in
    let ps = c.args.pairs.now.items in
    let bs = c.args.bottoms.now in
    let n = c.args.number in
    let run = run_of c.args.run in
    let e : Entry = record { place = n; run = run } in
    let entries = c.enter.ensures.entries ∙ ap (λ (r : DelimiterRun). record { place = n; run = run_of r } ∷ list.entries) (sym c.requires.held) in
    let now = entered-held list c.enter.new.self ps e entries c.enter.ensures.same.0 c.enter.ensures.same.1 in
    subst (λ h. RunSteps (held list ps) h bs bs n (n + 1) (all_kinds + 1 + run.left)) (sym now)
    (steps-push (held list ps) (held list ps) bs bs n (all_kinds + 1 + run.left) e (steps-none (held list ps) bs n c.requires.ready) refl c.if-run.true (omega (arith, c.requires.some)) (omega arith))

pub returns-then-run-clause-next : goal.returns-then-run-clause-next
returns-then-run-clause-next c = λ parts had comes fresh.
    let list = c.args.list.now in
    let ps = c.args.pairs.now.items in
    let bs = c.args.bottoms.now in
    let n = c.args.number in
    let run = run_of c.args.run in
    let e : Entry = record { place = n; run = run } in
    let old = state_of (held list ps) bs n in
    let entries = c.enter.ensures.entries ∙ ap (λ (r : DelimiterRun). record { place = n; run = run_of r } ∷ list.entries) (sym c.requires.held) in
    let now = entered-held list c.enter.new.self ps e entries c.enter.ensures.same.0 c.enter.ensures.same.1 in
    let put = put-other parts old n run had (omega (arith, c.requires.there, length-map list.runs paired_run)) refl (fresh ∙ ap (λ (r : DelimiterRun). record { run = run_of r; opened = 0; from = 0; to = 0 }) (sym c.requires.held)) (not-true c.args.run.closes c.if-not-run.true) comes.some comes.holds in
    subst (λ h. PassGoesOn parts old run had (state_of h bs (n + 1)) n) (sym now) (next-waits parts old run had (held list ps) bs n run.left (omega (arith, c.requires.some)) (omega arith) c.if-run.true put)

pub returns-else-run-clause-steps : goal.returns-else-run-clause-steps
returns-else-run-clause-steps c =
    let now = held c.args.list.now c.args.pairs.now.items in
    steps-on now now c.args.bottoms.now c.args.bottoms.now c.args.number (all_kinds + 1 + c.args.run.left) (steps-none now c.args.bottoms.now c.args.number c.requires.ready)

pub returns-else-run-clause-next : goal.returns-else-run-clause-next
returns-else-run-clause-next c = λ parts had comes fresh.
    let now = held c.args.list.now c.args.pairs.now.items in
    let n = c.args.number in
    let run = run_of c.args.run in
    let old = state_of now c.args.bottoms.now n in
    let put = put-other parts old n run had (omega (arith, c.requires.there, length-map now.runs paired_run)) refl (fresh ∙ ap (λ (r : DelimiterRun). record { run = run_of r; opened = 0; from = 0; to = 0 }) (sym c.requires.held)) (not-true c.args.run.closes c.if-not-run.true) comes.some comes.holds in
    next-rest parts old run had now c.args.bottoms.now n run.left (inl c.if-run.false) put

pub remove-requires : goal.remove-requires
remove-requires c = at-last c.args.number c.close.new.list.entries (top-is c.close.new.list.entries _ c.in_ok-left.ensures.last)

pub returns-then-not-run-2-clause-steps : goal.returns-then-not-run-2-clause-steps
returns-then-not-run-2-clause-steps c =
    let list = c.args.list.now in
    let ps = c.args.pairs.now.items in
    let qs = c.close.new.pairs.items in
    let bs = c.args.bottoms.now in
    let cs = c.close.new.bottoms in
    let n = c.args.number in
    let due = all_kinds + 1 + c.args.run.left in
    let left = c.in_ok-left.ensures in
    let before = entered-before list c.enter-2.new.self ps _ c.enter-2.ensures.entries c.enter-2.ensures.same.0 c.enter-2.ensures.same.1 in
    let after = removed-held c.close.new.list c.remove.new.self qs _ left.last c.remove.ensures.entries c.remove.ensures.same.0 c.remove.ensures.same.1 in
    subst (λ h. RunSteps (held list ps) h bs cs n (n + 1) due) (sym after)
    (steps-on (held list ps) (held_before c.close.new.list qs) bs cs n due (subst (λ h. RunSteps h (held_before c.close.new.list qs) bs cs n n 0) before left.steps))

pub returns-then-not-run-2-clause-next : goal.returns-then-not-run-2-clause-next
returns-then-not-run-2-clause-next c = λ parts had comes fresh.
    let list = c.args.list.now in
    let ps = c.args.pairs.now.items in
    let qs = c.close.new.pairs.items in
    let bs = c.args.bottoms.now in
    let cs = c.close.new.bottoms in
    let n = c.args.number in
    let run = run_of c.args.run in
    let left = c.in_ok-left.ensures in
    let before = entered-before list c.enter-2.new.self ps _ c.enter-2.ensures.entries c.enter-2.ensures.same.0 c.enter-2.ensures.same.1 in
    let after = removed-held c.close.new.list c.remove.new.self qs _ left.last c.remove.ensures.entries c.remove.ensures.same.0 c.remove.ensures.same.1 in
    let put = left.put parts had (subst (λ h. RunComes parts (state_of h bs n) run had) (sym before) comes) (subst (λ rs. IsFresh rs n) (sym c.enter-2.ensures.same.0) fresh) in
    let here = subst (λ h. PartAdded parts (state_of h bs n) run had (state_of (held_before c.close.new.list qs) cs n) n c.in_ok-left.left) before put in
    subst (λ h. PassGoesOn parts (state_of (held list ps) bs n) run had (state_of h cs (n + 1)) n) (sym after)
    (next-rest parts (state_of (held list ps) bs n) run had (held_before c.close.new.list qs) cs n c.in_ok-left.left (either-of c.args.run.opens (c.in_ok-left.left ≡ 0) c.then-not-run-2.either) here)

pub returns-else-left-eq0-clause-steps : goal.returns-else-left-eq0-clause-steps
returns-else-left-eq0-clause-steps c =
    let list = c.args.list.now in
    let ps = c.args.pairs.now.items in
    let qs = c.close.new.pairs.items in
    let bs = c.args.bottoms.now in
    let cs = c.close.new.bottoms in
    let n = c.args.number in
    let run = run_of c.args.run in
    let left = c.in_ok-left.ensures in
    let e : Entry = record { place = n; run = record run { left = c.in_ok-left.left } } in
    let due = all_kinds + 1 + run.left in
    let before = entered-before list c.enter-2.new.self ps _ c.enter-2.ensures.entries c.enter-2.ensures.same.0 c.enter-2.ensures.same.1 in
    subst (λ h. RunSteps (held list ps) h bs cs n (n + 1) due) (sym (kept-held c.close.new.list qs e left.last))
    (steps-push (held list ps) (held_before c.close.new.list qs) bs cs n due e (subst (λ h. RunSteps h (held_before c.close.new.list qs) bs cs n n 0) before left.steps) refl (not-false c.args.run.opens c.if-not-run-2.false)
    (omega (arith, c.if-left-eq0.false)) (omega (arith, left.fewer)))

pub returns-else-left-eq0-clause-next : goal.returns-else-left-eq0-clause-next
returns-else-left-eq0-clause-next c = λ parts had comes fresh.
    let list = c.args.list.now in
    let ps = c.args.pairs.now.items in
    let qs = c.close.new.pairs.items in
    let bs = c.args.bottoms.now in
    let cs = c.close.new.bottoms in
    let n = c.args.number in
    let run = run_of c.args.run in
    let left = c.in_ok-left.ensures in
    let e : Entry = record { place = n; run = record run { left = c.in_ok-left.left } } in
    let before = entered-before list c.enter-2.new.self ps _ c.enter-2.ensures.entries c.enter-2.ensures.same.0 c.enter-2.ensures.same.1 in
    let put = left.put parts had (subst (λ h. RunComes parts (state_of h bs n) run had) (sym before) comes) (subst (λ rs. IsFresh rs n) (sym c.enter-2.ensures.same.0) fresh) in
    let here = subst (λ h. PartAdded parts (state_of h bs n) run had (state_of (held_before c.close.new.list qs) cs n) n c.in_ok-left.left) before put in
    subst (λ h. PassGoesOn parts (state_of (held list ps) bs n) run had (state_of h cs (n + 1)) n) (sym (kept-held c.close.new.list qs e left.last))
    (next-waits parts (state_of (held list ps) bs n) run had (held_before c.close.new.list qs) cs n c.in_ok-left.left (omega (arith, c.if-left-eq0.false)) left.fewer (not-false c.args.run.opens c.if-not-run-2.false) here)
