use Rattle.cm_inline.proofs.lemmas.Words.{◌≡◌, ◌∷◌, ◌++◌, suc, ◌+◌, refl, sym, ap, subst, ◌∙◌, arith, length}
use Rattle.cm_inline.specs.steps.Entries.{Entry, AllOpen, before_last, last_entry}
use Rattle.cm_inline.specs.steps.Runs.{entry_of, run_of}
use Rattle.cm_inline.specs.steps.pairing.States.{run_at}
use Rattle.cm_inline.specs.steps.Searching.{find_opener, looks_for, from_found}
use Rattle.cm_inline.specs.steps.Slots.{upto, IsAt}
use Rattle.cm_inline.proofs.lemmas.SlotLemmas.{at-last, at-first, before-is, upto-first, first-low}
use Rattle.cm_inline.proofs.lemmas.StepLemmas.{turn-ends, turn-finds, turn-passes}
use Rattle.cm_inline.proofs.pairing.find.Goals as goal

pub before-at-requires : goal.before-at-requires
before-at-requires c = at-last c.args.number c.args.list.now.entries c.requires.last

pub loop-place-init : goal.loop-place-init
loop-place-init c =
    let es = c.args.list.now.entries in
    let by = run_of c.args.closer in
    let b = c.args.bottom in
    let n = c.args.number in
    let all : upto c.before-at.result es ≡ before_last es = ap (λ u. upto u es) c.before-at.ensures ∙ upto-first n es ∙ before-is n es c.requires.last c.requires.earlier in
    record {
      there = subst (λ u. IsAt u es) (sym c.before-at.ensures) (at-first n es);
      earlier = omega (arith, c.before-at.ensures, first-low n es);
      same = refl;
      runs = refl;
      open_are = subst AllOpen (sym all) c.requires.open;
      found = ap (find_opener by b) all;
      rest = ap (from_found by b) all;
      counted = ap (λ t. c.args.list.now.looks + looks_for by b t) all;
      few = omega (arith, ap length all);
    }

pub returns-then-delimiters_match-clause-some : goal.returns-then-delimiters_match-clause-some
returns-then-delimiters_match-clause-some c =
    let by = run_of c.args.closer in
    let b = c.args.bottom in
    let es = c.loop-place.list.entries in
    let place = c.in-Some.place in
    let e : Entry = entry_of place c.look-run.result in
    let read = c.look-run.ensures.entry in
    let i = c.loop-place.invariant in
    let is : upto c.loop-place.at es ≡ e ∷ upto place es = ap (λ u. upto u es) c.in-Some.ensures.some.0 ∙ read in
    let o = subst AllOpen is i.open_are in
    let t = turn-finds by b e (upto place es) c.in-Some.ensures.some.1 o.0 (sym c.delimiters_match.ensures ∙ c.if-delimiters_match.true) in (
      sym i.found ∙ ap (find_opener by b) is ∙ t.0,
      c.remove_between.ensures.entries ∙ ap (λ l. last_entry l ++ upto (suc place) l) c.look-run.ensures.same.1 ∙ ap (λ l. last_entry es ++ l) (read ∙ sym t.2 ∙ sym (ap (from_found by b) is) ∙ i.rest)
          ∙ ap (λ l. last_entry l ++ from_found by b (before_last c.args.list.now.entries)) i.same,
      c.look-run.ensures.read ∙ ap (λ rs. run_at rs place) i.runs,
      o.1,
    )

pub returns-then-delimiters_match-clause-looks : goal.returns-then-delimiters_match-clause-looks
returns-then-delimiters_match-clause-looks c =
    let by = run_of c.args.closer in
    let b = c.args.bottom in
    let es = c.loop-place.list.entries in
    let place = c.in-Some.place in
    let e : Entry = entry_of place c.look-run.result in
    let is : upto c.loop-place.at es ≡ e ∷ upto place es = ap (λ u. upto u es) c.in-Some.ensures.some.0 ∙ c.look-run.ensures.entry in
    let o = subst AllOpen is c.loop-place.invariant.open_are in
    let t = turn-finds by b e (upto place es) c.in-Some.ensures.some.1 o.0 (sym c.delimiters_match.ensures ∙ c.if-delimiters_match.true) in
    omega (arith, c.remove_between.ensures.same.1, c.look-run.ensures.counted, c.loop-place.invariant.counted, ap (looks_for by b) is, t.1)

pub loop-place-smaller : goal.loop-place-smaller
loop-place-smaller c = omega (arith, c.before-at-in-Some.ensures, c.in-Some.ensures.some.0, first-low c.in-Some.place c.look-run.new.self.entries)

pub loop-place-preserved : goal.loop-place-preserved
loop-place-preserved c =
    let by = run_of c.args.closer in
    let b = c.args.bottom in
    let es = c.loop-place.list.entries in
    let now = c.look-run.new.self.entries in
    let place = c.in-Some.place in
    let e : Entry = entry_of place c.look-run.result in
    let i = c.loop-place.invariant in
    let is : upto c.loop-place.at es ≡ e ∷ upto place es = ap (λ u. upto u es) c.in-Some.ensures.some.0 ∙ c.look-run.ensures.entry in
    let o = subst AllOpen is i.open_are in
    let t = turn-passes by b e (upto place es) c.in-Some.ensures.some.1 o.0 (sym c.delimiters_match.ensures ∙ c.if-delimiters_match.false) in
    let next : upto c.before-at-in-Some.result now ≡ upto place es = ap (λ u. upto u now) c.before-at-in-Some.ensures ∙ upto-first place now ∙ ap (upto place) c.look-run.ensures.same.1 in
    record {
      there = subst (λ u. IsAt u now) (sym c.before-at-in-Some.ensures) (at-first place now);
      earlier = omega (arith, c.before-at-in-Some.ensures, first-low place now, i.earlier, c.in-Some.ensures.some.0);
      same = c.look-run.ensures.same.1 ∙ i.same;
      runs = c.look-run.ensures.same.0 ∙ i.runs;
      open_are = subst AllOpen (sym next) o.2;
      found = ap (find_opener by b) next ∙ sym t.0 ∙ sym (ap (find_opener by b) is) ∙ i.found;
      rest = ap (from_found by b) next ∙ sym t.2 ∙ sym (ap (from_found by b) is) ∙ i.rest;
      counted = omega (arith, c.look-run.ensures.counted, ap (looks_for by b) next, ap (looks_for by b) is, t.1, i.counted);
      few = omega (arith, c.look-run.ensures.counted, ap length next, ap length is, i.few);
    }

pub returns-clause-none : goal.returns-clause-none
returns-clause-none c =
    let es = upto c.loop-place.at c.loop-place.list.entries in
    let t = turn-ends (run_of c.args.closer) c.args.bottom es (omega (arith, c.loop-place.invariant.there, c.in_default.ensures.none refl)) in
    λ _. (sym c.loop-place.invariant.found ∙ t.0, c.loop-place.invariant.same)

pub returns-clause-looks : goal.returns-clause-looks
returns-clause-looks c =
    let es = upto c.loop-place.at c.loop-place.list.entries in
    let t = turn-ends (run_of c.args.closer) c.args.bottom es (omega (arith, c.loop-place.invariant.there, c.in_default.ensures.none refl)) in
    omega (arith, c.loop-place.invariant.counted, t.1)
