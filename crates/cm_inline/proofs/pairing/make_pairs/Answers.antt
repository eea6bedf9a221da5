use Rattle.std.proofs.lemmas.Grind.{common_steps}
use Rattle.cm_inline.proofs.lemmas.Words.{◌≡◌, ◌<◌, ◌≤◌, length, get_or, refl, sym, ap, subst, ◌∙◌, arith, get_or_read, length-map, Run}
use Rattle.cm_inline.specs.steps.Entries.{before_last}
use Rattle.cm_inline.specs.steps.pairing.States.{held_before, state_of}
use Rattle.cm_inline.specs.steps.Runs.{run_of, entry_of, pair_in, runs_in}
use Rattle.cm_inline.specs.steps.Searching.{kind, IsMarked, find_opener}
use Rattle.cm_inline.proofs.lemmas.ClosingLemmas.{same-kind, closing-deep}
use Rattle.cm_inline.proofs.lemmas.CloserLoopLemmas.{going-pairs, done-pairs, done-none, steps-search-fails, search-failed, found-first, found-falls, pair-made, last-kept, own-stays}
use Rattle.cm_inline.proofs.lemmas.StateLemmas.{steps-pairs, few-looks, found-place, pair-long}
use Rattle.cm_inline.proofs.pairing.make_pairs.Goals as goal

pub find-requires-clause-few : goal.find-requires-clause-few
find-requires-clause-few c =
    omega (arith, c.requires.few, c.loop-closer.invariant.steps.paid, few-looks (state_of (held_before c.loop-closer.list c.loop-closer.pairs.items) c.loop-closer.bottoms c.args.number).list c.loop-closer.bottoms)

pub returns-in_default-clause-steps : goal.returns-in_default-clause-steps
returns-in_default-clause-steps c =
    let l = c.loop-closer in
    let s = l.invariant.steps in
    let k = c.kind-kind.result in
    let by = run_of l.closer in
    let same : k ≡ kind by = c.kind-kind.ensures.number ∙ same-kind l.closer.left (run_of c.args.run) by (sym l.invariant.same) in
    let b = get_or l.bottoms k c.index-bottoms-kind.result in
    let bottom : b ≡ get_or l.bottoms k 0 = sym c.index-bottoms-kind.is ∙ get_or_read l.bottoms k c.index-bottoms-kind.result (omega (arith, s.ready.size, c.kind-kind.ensures.within)) c.index-bottoms-kind.is 0 in
    let none = c.in_default.ensures.none refl in
    let before = held_before l.list l.pairs.items in
    let after = held_before c.find.new.list l.pairs.items in
    steps-search-fails (held_before c.args.list.now c.args.pairs.now.items) before after c.args.bottoms.now l.bottoms c.args.number k by same
    (search-failed l.list c.find.new.list l.pairs.items l.bottoms k b by bottom c.in_default.ensures.runs none.1 c.in_default.ensures.looks) s (sym (ap (λ b. find_opener by b (before_last l.list.entries)) bottom) ∙ none.0)

pub returns-in_default-clause-done : goal.returns-in_default-clause-done
returns-in_default-clause-done c = λ parts had comes.
    let l = c.loop-closer in
    let s = l.invariant.steps in
    let k = c.kind-kind.result in
    let by = run_of l.closer in
    let same : k ≡ kind by = c.kind-kind.ensures.number ∙ same-kind l.closer.left (run_of c.args.run) by (sym l.invariant.same) in
    let b = get_or l.bottoms k c.index-bottoms-kind.result in
    let bottom : b ≡ get_or l.bottoms k 0 = sym c.index-bottoms-kind.is ∙ get_or_read l.bottoms k c.index-bottoms-kind.result (omega (arith, s.ready.size, c.kind-kind.ensures.within)) c.index-bottoms-kind.is 0 in
    let none = c.in_default.ensures.none refl in
    let some : 1 ≤ l.closer.left = omega (arith, c.loop-closer-test.true) in
    let before = held_before l.list l.pairs.items in
    let after = held_before c.find.new.list l.pairs.items in
    done-none parts (state_of (held_before c.args.list.now c.args.pairs.now.items) c.args.bottoms.now c.args.number) (run_of c.args.run) by had before after l.bottoms c.args.number k same
    (search-failed l.list c.find.new.list l.pairs.items l.bottoms k b by bottom c.in_default.ensures.runs none.1 c.in_default.ensures.looks)
    (subst IsMarked (sym l.invariant.same) comes.mark) (ap (λ (r : Run). r.closes) l.invariant.same ∙ c.requires.closes) some (l.invariant.going parts had comes some) (sym (ap (λ b. find_opener by b (before_last l.list.entries)) bottom) ∙ none.0)

pub make_pair-requires-clause-opener : goal.make_pair-requires-clause-opener
make_pair-requires-clause-opener c =
    let some = c.in-Some.ensures.some in
    found-first c.loop-closer.list c.find.new.list c.args.number (get_or c.loop-closer.bottoms c.kind-kind.result c.index-bottoms-kind.result) c.in-Some.opener.number (run_of c.loop-closer.closer) c.in-Some.opener.run c.loop-closer.invariant.top some.0 some.1

pub make_pair-requires-clause-falling : goal.make_pair-requires-clause-falling
make_pair-requires-clause-falling c =
    let some = c.in-Some.ensures.some in
    let ready = c.loop-closer.invariant.steps.ready in
    found-falls c.loop-closer.list c.find.new.list c.args.number (get_or c.loop-closer.bottoms c.kind-kind.result c.index-bottoms-kind.result) (run_of c.loop-closer.closer) (entry_of c.in-Some.opener.number c.in-Some.opener.run) c.loop-closer.invariant.top ready.falling ready.under some.0 some.1

pub returns-then-len-first-clause-deep : goal.returns-then-len-first-clause-deep
returns-then-len-first-clause-deep c = λ _ parts had comes.
    let l = c.loop-closer in
    let s = l.invariant.steps in
    let k = c.kind-kind.result in
    let by = run_of l.closer in
    let o = c.in-Some.opener in
    let e = entry_of o.number o.run in
    let same : k ≡ kind by = c.kind-kind.ensures.number ∙ same-kind l.closer.left (run_of c.args.run) by (sym l.invariant.same) in
    let b = get_or l.bottoms k c.index-bottoms-kind.result in
    let bottom : b ≡ get_or l.bottoms k 0 = sym c.index-bottoms-kind.is ∙ get_or_read l.bottoms k c.index-bottoms-kind.result (omega (arith, s.ready.size, c.kind-kind.ensures.within)) c.index-bottoms-kind.is 0 in
    let some = c.in-Some.ensures.some in
    let w = c.in_ok-closer.ensures in
    let there : o.number < length l.list.runs = omega (arith, found-place by b (before_last l.list.entries) e c.args.number some.0 s.ready.under, c.requires.there, s.same.long) in
    let m = pair-made l.list c.find.new.list c.make_pair.new.list l.pairs.items c.make_pair.new.pairs.items l.bottoms c.args.number k b o.number by o.run same bottom l.invariant.top there some.0 some.1 c.in-Some.ensures.looks
    c.in-Some.ensures.runs w.entries w.looks w.pairs w.runs in
    let deep = closing-deep parts (state_of (held_before c.args.list.now c.args.pairs.now.items) c.args.bottoms.now c.args.number) (run_of c.args.run) by had (state_of (held_before l.list l.pairs.items) l.bottoms c.args.number) e
    (ap (λ (r : Run). r.closes) l.invariant.same ∙ c.requires.closes) (l.invariant.going parts had comes (omega (arith, c.loop-closer-test.true))) m.found in
    omega (
      arith,
      deep,
      c.if-len-first.true,
      c.len.ensures,
      c.len-first.ensures,
      pair-long l.pairs.items c.make_pair.new.pairs.items _ o.number (runs_in c.find.new.list.runs) w.pairs,
      length-map l.pairs.items pair_in,
      length-map c.args.pairs.now.items pair_in,
    )

pub loop-closer-preserved : goal.loop-closer-preserved
loop-closer-preserved c =
    let l = c.loop-closer in
    let s = l.invariant.steps in
    let k = c.kind-kind.result in
    let by = run_of l.closer in
    let o = c.in-Some.opener in
    let e = entry_of o.number o.run in
    let same : k ≡ kind by = c.kind-kind.ensures.number ∙ same-kind l.closer.left (run_of c.args.run) by (sym l.invariant.same) in
    let b = get_or l.bottoms k c.index-bottoms-kind.result in
    let bottom : b ≡ get_or l.bottoms k 0 = sym c.index-bottoms-kind.is ∙ get_or_read l.bottoms k c.index-bottoms-kind.result (omega (arith, s.ready.size, c.kind-kind.ensures.within)) c.index-bottoms-kind.is 0 in
    let some = c.in-Some.ensures.some in
    let w = c.in_ok-closer.ensures in
    let there : o.number < length l.list.runs = omega (arith, found-place by b (before_last l.list.entries) e c.args.number some.0 s.ready.under, c.requires.there, s.same.long) in
    let m = pair-made l.list c.find.new.list c.make_pair.new.list l.pairs.items c.make_pair.new.pairs.items l.bottoms c.args.number k b o.number by o.run same bottom l.invariant.top there some.0 some.1 c.in-Some.ensures.looks
    c.in-Some.ensures.runs w.entries w.looks w.pairs w.runs in
    let kept = last-kept l.list c.find.new.list c.make_pair.new.list c.args.number _ _ l.invariant.top some.1 w.entries in
    let old = state_of (held_before c.args.list.now c.args.pairs.now.items) c.args.bottoms.now c.args.number in
    let before = held_before l.list l.pairs.items in
    let now = held_before c.make_pair.new.list c.make_pair.new.pairs.items in
    let may = ap (λ (r : Run). r.closes) l.invariant.same ∙ c.requires.closes in
    record {
      steps = steps-pairs (held_before c.args.list.now c.args.pairs.now.items) before now c.args.bottoms.now l.bottoms c.args.number by e _ s m.found m.makes;
      last = kept.0 ∙ l.invariant.last;
      own = own-stays l.list c.find.new.list c.make_pair.new.list c.args.number o.number _ _ (found-place by b (before_last l.list.entries) e c.args.number some.0 s.ready.under) c.in-Some.ensures.runs w.runs ∙ l.invariant.own;
      top = kept.1;
      early = omega (arith, l.invariant.early, pair-long l.pairs.items c.make_pair.new.pairs.items _ o.number (runs_in c.find.new.list.runs) w.pairs);
      same = ap (λ (r : Run). record r { left = c.in_ok-closer.field-0 }) l.invariant.same;
      fewer = omega (arith, l.invariant.fewer, w.left);
      going = λ parts had comes more. going-pairs parts old (run_of c.args.run) by had before now l.bottoms c.args.number c.in_ok-closer.field-0 e may (l.invariant.going parts had comes (omega (arith, c.loop-closer-test.true))) m.found m.makes w.left more;
      done = λ parts had comes none. done-pairs parts old (run_of c.args.run) by had before now l.bottoms c.args.number e may (l.invariant.going parts had comes (omega (arith, c.loop-closer-test.true))) m.found m.makes (omega (arith, none, w.left));
    }

pub overflow_sub-len : goal.overflow_sub-len
overflow_sub-len c = grind (arith, common_steps)
