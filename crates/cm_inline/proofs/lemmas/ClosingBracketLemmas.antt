-- What a `]` asks of the reader, and how deep what it makes nests.
use Rattle.cm_inline.proofs.lemmas.Words.{◌≡◌, ℕ, ◌+◌, ◌-◌, ◌^◌, ◌<◌, ◌≤◌, Bool, true, false, List, [], ◌∷◌, ◌++◌, length, drop, get_or, reverse, Some, refl, sym, ap, subst}
use Rattle.cm_inline.proofs.lemmas.Words.{◌∙◌, arith, length-append, get_or-drop, IsCharBoundary-after_ascii, nat_lt, reverse-append, length-map, get_or-map}
use Rattle.cm_inline.proofs.lemmas.Words.{drop-append_seam, sum_by-cons, sum_by-append, Rules, Targets, LinkEnd, Bracketed, defined_in, holds_link, made, nests_past}
use Rattle.cm_inline.proofs.lemmas.Words.{Item, Delimiters, bracket_text, pair_all, Bracket, Reader, HeldRun, Runs, rules, nat_tests}
use Rattle.cm_inline.specs.Closers.{all_kinds}
use Rattle.cm_inline.specs.steps.pairing.Parts.{Pair, PairedRun, no_run as no_paired_run}
use Rattle.cm_inline.specs.steps.pairing.Passes.{number_after, paid_by, AllLeft, AreNumbers, CanPass, WaitFrom}
use Rattle.cm_inline.specs.steps.pairing.Paired.{AreRuns}
use Rattle.cm_inline.proofs.lemmas.KeptLemmas.{segments-split}
use Rattle.cm_inline.proofs.lemmas.PassLoopLemmas.{inside-waits}
use Rattle.cm_inline.specs.steps.pairing.Segments.{Segment, Waiting, Made, items_in, numbers_in, is_run, AreSegments}
use Rattle.cm_inline.specs.steps.pairing.States.{no_run, run_at}
use Rattle.cm_inline.specs.steps.Brackets.{View, view_of, IsOpener, IsRead, Reading, closed_at, end_for}
use Rattle.cm_inline.specs.steps.Depths.{items_depth}
use Rattle.cm_inline.specs.steps.Links.{AreBrackets}
use Rattle.cm_inline.specs.steps.Pairs.{allowed, allowance}
use Rattle.cm_inline.specs.steps.Reads.{Stands, ahead}
use Rattle.cm_inline.specs.steps.Runs.{runs_in, paired_run, pairs_in}
use Rattle.cm_inline.proofs.lemmas.BracketLemmas.{closes-opener, link_made, closed_or}
use Rattle.cm_inline.proofs.lemmas.ClosedLinkLemmas.{before, inside, awaits, again, or-none}
use Rattle.cm_inline.proofs.lemmas.DeeperLemmas.{made-depth}
use Rattle.cm_inline.proofs.lemmas.JoinLemmas.{laid-low}
use Rattle.cm_inline.proofs.lemmas.OpenLemmas.{numbers-append}
use Rattle.cm_inline.proofs.lemmas.PairDepthLemmas.{reverse-depth, settled-items}
use Rattle.cm_inline.proofs.lemmas.PaysLemmas.{pays-few}
use Rattle.cm_inline.proofs.lemmas.RightBracketLemmas.{old-items}
use Rattle.cm_inline.proofs.lemmas.WholeLemmas.{closed-deeper, nests-ahead}
use Rattle.cm_inline.proofs.lemmas.InlineDepthLemmas.{both}

-- a `[` before the place after an opener
pub left-bracket : (source : List ℕ) (image : Bool) (at after : ℕ) → IsOpener source image at after → (0 < after) × (get_or source (after - 1) 0 ≡ 91)
left-bracket source image at after o = go image o.place o.front
  where
    there : (n : ℕ) (text : List ℕ) → at + n ≡ after - 1 → drop at source ≡ text → get_or source (after - 1) 0 ≡ get_or text n 0
    there n text place is = ap (λ k. get_or source k 0) (sym place) ∙ sym (get_or-drop at source n 0) ∙ ap (λ t. get_or t n 0) is

    go : (image : Bool) → at + length (bracket_text image) ≡ after → drop at source ≡ bracket_text image ++ drop after source → (0 < after) × (get_or source (after - 1) 0 ≡ 91)
    go true place front = (omega (arith, place), there 1 (33 ∷ 91 ∷ drop after source) (omega (arith, place)) front)
    go false place front = (omega (arith, place), there 0 (91 ∷ drop after source) (omega (arith, place)) front)

pub are-brackets : (source : List ℕ) (targets : Targets) (at : ℕ) (v : View) (b : Bracket) (bs : List Bracket) (segments : List Segment) → IsRead source targets at v (b ∷ bs) segments → Stands source at 93 → AreBrackets source b.end at
are-brackets source targets at v b bs segments r stands =
    let level = r.open_are in
    let low = laid-low v.lines source targets v.runs v.links b.end at level.late level.closed.laid in
    record { bracket = left-bracket source b.image level.at b.end level.bracket; start = level.bracket.end; order = low; stands = stands; next = IsCharBoundary-after_ascii source at r.utf8 stands.within (omega (arith, stands.byte)) }

-- the numbers of the runs that wait rise

numbers-from : (low higher high : ℕ) (ns : List ℕ) → low ≤ higher → AreNumbers higher high ns → AreNumbers low high ns
numbers-from low higher high [] p h = tt
numbers-from low higher high (n ∷ ns) p h = (omega (arith, p, h.0), h.1, h.2)

waiting-rise : (low : ℕ) (runs : List HeldRun) (pairs : List Pair) (ss : List Segment) → AreSegments (runs_in runs) pairs low ss → AreNumbers low (length runs) (numbers_in ss)
unfolding numbers_in
waiting-rise low runs pairs [] h = tt
waiting-rise low runs pairs (Waiting number run ∷ ss) h = (h.0, omega (arith, h.1, length-map runs paired_run), waiting-rise (number + 1) runs pairs ss h.3)
waiting-rise low runs pairs (Made parts item high ∷ ss) h = numbers-from low high (length runs) (numbers_in ss) h.0.high_is (waiting-rise high runs pairs ss h.1)

-- and pay for as many looks as their items

other-pays : (item : Item) → is_run item ≡ false → allowed all_kinds item ≡ 0
other-pays item e = grind (arith, nat_tests)

waiting-pay : (low : ℕ) (runs : List HeldRun) (pairs : List Pair) (ss : List Segment) → AreSegments (runs_in runs) pairs low ss → paid_by runs (numbers_in ss) ≡ allowance all_kinds (items_in ss)
unfolding numbers_in items_in
waiting-pay low runs pairs [] h = refl
waiting-pay low runs pairs (Waiting number run ∷ ss) h =
    let left : (run_at runs number).run.left ≡ run.left = ap (λ (r : PairedRun). r.run.left) (sym (get_or-map paired_run runs number no_run no_paired_run (omega (arith, h.1, length-map runs paired_run))) ∙ h.2) in
    omega (arith, left, sum_by-cons (λ number. all_kinds + 1 + (run_at runs number).run.left) number (numbers_in ss), sum_by-cons (allowed all_kinds) (Delimiters run) (items_in ss), waiting-pay (number + 1) runs pairs ss h.3)
waiting-pay low runs pairs (Made parts item high ∷ ss) h = omega (arith, sum_by-cons (allowed all_kinds) item (items_in ss), other-pays item h.0.other, waiting-pay high runs pairs ss h.1)

waiting-left : (low : ℕ) (runs : List HeldRun) (pairs : List Pair) (ss : List Segment) → AreSegments (runs_in runs) pairs low ss → AreRuns ss → AllLeft runs (numbers_in ss)
unfolding numbers_in
waiting-left low runs pairs [] h m = tt
waiting-left low runs pairs (Waiting number run ∷ ss) h m =
    let left : (run_at runs number).run.left ≡ run.left = ap (λ (r : PairedRun). r.run.left) (sym (get_or-map paired_run runs number no_run no_paired_run (omega (arith, h.1, length-map runs paired_run))) ∙ h.2) in
    (omega (arith, left, m.1), waiting-left (number + 1) runs pairs ss h.3 m.2)
waiting-left low runs pairs (Made parts item high ∷ ss) h m = waiting-left high runs pairs ss h.1 m

inside-left : (from : ℕ) (runs : Runs) (front inside : List Segment) → WaitFrom from runs front inside → AllLeft runs.list.runs (drop from runs.waiting.items)
inside-left from runs front inside a =
    subst (AllLeft runs.list.runs) (sym (inside-waits from runs front inside a))
    (waiting-left (number_after 0 front) runs.list.runs (pairs_in runs.pairs.items) inside (segments-split 0 (runs_in runs.list.runs) (pairs_in runs.pairs.items) front inside a.segments).1 a.marked)

-- so that pairs can be made of those after a front
pub can-pass : (from : ℕ) (runs : Runs) (front inside : List Segment) → WaitFrom from runs front inside → runs.list.looks + allowance all_kinds (items_in (front ++ inside)) < 2 ^ 127 → CanPass from runs
can-pass from runs front inside a few = search (rules, inside, inside-left, length-append, waiting-rise, waiting-pay, numbers-append, drop-append_seam, sum_by-append)

-- the last open bracket of a reader, whose brackets are the others
pub last-read : (source : List ℕ) (targets : Targets) (at : ℕ) (was old : Reader) (others : List Bracket) (b : Bracket) (segments : List Segment) → was.brackets.items ≡ others ++ b ∷ [] → view_of old ≡ view_of was
    → IsRead source targets at (view_of was) (reverse was.brackets.items) segments → IsRead source targets at (view_of old) (b ∷ reverse others) segments
last-read source targets at was old others b segments had view r = grind (arith, nat_tests, reverse-append)

pub bracket-passes : (rules : Rules) (source : List ℕ) (targets : Targets) (at : ℕ) (was old : Reader) (others : List Bracket) (b : Bracket) → was.brackets.items ≡ others ++ b ∷ [] → view_of old ≡ view_of was
    → was.runs.list.looks ≡ old.runs.list.looks → Reading rules source targets at was → CanPass b.waiting old.runs
bracket-passes rules source targets at was old others b had view looks g =
    let r = last-read source targets at was old others b g.segments had view g.read in
    let few = pays-few rules (defined_in targets) source (items_in g.segments) at was.runs.list.looks g.pays (omega (arith, r.short)) in
    can-pass b.waiting old.runs (before source targets at old b (reverse others) g.segments r) (inside source targets at old b (reverse others) g.segments r) (awaits source targets at old b (reverse others) g.segments r)
    (omega (arith, few, looks, ap (λ t. allowance all_kinds (items_in t)) (again source targets at old b (reverse others) g.segments r)))

-- A link or an image that is too deep makes the leaf too deep.
pub link-too-deep : (rules : Rules) (source : List ℕ) (targets : Targets) (at limit : ℕ) (was old : Reader) (others : List Bracket) (b : Bracket) (end : LinkEnd) → was.brackets.items ≡ others ++ b ∷ [] → view_of old ≡ view_of was
    → Stands source at 93 → Some end ≡ end_for rules (defined_in targets) source b old.links_end at → Reading rules source targets at was
    → ((front inside : List Segment) → WaitFrom b.waiting old.runs front inside → limit < items_depth (pair_all (items_in inside))) → nests_past rules (defined_in targets) limit source ≡ true
link-too-deep rules source targets at limit was old others b end had view stands ends g deep =
    let bs = reverse others in
    let r = last-read source targets at was old others b g.segments had view g.read in
    let level = r.open_are in
    let outer = items_in level.front in
    let inner = items_in level.inside in
    let link = made b.image end.dest end.title inner in
    let brackets = are-brackets source targets at (view_of old) b bs g.segments r stands in
    let holds : holds_link inner ≡ nat_lt b.mark old.links_end = sym (or-none (holds_link inner)) ∙ sym level.link in
    let closed : closed_at rules (defined_in targets) source (items_in g.segments) at ≡ record { items = reverse (link_made outer inner b.image end.dest end.title); rest = end.rest } =
    ap (λ t. closed_at rules (defined_in targets) source t at) (old-items source targets at (view_of old) b bs g.segments r)
    ∙ closes-opener rules (defined_in targets) source outer inner b at old.links_end level.closed.none holds brackets.order stands.within ∙ ap (closed_or outer inner b.image (drop (at + 1) source)) (sym ends) in
    let within = deep (before source targets at old b bs g.segments r) level.inside (awaits source targets at old b bs g.segments r) in
    let further : limit < items_depth (closed_at rules (defined_in targets) source (items_in g.segments) at).items = omega (
      arith,
      within,
      settled-items (pair_all inner),
      made-depth b.image end.dest end.title inner,
      both outer (link ∷ []),
      reverse-depth (outer ++ link ∷ []),
      ap (λ (k : Bracketed). items_depth k.items) closed,
    ) in
    nests-ahead rules (defined_in targets) limit source (ahead rules (defined_in targets) source (items_in g.segments) at) g.goes (closed-deeper rules (defined_in targets) source (items_in g.segments) at limit stands further)
