-- How deep events nest, one after another.
use Rattle.cm_inline.proofs.lemmas.Words.{◌≡◌, ℕ, ◌+◌, ◌-◌, ◌^◌, ◌<◌, ◌≤◌, ◌==◌, Bool, true, false, cond, max, List, [], ◌∷◌, ◌++◌, length, drop, Some, None}
use Rattle.cm_inline.proofs.lemmas.Words.{refl, sym, ap, subst, ◌∙◌, arith, slice_range, eqb-false, drop_more, drop_all, length-take, Targets, depth_of}
use Rattle.cm_inline.proofs.lemmas.Words.{Reader, Kind, Mark, rules}
use Rattle.std.proofs.lemmas.List.{append-nil, length-drop}
use Rattle.cm_tree.specs.declared.tree.Inline.TheVariants as inlines
use Rattle.cm_inline.specs.declared.marks.Kind.TheVariants as kinds
use Rattle.cm_inline.specs.declared.nesting.Level.{Level}
use Rattle.cm_inline.specs.declared.runs.Run as held
use Rattle.cm_inline.specs.declared.pairing.Pair as made
use Rattle.cm_inline.specs.steps.pairing.Events.{Event, Text, Rest, Whole, Tag, Strikethrough, Start, End}
use Rattle.cm_inline.specs.steps.pairing.Parts.{Pair, PairedRun, starts, ends, run_events, part_events, events_of}
use Rattle.cm_inline.specs.steps.pairing.Readings.{deepest}
use Rattle.cm_inline.specs.steps.pairing.States.{AreChained, no_run, run_at}
use Rattle.cm_inline.specs.steps.Marks.{text_event, texts, part_of_kind, AreLaid}
use Rattle.cm_inline.specs.steps.Nesting.{rise, rise_all, CanRiseAll, NestsTo, NestsFrom}
use Rattle.cm_inline.specs.steps.Runs.{runs_in, pairs_in, paired_run}
use Rattle.cm_inline.specs.steps.Writing.{no_mark, mark_numbered, mark_events, events_from, IsMarkIn}
use Rattle.cm_inline.proofs.lemmas.LaidLemmas.{events-next, events-last}
use Rattle.cm_inline.proofs.lemmas.RunLemmas.{run-known}
use Rattle.cm_inline.proofs.lemmas.TagLemmas.{length-pairs}
use Rattle.cm_inline.proofs.lemmas.DepthLemmas.{code-depth, html-depth, soft-depth, hard-depth, autolink-depth}

pub rise-append : (l : Level) (fs gs : List Event) → rise_all l (fs ++ gs) ≡ rise_all (rise_all l fs) gs
unfolding rise_all
rise-append l [] gs = refl
rise-append l (f ∷ fs) gs = rise-append (rise l f) fs gs

pub can-append : (bound : ℕ) (l : Level) (fs gs : List Event) → CanRiseAll bound l (fs ++ gs) → CanRiseAll bound l fs × CanRiseAll bound (rise_all l fs) gs
unfolding rise_all
can-append bound l [] gs h = (tt, h)
can-append bound l (f ∷ fs) gs h = let rest = can-append bound (rise l f) fs gs h.1 in ((h.0, rest.0), rest.1)

-- starts, and ends

pub start-rises : (bound : ℕ) (l : Level) (tag : Tag) (events more : List Event) → events ≡ Start tag ∷ more → CanRiseAll bound l events → (l.now + 1 < bound) × CanRiseAll bound (rise l (Start tag)) more
start-rises bound l tag events more e h = subst (CanRiseAll bound l) e h

pub start-on : (bound : ℕ) (l new : Level) (tag : Tag) (events more : List Event) → events ≡ Start tag ∷ more → ((tag : Tag) → new ≡ rise l (Start tag)) → CanRiseAll bound l events → CanRiseAll bound new more
start-on bound l new tag events more e risen h = subst (λ k. CanRiseAll bound k more) (sym (risen tag)) (start-rises bound l tag events more e h).1

pub start-level : (l new whole : Level) (tag : Tag) (events more : List Event) → events ≡ Start tag ∷ more → ((tag : Tag) → new ≡ rise l (Start tag)) → rise_all l events ≡ whole → rise_all new more ≡ whole
unfolding rise_all
start-level l new whole tag events more e f h = ap (λ k. rise_all k more) (f tag) ∙ sym (ap (rise_all l) e) ∙ h

pub none-level : (l whole : Level) (events : List Event) → events ≡ [] → rise_all l events ≡ whole → l ≡ whole
unfolding rise_all
none-level l whole events e h = sym (ap (rise_all l) e) ∙ h

abbrev level : (now most : ℕ) → Level
level now most = record { now = now; most = most }

ends-fall : (bound : ℕ) (l : Level) (ps : List Pair) → CanRiseAll bound l (ends ps) → (length ps ≤ l.now) × (rise_all l (ends ps) ≡ level (l.now - length ps) l.most)
unfolding rise_all
ends-fall bound l [] h = (omega arith, ap (λ n. level n l.most) (omega arith))
ends-fall bound l (p ∷ ps) h = search (rules, (ends-fall bound (level (l.now - 1) l.most) ps h.1))

-- what was made of a run
pub record RunRises (bound : ℕ) (l : Level) (pairs : List Pair) (number : ℕ) (r : held.Run) : Type 0 where
  pub holds : r.to - r.from ≤ l.now
  pub starts_rise : CanRiseAll bound (level (l.now - (r.to - r.from)) l.most) (starts pairs r.opened)
  pub is : rise_all l (run_events pairs number (paired_run r)) ≡ rise_all (level (l.now - (r.to - r.from)) l.most) (starts pairs r.opened)

pub record RunRisesAt (bound : ℕ) (l : Level) (pairs : List made.Pair) (number : ℕ) (at r : held.Run) : Type 0 where
  pub holds : r.to - r.from ≤ l.now
  pub starts_rise : CanRiseAll bound (level (l.now - (r.to - r.from)) l.most) (starts (pairs_in pairs) r.opened)
  pub is : rise_all l (run_events (pairs_in pairs) number (paired_run at)) ≡ rise_all (level (l.now - (r.to - r.from)) l.most) (starts (pairs_in pairs) r.opened)

pub run-rises : (bound : ℕ) (l : Level) (pairs : List Pair) (number : ℕ) (r : held.Run) → r.to ≤ length pairs → CanRiseAll bound l (run_events pairs number (paired_run r)) → RunRises bound l pairs number r
unfolding rise_all
run-rises bound l pairs number r to can = search (rules, length-drop, length-take, can-append, ends-fall, rise-append)

-- the same of the run that was read
pub run-rises-at : (bound : ℕ) (l : Level) (runs : List held.Run) (pairs : List made.Pair) (number : ℕ) (r : held.Run) → number < length runs → r ≡ run_at runs number → AreChained (runs_in runs) (pairs_in pairs)
    → CanRiseAll bound l (run_events (pairs_in pairs) number (paired_run (run_at runs number))) → RunRisesAt bound l pairs number (run_at runs number) r
run-rises-at bound l runs pairs number r low read chained can =
    let known = run-known runs pairs number r low read chained in
    let rises = run-rises bound l (pairs_in pairs) number r (omega (arith, known.to, length-pairs pairs)) (subst (λ s. CanRiseAll bound l (run_events (pairs_in pairs) number (paired_run s))) (sym read) can) in
    record { holds = rises.holds; starts_rise = rises.starts_rise; is = ap (λ s. rise_all l (run_events (pairs_in pairs) number (paired_run s))) (sym read) ∙ rises.is }

-- one mark

abbrev kind_events : List ℕ → Targets → Reader → Mark → Kind → List Event
kind_events source targets reader mark kind = part_events (runs_in reader.runs.list.runs) (pairs_in reader.runs.pairs.items) (part_of_kind source targets reader.links.items mark.at mark.end kind)

of-kind : (source : List ℕ) (targets : Targets) (reader : Reader) (mark : Mark) (l new : Level) (kind : Kind) → mark.kind ≡ kind → new ≡ rise_all l (kind_events source targets reader mark kind) → new ≡ rise_all l (mark_events source targets reader mark)
of-kind source targets reader mark l new kind is h = subst (λ k. new ≡ rise_all l (kind_events source targets reader mark k)) (sym is) h

can-kind : (source : List ℕ) (targets : Targets) (reader : Reader) (mark : Mark) (bound : ℕ) (l : Level) (kind : Kind) → mark.kind ≡ kind → CanRiseAll bound l (mark_events source targets reader mark) → CanRiseAll bound l (kind_events source targets reader mark kind)
can-kind source targets reader mark bound l kind is h = subst (λ k. CanRiseAll bound l (kind_events source targets reader mark k)) is h

pub autolink-fits : (source : List ℕ) (targets : Targets) (reader : Reader) (mark : Mark) (bound : ℕ) (l : Level) (is_address : Bool) → mark.kind ≡ kinds.Autolink is_address → CanRiseAll bound l (mark_events source targets reader mark) → l.now + 1 < bound
autolink-fits source targets reader mark bound l is_address is h =
    let text = slice_range source (mark.at + 1) (mark.end - 1) in
    subst (λ n. l.now + n < bound) (autolink-depth is_address text) (can-kind source targets reader mark bound l (kinds.Autolink is_address) is h).0

pub autolink-level : (source : List ℕ) (targets : Targets) (reader : Reader) (mark : Mark) (l : Level) (is_address : Bool) (most : ℕ) → mark.kind ≡ kinds.Autolink is_address → most ≡ max l.most (l.now + 1) → level l.now most ≡ rise_all l (mark_events source targets reader mark)
unfolding rise_all
autolink-level source targets reader mark l is_address most is e =
    let text = slice_range source (mark.at + 1) (mark.end - 1) in
    of-kind source targets reader mark l (level l.now most) (kinds.Autolink is_address) is (ap (level l.now) (e ∙ ap (λ n. max l.most (l.now + n)) (sym (autolink-depth is_address text))))

pub begin-level : (source : List ℕ) (targets : Targets) (reader : Reader) (mark : Mark) (l new : Level) (number : ℕ) → mark.kind ≡ kinds.Start number → ((tag : Tag) → new ≡ rise l (Start tag)) → new ≡ rise_all l (mark_events source targets reader mark)
unfolding rise_all
begin-level source targets reader mark l new number is e = of-kind source targets reader mark l new (kinds.Start number) is (e Strikethrough)

pub end-level : (source : List ℕ) (targets : Targets) (reader : Reader) (mark : Mark) (l new : Level) (number : ℕ) → mark.kind ≡ kinds.End number → new ≡ level (l.now - 1) l.most → new ≡ rise_all l (mark_events source targets reader mark)
unfolding rise_all
end-level source targets reader mark l new number is e = of-kind source targets reader mark l new (kinds.End number) is e

same-level : (l : Level) (n : ℕ) → l.now ≤ l.most → n ≡ 0 → l ≡ level l.now (max l.most (l.now + n))
same-level l n high e = ap (level l.now) (omega (arith, high, e))

-- text, a code span, raw HTML or a line break
pub flat-level : (source : List ℕ) (targets : Targets) (reader : Reader) (mark : Mark) (l : Level) → l.now ≤ l.most → ((is_address : Bool) → mark.kind ≡ kinds.Autolink is_address → ⊥) → ((n : ℕ) → mark.kind ≡ kinds.Run n → ⊥)
    → ((n : ℕ) → mark.kind ≡ kinds.Start n → ⊥) → ((n : ℕ) → mark.kind ≡ kinds.End n → ⊥) → l ≡ rise_all l (mark_events source targets reader mark)
unfolding rise_all
flat-level source targets reader mark l high no_autolink no_run no_start no_end = search (rules, same-level, code-depth, html-depth, soft-depth, hard-depth)

-- from how deep all nest it follows that the levels so far can rise

most-below : (d m total : ℕ) (fs : List Event) → deepest d m fs ≡ Some total → m ≤ total
unfolding deepest
most-below d m total [] h = search rules
most-below d m total (Text t ∷ fs) h = most-below d m total fs h
most-below d m total (Rest n r ∷ fs) h = most-below d m total fs h
most-below d m total (Whole i ∷ fs) h = omega (arith, most-below d (max m (d + depth_of i)) total fs h)
most-below d m total (Start tag ∷ fs) h = omega (arith, most-below (d + 1) (max m (d + 1)) total fs h)
most-below d m total (End tag ∷ fs) h = go (d == 0) h (λ e. most-below (d - 1) m total fs e)
  where
    go : (b : Bool) → cond b None (deepest (d - 1) m fs) ≡ Some total → (deepest (d - 1) m fs ≡ Some total → m ≤ total) → m ≤ total
    go true e below = absurd (cc e)
    go false e below = below e

pub record Rises (bound total : ℕ) (l : Level) (fs more : List Event) : Type 0 where
  pub can : CanRiseAll bound l fs
  pub high : (rise_all l fs).now ≤ (rise_all l fs).most
  pub rest : deepest (rise_all l fs).now (rise_all l fs).most more ≡ Some total

pub rises : (bound total : ℕ) (l : Level) (fs more : List Event) → l.now ≤ l.most → total < bound → deepest l.now l.most (fs ++ more) ≡ Some total → Rises bound total l fs more
unfolding rise_all deepest
rises bound total l [] more high low h = record { can = tt; high = high; rest = h }
rises bound total l (Text t ∷ fs) more high low h = let r = rises bound total l fs more high low h in record { can = (tt, r.can); high = r.high; rest = r.rest }
rises bound total l (Rest n q ∷ fs) more high low h = let r = rises bound total l fs more high low h in record { can = (tt, r.can); high = r.high; rest = r.rest }
rises bound total l (Whole i ∷ fs) more high low h =
    let below = most-below l.now (max l.most (l.now + depth_of i)) total (fs ++ more) h in
    let r = rises bound total (rise l (Whole i)) fs more (omega (arith, high)) low h in
    record { can = (omega (arith, below, low), r.can); high = r.high; rest = r.rest }
rises bound total l (Start tag ∷ fs) more high low h =
    let below = most-below (l.now + 1) (max l.most (l.now + 1)) total (fs ++ more) h in
    let r = rises bound total (rise l (Start tag)) fs more (omega arith) low h in
    record { can = (omega (arith, below, low), r.can); high = r.high; rest = r.rest }
rises bound total l (End tag ∷ fs) more high low h = go (l.now == 0) refl h (λ e. rises bound total (rise l (End tag)) fs more (omega (arith, high)) low e)
  where
    go : (b : Bool) → (l.now == 0) ≡ b → cond b None (deepest (l.now - 1) l.most (fs ++ more)) ≡ Some total → (deepest (l.now - 1) l.most (fs ++ more) ≡ Some total → Rises bound total (rise l (End tag)) fs more)
        → Rises bound total l (End tag ∷ fs) more
    go true f e again = absurd (cc e)
    go false f e again =
        let r = again e in
        let some : l.now ≡ 0 → ⊥ = eqb-false l.now 0 f in
        record { can = (omega (arith, some), r.can); high = r.high; rest = r.rest }

-- text doesn't nest
byte-flat : (d m b : ℕ) (more : List Event) → d ≤ m → deepest d m (text_event b ∷ more) ≡ deepest d m more
unfolding deepest
byte-flat d m b more high =
    elim (b == 10) as (λ c. deepest d m (cond c (Whole inlines.Soft) (Text (b ∷ [])) ∷ more) ≡ deepest d m more) [ true ↦ ap (λ n. deepest d n more) (omega (arith, high, soft-depth)) | false ↦ refl ]

texts-flat : (runs : List PairedRun) (pairs : List Pair) (d m : ℕ) (text : List ℕ) (more : List Event) → d ≤ m → deepest d m (events_of runs pairs (texts text) ++ more) ≡ deepest d m more
unfolding events_of
texts-flat runs pairs d m [] more high = refl
texts-flat runs pairs d m (b ∷ bs) more high = byte-flat d m b (events_of runs pairs (texts bs) ++ more) high ∙ texts-flat runs pairs d m bs more high

-- all marks

-- the next mark
pub record NestsAt (source : List ℕ) (targets : Targets) (reader : Reader) (bound : ℕ) (l : Level) (mark : Mark) : Type 0 where
  pub known : IsMarkIn source targets reader mark
  pub can : CanRiseAll bound l (mark_events source targets reader mark)

next-laid : (lines : Bool) (source : List ℕ) (targets : Targets) (reader : Reader) (depth at : ℕ) (l : Level) → at < length reader.marks.items → (n : NestsFrom lines source targets reader depth at l)
    → AreLaid lines source targets reader.runs.list.runs reader.links.items n.from (length source) (mark_numbered reader.marks.items at ∷ drop (at + 1) reader.marks.items)
next-laid lines source targets reader depth at l h n = subst (AreLaid lines source targets reader.runs.list.runs reader.links.items n.from (length source)) (drop_more reader.marks.items at no_mark h) n.laid

next-deepest : (lines : Bool) (source : List ℕ) (targets : Targets) (reader : Reader) (depth at : ℕ) (l : Level) → at < length reader.marks.items → NestsFrom lines source targets reader depth at l
    → (let m = mark_numbered reader.marks.items at in deepest l.now l.most (mark_events source targets reader m ++ events_from source targets reader m.end (drop (at + 1) reader.marks.items)) ≡ Some depth)
next-deepest lines source targets reader depth at l h n = search (rules, texts-flat, events-next, drop_more)

pub nests-at : (lines : Bool) (source : List ℕ) (targets : Targets) (reader : Reader) (bound depth at : ℕ) (l : Level) (mark : Mark) → at < length reader.marks.items → mark ≡ mark_numbered reader.marks.items at → AreChained (runs_in reader.runs.list.runs) (pairs_in reader.runs.pairs.items)
    → depth < bound → NestsFrom lines source targets reader depth at l → NestsAt source targets reader bound l mark
nests-at lines source targets reader bound depth at l mark h is chained low n =
    let m = mark_numbered reader.marks.items at in
    let laid = next-laid lines source targets reader depth at l h n in
    let r = rises bound depth l (mark_events source targets reader m) (events_from source targets reader m.end (drop (at + 1) reader.marks.items)) n.high low (next-deepest lines source targets reader depth at l h n) in
    subst (NestsAt source targets reader bound l) (sym is) (record { known = record { between = laid.1; kind = laid.2; chained = chained }; can = r.can })

pub nests-next : (lines : Bool) (source : List ℕ) (targets : Targets) (reader : Reader) (bound depth at : ℕ) (l new : Level) (mark : Mark) → at < length reader.marks.items → mark ≡ mark_numbered reader.marks.items at → depth < bound
    → NestsFrom lines source targets reader depth at l → new ≡ rise_all l (mark_events source targets reader mark) → NestsFrom lines source targets reader depth (at + 1) new
nests-next lines source targets reader bound depth at l new mark h is low n e =
    let m = mark_numbered reader.marks.items at in
    let laid = next-laid lines source targets reader depth at l h n in
    let r = rises bound depth l (mark_events source targets reader m) (events_from source targets reader m.end (drop (at + 1) reader.marks.items)) n.high low (next-deepest lines source targets reader depth at l h n) in
    let risen : new ≡ rise_all l (mark_events source targets reader m) = e ∙ ap (λ k. rise_all l (mark_events source targets reader k)) is in
    subst (NestsFrom lines source targets reader depth (at + 1)) (sym risen) (record { from = m.end; laid = laid.3; high = r.high; rest = r.rest })

pub nests-last : (lines : Bool) (source : List ℕ) (targets : Targets) (reader : Reader) (depth at : ℕ) (l : Level) → length reader.marks.items ≤ at → NestsFrom lines source targets reader depth at l → l.most ≡ depth
unfolding deepest
nests-last lines source targets reader depth at l h n =
    let text = slice_range source n.from (length source) in
    let events = events_of (runs_in reader.runs.list.runs) (pairs_in reader.runs.pairs.items) (texts text) in
    let whole : deepest l.now l.most [] ≡ Some depth =
    sym (texts-flat (runs_in reader.runs.list.runs) (pairs_in reader.runs.pairs.items) l.now l.most text [] n.high) ∙ ap (deepest l.now l.most) (append-nil events ∙ sym (events-last source targets reader n.from))
    ∙ ap (λ t. deepest l.now l.most (events_from source targets reader n.from t)) (sym (drop_all at reader.marks.items h)) ∙ n.rest in
    (elim (l.now == 0) as (λ b. cond b (Some l.most) None ≡ Some depth → l.most ≡ depth) [ true ↦ λ e. cc e | false ↦ λ e. absurd (cc e) ]) whole

-- all levels fit
pub nests-fit : (lines : Bool) (source : List ℕ) (targets : Targets) (reader : Reader) (depth : ℕ) → NestsTo lines source targets reader depth → depth < 2 ^ 64
nests-fit lines source targets reader depth n =
    omega (arith, n.near, n.few, reader.runs.pairs.ok.0, reader.runs.pairs.ok.1, reader.runs.pairs.small, reader.links.ok.0, reader.links.ok.1, reader.links.small)
