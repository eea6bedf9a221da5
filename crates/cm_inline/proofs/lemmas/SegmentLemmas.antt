-- What the parts that a pass has come to stand for, and a made item that it comes to.
use Rattle.cm_inline.proofs.lemmas.Words.{◌≡◌, ℕ, ◌≤◌, false, List, [], ◌∷◌, ◌++◌, length, reverse, sym, ap, subst, ◌∙◌, arith, append-nil, append_assoc, Item}
use Rattle.cm_inline.proofs.lemmas.Words.{Finished, Delimiters, pair_all, emphasis_of, pass_from, pairs_in_one_pass, rules, nat_tests}
use Rattle.cm_inline.specs.steps.Entries.{Entry, Listed}
use Rattle.cm_inline.specs.steps.pairing.ClosingRuns.{State, PartsHold}
use Rattle.cm_inline.specs.steps.pairing.Events.{Event, Rest, Tag, Start, End, made_of}
use Rattle.cm_inline.specs.steps.pairing.Readings.{IsAlone, StandFor}
use Rattle.cm_inline.specs.steps.pairing.Parts.{Pair, PairedRun, Part, Known, ends, events_of, Rising}
use Rattle.cm_inline.specs.steps.pairing.Segments.{is_run, IsMade}
use Rattle.cm_inline.specs.steps.pairing.Stacks.{NoneOpens, Stacked}
use Rattle.cm_inline.specs.steps.pairing.WaitingOpeners.{WaitAsOpeners}
use Rattle.cm_inline.proofs.lemmas.ClosingLemmas.{parts-append, under-append, drop-all}
use Rattle.cm_inline.proofs.lemmas.ReadingLemmas.{reads-rest, reads-wrap}
use Rattle.cm_inline.proofs.lemmas.StackLemmas.{holds-append}
use Rattle.cm_inline.proofs.lemmas.WaitLemmas.{waits-others}
use Rattle.cm_inline.proofs.lemmas.LaidLemmas.{events-append}
use Rattle.cm_inline.proofs.lemmas.SearchLemmas.{below-more}

-- the last entry holds for the run that it is of
stacked-means : (es : List Entry) (fs : List Event) (items : List Item) → Stacked es fs items → StandFor fs (reverse items)
stacked-means [] fs items s = s.0
stacked-means (e ∷ es) fs items s =
    subst (λ t. StandFor fs (reverse t)) (sym s.whole) (subst (λ t. StandFor t (reverse (s.inside ++ Delimiters e.run ∷ s.low))) (sym (s.events ∙ sym (append_assoc s.front (Rest e.place e.run ∷ []) s.back)))
    (holds-append (s.front ++ Rest e.place e.run ∷ []) s.back (Delimiters e.run ∷ s.low) s.inside
    (holds-append s.front (Rest e.place e.run ∷ []) s.low (Delimiters e.run ∷ []) (stacked-means es s.front s.low s.below) (reads-rest e.place e.run)) s.means))

-- at the end of a pass the parts stand for what the items come to
pub pass-means : (parts : List Part) (s : State) (before : List Item) → PartsHold parts (length s.pairs) s before → StandFor (events_of s.runs s.pairs parts) (reverse before)
pass-means parts s before w = search (rules, drop-all, append-nil, stacked-means)

pub pass-pairs : (parts : List Part) (s : State) (items before : List Item) → PartsHold parts (length s.pairs) s before → reverse before ≡ pass_from [] items → StandFor (events_of s.runs s.pairs parts) (pair_all items)
pass-pairs parts s items before w h = subst (StandFor (events_of s.runs s.pairs parts)) (h ∙ sym (pairs_in_one_pass items)) (pass-means parts s before w)

-- and a link or an image of what is between its brackets
pub link-means : (runs : List PairedRun) (pairs : List Pair) (parts : List Part) (items : List Item) (tag : Tag) → StandFor (events_of runs pairs parts) (pair_all items) → IsAlone tag (events_of runs pairs parts)
    → StandFor (events_of runs pairs ((Known (Start tag ∷ []) ∷ parts) ++ Known (End tag ∷ []) ∷ [])) (Finished (made_of tag (emphasis_of items)) ∷ [])
unfolding events_of
link-means runs pairs parts items tag stands alone =
    subst (λ fs. StandFor (Start tag ∷ fs) (Finished (made_of tag (emphasis_of items)) ∷ [])) (sym (events-append runs pairs parts (Known (End tag ∷ []) ∷ [])))
    (reads-wrap (events_of runs pairs parts) (pair_all items) tag stands alone)

none : (item : Item) → is_run item ≡ false → NoneOpens (item ∷ [])
unfolding NoneOpens
none item h = grind (arith, nat_tests)

-- the next number may be a higher one
pub waits-raised : {fs : List Event} {before : List Item} {l : Listed} {bs : List ℕ} (n : ℕ) → l.next ≤ n → WaitAsOpeners fs before l bs → WaitAsOpeners fs before (record l { next = n }) bs
waits-raised {fs} {before} {l} {bs} n h w = search (rules, below-more)

-- A made item's parts go after those that the pass has come to.
pub pass-made : (done ms : List Part) (item : Item) (high : ℕ) (s : State) (before : List Item) → PartsHold done (length s.pairs) s before → IsMade s.runs s.pairs s.list.next ms item high
    → Rising 0 (events_of s.runs s.pairs done ++ events_of s.runs s.pairs ms)
    → PartsHold (done ++ ms) (length s.pairs) (record s { list = record s.list { next = high } }) (item ∷ before)
pass-made done ms item high s before w m rising =
    let gone = ap (λ t. events_of s.runs s.pairs done ++ ends t) (drop-all s.pairs) ∙ append-nil (events_of s.runs s.pairs done) in
    let whole = ap (λ t. events_of s.runs s.pairs (done ++ ms) ++ ends t) (drop-all s.pairs) ∙ append-nil (events_of s.runs s.pairs (done ++ ms)) ∙ events-append s.runs s.pairs done ms in
    let waits = subst (λ fs. WaitAsOpeners fs before s.list s.bottoms) gone w.waits in
    search (
      rules,
      (subst (λ fs. WaitAsOpeners fs (item ∷ before) (record s.list { next = high }) s.bottoms) (sym whole)
          (waits-raised high m.high_is (waits-others (events_of s.runs s.pairs done) (events_of s.runs s.pairs ms) before (item ∷ []) s.list s.bottoms waits m.means (none item m.other)))),
      (parts-append s.runs s.pairs done ms w.marked m.marked),
      (under-append s.list.next high done ms m.high_is w.under m.under),
      (subst (Rising 0) (sym whole) rising),
    )
