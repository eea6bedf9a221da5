-- What a delimiter run writes.
use Rattle.cm_inline.proofs.lemmas.Words.{◌≡◌, ℕ, ◌<◌, ◌≤◌, List, ◌++◌, length, get_or, sym, ap, subst, ◌∙◌, arith, get_or-map, rules}
use Rattle.cm_inline.specs.declared.runs.Run as held
use Rattle.cm_inline.specs.declared.pairing.Pair as made
use Rattle.cm_inline.specs.steps.pairing.Parts.{PairedRun, no_run, starts, ends_between, run_events}
use Rattle.cm_inline.specs.steps.pairing.States.{AreChained, run_at, no_run as no_held_run}
use Rattle.cm_inline.specs.steps.pairing.Readings.{Tags, write_all}
use Rattle.cm_inline.specs.steps.Runs.{byte_of, paired_run, runs_in, pairs_in}
use Rattle.cm_inline.specs.steps.Writing.{Adds}
use Rattle.cm_inline.proofs.lemmas.HtmlLemmas.{run-html}
use Rattle.cm_inline.proofs.lemmas.TagLemmas.{length-pairs}
use Rattle.cm_inline.proofs.lemmas.WriteLemmas.{write-append}
use Rattle.std.specs.Prelude.{replicate}

-- the pairs that a run knows of are there
pub record RunKnown (pairs : List made.Pair) (r : held.Run) : Type 0 where
  pub opened : r.opened ≤ length pairs
  pub order : r.from ≤ r.to
  pub to : r.to ≤ length pairs

pub run-known : (runs : List held.Run) (pairs : List made.Pair) (number : ℕ) (r : held.Run) → number < length runs → r ≡ run_at runs number → AreChained (runs_in runs) (pairs_in pairs) → RunKnown pairs r
run-known runs pairs number r low read chained =
    let is : get_or (runs_in runs) number no_run ≡ paired_run r = get_or-map paired_run runs number no_held_run no_run low ∙ ap paired_run (sym read) in
    let opened : r.opened ≤ length (pairs_in pairs) = subst (λ (q : PairedRun). q.opened ≤ length (pairs_in pairs)) is (chained.opened number) in
    let to : r.to ≤ length (pairs_in pairs) = subst (λ (q : PairedRun). q.to ≤ length (pairs_in pairs)) is (chained.closed number).1 in
    let order : r.from ≤ r.to = subst (λ (q : PairedRun). q.from ≤ q.to) is (chained.closed number).0 in
    record { opened = omega (arith, opened, length-pairs pairs); order = order; to = omega (arith, to, length-pairs pairs) }

pub run-written : (pairs first second : List made.Pair) (number : ℕ) (r : held.Run) (html ended left new : List ℕ) → first ≡ pairs → second ≡ pairs
    → Adds Tags html (ends_between (pairs_in first) r.from r.to) ended → left ≡ ended ++ replicate r.run.left (byte_of r.run.marker) → Adds Tags left (starts (pairs_in second) r.opened) new
    → Adds Tags html (run_events (pairs_in pairs) number (paired_run r)) new
unfolding write_all
run-written pairs first second number r html ended left new same again ends rest opened = search (rules, write-append, run-html)
