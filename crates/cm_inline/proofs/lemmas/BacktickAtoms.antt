-- A backtick string in a source, and the code span that it starts.
use Rattle.cm_inline.proofs.lemmas.Words.{◌≡◌, ℕ, ◌+◌, ◌-◌, ◌<◌, ◌≤◌, false, List, length, drop, get_or, Option, sym, ap, subst, ◌∙◌, arith, IsUtf8, IsCharBoundary, run_length, after_run, up_to_run}
use Rattle.cm_inline.proofs.lemmas.Words.{IsCharBoundary-before_ascii, IsCharBoundary-after_ascii}
use Rattle.cm_scan.specs.spans.CodeSpans.{code_span, span_content}
use Rattle.cm_scan.specs.Scanned.{run_at}
use Rattle.cm_scan.proofs.lemmas.texts.WordLemmas.{run_step}
use Rattle.cm_scan.proofs.lemmas.spans.BacktickStrings.{span-is, span-content}
use Rattle.cm_scan.proofs.lemmas.spans.BacktickRuns.{run-last, run-over}
use Rattle.cm_inline.specs.steps.Reads.{Stands}

-- the string at a place of a source, as it is read in the source's bytes
pub record RunHere (source text : List ℕ) (at start : ℕ) : Type 0 where
  pub same : text ≡ source
  pub utf8 : IsUtf8 source
  pub stands : Stands source at 96
  pub run : start ≡ at + run_length 96 (drop at text)
  pub left : drop start text ≡ after_run 96 (drop at text)
  pub within : start ≤ length text

module _ {source text : List ℕ} {at start : ℕ} (here : RunHere source text at start) where
  pub run-end : start ≡ at + run_length 96 (drop at source)
  run-end = here.run ∙ ap (λ t. at + run_length 96 (drop at t)) here.same

  pub run-more : at < start
  run-more = let more = run_step 96 source at here.stands.within here.stands.byte in omega (arith, run-end, more)

  pub run-past : get_or source start 0 ≡ 96 → ⊥
  run-past = run-over source at start run-end

  pub run-boundary : IsCharBoundary source start
  run-boundary =
      let last : start - 1 + 1 ≡ start = omega (arith, run-more) in
      let tick = run-last source at start run-end run-more in
      let within : start - 1 < length source = omega (arith, run-more, here.within, ap length here.same) in
      subst (IsCharBoundary source) last (IsCharBoundary-after_ascii source (start - 1) here.utf8 within (omega (arith, tick)))

  pub run-beyond : drop start source ≡ after_run 96 (drop at source)
  run-beyond = ap (drop start) (sym here.same) ∙ here.left ∙ ap (λ t. after_run 96 (drop at t)) here.same

  pub run-read : (found : Option (ℕ × ℕ)) → run_at text start found ≡ up_to_run (start - at) false (drop start text)
      → span_content (run_at source start found) ≡ code_span (drop at source)
  run-read found read =
      span-content (drop at source) (run_at source start found)
      (ap (λ t. run_at t start found) (sym here.same) ∙ read ∙ ap (λ t. up_to_run (start - at) false (drop start t)) here.same
      ∙ span-is source at start run-end run-beyond (λ e. omega (arith, run-more, e)))

-- the places of a search's result are boundaries of characters
pub close-boundary : (source : List ℕ) (close : ℕ) → close < length source → get_or source close 0 ≡ 96 → IsCharBoundary source close
close-boundary source close within tick = IsCharBoundary-before_ascii source close within (omega (arith, tick))

pub end-boundary : (source : List ℕ) (end : ℕ) → IsUtf8 source → 0 < end → end ≤ length source → get_or source (end - 1) 0 ≡ 96 → IsCharBoundary source end
end-boundary source end utf8 some within tick =
    let last : end - 1 + 1 ≡ end = omega (arith, some) in
    subst (IsCharBoundary source) last (IsCharBoundary-after_ascii source (end - 1) utf8 (omega (arith, some, within)) (omega (arith, tick)))
