use Rattle.std.proofs.Common.{◌≡◌, ◌+◌, ◌-◌, ◌<◌, ◌≤◌, ℕ, List, Option, Some, None, IfSome, false, length, drop, get_or, ap, subst, arith}
use Rattle.std.specs.Prelude.{IsUtf8}
use Rattle.std.specs.Str.{IsCharBoundary}
use Rattle.std.proofs.lemmas.Str.{IsCharBoundary-after_ascii, IsCharBoundary-before_ascii}
use Rattle.cm_scan.specs.spans.CodeSpans.{up_to_run}
use Rattle.cm_scan.specs.Scanned.{run_at}
use Rattle.cm_scan.proofs.lemmas.spans.ReachLemmas.{map_some}
use Rattle.cm_scan.proofs.code_spans.next_run.Goals as goal

-- a run lies in a text, and its first and last bytes are backticks
abbrev Lies : List ℕ → ℕ → ℕ × ℕ → Type 0
Lies text from run = (from ≤ run.0) × (run.0 < run.1) × (run.1 ≤ length text)

abbrev IsTicked : List ℕ → ℕ × ℕ → Type 0
IsTicked text run = (get_or text run.0 0 ≡ 96) × (get_or text (run.1 - 1) 0 ≡ 96)

bounded : (text : List ℕ) (from : ℕ) (run : ℕ × ℕ) → IsUtf8 text → Lies text from run → IsTicked text run → IsCharBoundary text run.0 × IsCharBoundary text run.1
bounded text from run utf8 lies ticked =
    let last : run.1 - 1 + 1 ≡ run.1 = omega (arith, lies.1) in (
      IsCharBoundary-before_ascii text run.0 (omega (arith, lies.1, lies.2)) (omega (arith, ticked.0)),
      subst (IsCharBoundary text) last (IsCharBoundary-after_ascii text (run.1 - 1) utf8 (omega (arith, lies.1, lies.2)) (omega (arith, ticked.1))),
    )

both : (text : List ℕ) (from : ℕ) (found : Option (ℕ × ℕ)) → IsUtf8 text → IfSome found (Lies text from) → IfSome found (IsTicked text) → IfSome found (λ run. IsCharBoundary text run.0 × IsCharBoundary text run.1)
both text from None utf8 lies ticked = tt
both text from (Some run) utf8 lies ticked = bounded text from run utf8 lies ticked

pub returns-clause-read : goal.returns-clause-read
returns-clause-read c =
    let found = c.next_backticks.result in
    subst (λ t. run_at t c.args.from found ≡ up_to_run c.args.count false (drop c.args.from t)) c.bytes_from.ensures.rest c.next_backticks.ensures.read

pub returns-clause-within : goal.returns-clause-within
returns-clause-within c =
    map_some c.next_backticks.result (Lies c.bytes_from.result.now c.args.from) (λ run. (c.args.from ≤ run.0) × (run.0 ≤ run.1) × (run.1 ≤ length c.args.text.now)) c.next_backticks.ensures.within
    (λ run lies. (lies.0, omega (arith, lies.1), omega (arith, lies.2, ap length c.bytes_from.ensures.rest)))

pub returns-clause-boundary : goal.returns-clause-boundary
returns-clause-boundary c =
    let found = c.next_backticks.result in
    let same = c.bytes_from.ensures.rest in
    both c.args.text.now c.args.from found c.utf8.text (subst (λ t. IfSome found (Lies t c.args.from)) same c.next_backticks.ensures.within) (subst (λ t. IfSome found (IsTicked t)) same c.next_backticks.ensures.backticks)
