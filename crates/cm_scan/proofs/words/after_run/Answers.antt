use Rattle.std.proofs.Common.{◌≡◌, ◌∙◌, get_or, sym, arith}
use Rattle.std.proofs.lemmas.Str.{IsCharBoundary-after_ascii}
use Rattle.cm_scan.proofs.lemmas.texts.WordLemmas.{run_step, after_step, run_stop, after_stop, run_end, after_end}
use Rattle.cm_scan.proofs.words.after_run.Goals as goal

pub loop-end-preserved : goal.loop-end-preserved
loop-end-preserved c =
    let bytes = c.as_bytes-bytes.result.now in
    let end = c.loop-end.end in
    let same : get_or bytes end 0 ≡ c.args.marker = c.if-bytes-end.true in
    record {
      within = omega arith;
      counted = omega (arith, c.loop-end.invariant.counted, run_step c.args.marker bytes end (omega arith) same);
      left = sym (after_step c.args.marker bytes end (omega arith) same) ∙ c.loop-end.invariant.left;
      boundary = λ ascii _. IsCharBoundary-after_ascii bytes end c.as_bytes-bytes.ensures.utf8 (omega arith) (omega (arith, ascii, same));
    }

pub returns-else-bytes-end-clause-end : goal.returns-else-bytes-end-clause-end
returns-else-bytes-end-clause-end c =
    let bytes = c.as_bytes-bytes.result.now in
    let stop = run_stop c.args.marker bytes c.loop-end.end (omega arith) c.if-bytes-end.false in
    rw (sym c.as_bytes-bytes.ensures.value) (omega (arith, c.loop-end.invariant.counted, stop))

pub returns-else-bytes-end-clause-beyond : goal.returns-else-bytes-end-clause-beyond
returns-else-bytes-end-clause-beyond c =
    let bytes = c.as_bytes-bytes.result.now in
    rw (sym c.as_bytes-bytes.ensures.value) (sym (after_stop c.args.marker bytes c.loop-end.end (omega arith) c.if-bytes-end.false) ∙ c.loop-end.invariant.left)

pub returns-after-loop-end-clause-end : goal.returns-after-loop-end-clause-end
returns-after-loop-end-clause-end c =
    let bytes = c.as_bytes-bytes.result.now in
    let end = run_end c.args.marker bytes c.loop-end.end (omega arith) in
    rw (sym c.as_bytes-bytes.ensures.value) (omega (arith, c.loop-end.invariant.counted, end))

pub returns-after-loop-end-clause-beyond : goal.returns-after-loop-end-clause-beyond
returns-after-loop-end-clause-beyond c =
    let bytes = c.as_bytes-bytes.result.now in
    rw (sym c.as_bytes-bytes.ensures.value) (sym (after_end c.args.marker bytes c.loop-end.end (omega arith)) ∙ c.loop-end.invariant.left)
