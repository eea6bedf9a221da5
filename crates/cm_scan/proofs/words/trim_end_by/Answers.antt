use Rattle.std.proofs.Common.{◌≡◌, ◌-◌, ◌∙◌, get_or, true, false, sym, arith}
use Rattle.std.proofs.lemmas.Grind.{common_steps}
use Rattle.std.proofs.lemmas.Str.{IsCharBoundary-before_ascii}
use Rattle.cm_scan.specs.steps.LineSteps.{is_trimmed}
use Rattle.cm_scan.proofs.lemmas.texts.WordLemmas.{trimmed_ascii, trim_end-step, trim_end-stop, trim_end-none}
use Rattle.cm_scan.proofs.words.trim_end_by.Goals as goal
use Rattle.cm_scan.proofs.words.trim_end_by.Goals.{then-loop-end-test+else-is_trimmed, else-loop-end-test}

pub loop-end-preserved : goal.loop-end-preserved
loop-end-preserved c =
    let bytes = c.as_bytes-bytes.result.now in
    let end = c.loop-end.end in
    let tabs = c.args.tabs in
    let goes : is_trimmed tabs (get_or bytes (end - 1) 0) ≡ true = sym c.is_trimmed.ensures ∙ c.if-is_trimmed.true in
    record {
      trimmed = sym (trim_end-step (is_trimmed tabs) bytes end (omega arith) (omega arith) goes) ∙ c.loop-end.invariant.trimmed;
      boundary = IsCharBoundary-before_ascii bytes (end - 1) (omega arith) (trimmed_ascii tabs (get_or bytes (end - 1) 0) goes);
    }

pub returns : goal.returns
returns c = record {
  trimmed = let bytes = c.as_bytes-bytes.result.now in
      let end = c.loop-end.end in
      let tabs = c.args.tabs in
      elim c.loop-end-test.branch [
        | then-loop-end-test+else-is_trimmed w ↦
            let stays : is_trimmed tabs (get_or bytes (end - 1) 0) ≡ false = sym w.is_trimmed.ensures ∙ w.if-is_trimmed.false in
            grind (arith, common_steps, trim_end-stop (is_trimmed tabs) bytes end (omega arith) (omega arith) stays)
        | else-loop-end-test w ↦ grind (arith, common_steps, trim_end-none (is_trimmed tabs) bytes end (omega arith))
      ];
}
