use Rattle.std.proofs.Common.{◌≡◌, ◌-◌, ◌∙◌, get_or, true, false, sym, arith}
use Rattle.std.proofs.lemmas.Grind.{common_steps}
use Rattle.cm_scan.specs.Words.{is_space_or_tab}
use Rattle.cm_scan.proofs.lemmas.blocks.LineFormLemmas.{closing_whole, closing_after_gap, closing_after_other}
use Rattle.cm_scan.proofs.line_forms.without_closing.Goals as goal
use Rattle.cm_scan.proofs.line_forms.without_closing.Goals.{then-loop-end-test+else-bytes-end-eq35, else-loop-end-test, then-end-eq0-via-then-end-eq0, then-end-eq0-via-else-end-eq0+then-is_space_or_tab}

pub returns-then-end-eq0 : goal.returns-then-end-eq0
returns-then-end-eq0 c = record {
  content = let bytes = c.as_bytes-bytes.result.now in
      let end = c.loop-end.end in
      elim c.then-end-eq0.branch [
        | then-end-eq0-via-then-end-eq0 w ↦ grind (arith, common_steps, closing_whole bytes end c.loop-end.invariant.hashes (omega arith))
        | then-end-eq0-via-else-end-eq0+then-is_space_or_tab w ↦
            let gap : is_space_or_tab (get_or bytes (end - 1) 0) ≡ true = sym w.is_space_or_tab.ensures ∙ w.if-is_space_or_tab.true in
            grind (arith, common_steps, closing_after_gap bytes end c.loop-end.invariant.hashes (omega arith) (omega arith) gap)
      ];
}

pub returns : goal.returns
returns c = record {
  content = let bytes = c.as_bytes-bytes.result.now in
      let end = c.loop-end.end in
      let plain : is_space_or_tab (get_or bytes (end - 1) 0) ≡ false = sym c.is_space_or_tab.ensures ∙ c.if-is_space_or_tab.false in
      elim c.loop-end-test.branch [
        | then-loop-end-test+else-bytes-end-eq35 w ↦
            grind (arith, common_steps, closing_after_other bytes end c.loop-end.invariant.hashes (omega arith) (omega arith) w.if-bytes-end-eq35.false plain)
        | else-loop-end-test w ↦ absurd (omega arith)
      ];
}
