use Rattle.std.proofs.Common.{◌≡◌, ◌∙◌, get_or, false, refl, sym, arith}
use Rattle.std.proofs.lemmas.Grind.{common_steps}
use Rattle.std.proofs.lemmas.Str.{IsCharBoundary-start, IsCharBoundary-after_ascii}
use Rattle.cm_scan.specs.Words.{is_space_or_tab}
use Rattle.cm_scan.proofs.lemmas.texts.WordLemmas.{blank_ascii, trim_start-step, trim_start-stop, trim_start-end}
use Rattle.cm_scan.proofs.words.trim_start.Goals as goal
use Rattle.cm_scan.proofs.words.trim_start.Goals.{then-loop-start-test+else-is_space_or_tab, else-loop-start-test}

pub loop-start-init : goal.loop-start-init
loop-start-init c = record {
  trimmed = refl;
  boundary = IsCharBoundary-start _ c.as_bytes-bytes.ensures.utf8;
}

pub loop-start-preserved : goal.loop-start-preserved
loop-start-preserved c =
    let bytes = c.as_bytes-bytes.result.now in
    let blank = sym c.is_space_or_tab.ensures ∙ c.if-is_space_or_tab.true in
    record {
      trimmed = sym (trim_start-step bytes c.loop-start.start (omega arith) blank) ∙ c.loop-start.invariant.trimmed;
      boundary = IsCharBoundary-after_ascii bytes c.loop-start.start c.as_bytes-bytes.ensures.utf8 (omega arith) (blank_ascii _ blank);
    }

pub returns : goal.returns
returns c = record {
  trimmed = let bytes = c.as_bytes-bytes.result.now in
      let start = c.loop-start.start in
      elim c.loop-start-test.branch [
        | then-loop-start-test+else-is_space_or_tab w ↦
            let other : is_space_or_tab (get_or bytes start 0) ≡ false = sym w.is_space_or_tab.ensures ∙ w.if-is_space_or_tab.false in
            grind (arith, common_steps, trim_start-stop bytes start (omega arith) other)
        | else-loop-start-test w ↦ grind (arith, common_steps, trim_start-end bytes start (omega arith))
      ];
}
