use Rattle.std.specs.Char.{to_ascii_lowercase}
use Rattle.std.proofs.Common.{◌≡◌, ◌∙◌, get_or, sym, arith}
use Rattle.cm_scan.proofs.lemmas.blocks.WordsInAnyCase.{at_step, at_stop, at_past, at_end}
use Rattle.cm_scan.proofs.html_blocks.is_at_word.Goals as goal
use Rattle.cm_scan.proofs.html_blocks.is_at_word.Goals.{then-i-bytes-via-then-i-bytes, then-i-bytes-via-else-i-bytes+then-to_ascii_lowercase-w}

pub returns-then-i-bytes : goal.returns-then-i-bytes
returns-then-i-bytes c = record {
  word = let word = c.args.word.now in
      let bytes = c.args.bytes.now in
      let i = c.loop-i.i in
      elim c.then-i-bytes.branch [
        | then-i-bytes-via-then-i-bytes w ↦ sym (at_past word bytes i (omega arith) (omega arith)) ∙ c.loop-i.invariant
        | then-i-bytes-via-else-i-bytes+then-to_ascii_lowercase-w w ↦
            let differs : to_ascii_lowercase (get_or bytes i 0) ≡ get_or word i 0 → ⊥ =
            λ same. w.if-to_ascii_lowercase-w.true (w.to_ascii_lowercase.ensures.value ∙ same) in
            sym (at_stop word bytes i (omega arith) (omega arith) differs) ∙ c.loop-i.invariant
      ];
}

pub loop-i-preserved : goal.loop-i-preserved
loop-i-preserved c =
    let word = c.args.word.now in
    let bytes = c.args.bytes.now in
    let i = c.loop-i.i in
    let same : to_ascii_lowercase (get_or bytes i 0) ≡ get_or word i 0 =
    sym c.to_ascii_lowercase.ensures.value ∙ c.if-to_ascii_lowercase-w.false in
    sym (at_step word bytes i (omega arith) (omega arith) same) ∙ c.loop-i.invariant

pub returns : goal.returns
returns c = record { word = sym (at_end c.args.word.now c.args.bytes.now c.loop-i.i (omega arith)) ∙ c.loop-i.invariant }
