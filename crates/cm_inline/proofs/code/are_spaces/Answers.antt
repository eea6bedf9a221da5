use Rattle.cm_inline.proofs.lemmas.Words.{◌==◌, ◌∙◌, length, ap}
use Rattle.cm_scan.proofs.lemmas.texts.SkipLemmas.{passed-skipped}
use Rattle.cm_scan.proofs.lemmas.spans.AutolinkReach.{none-left}
use Rattle.cm_inline.specs.steps.Marks.{is_space_in_code}
use Rattle.cm_inline.proofs.code.are_spaces.Goals as goal

pub returns-clause-spaces : goal.returns-clause-spaces
returns-clause-spaces g c =
    let bytes = c.args.bytes.now in
    let left = c.skip.ensures.skipped is_space_in_code (λ b told small e. e) ∙ passed-skipped is_space_in_code bytes in
    ap (λ n. n == 0) (c.len.ensures ∙ ap length left) ∙ none-left is_space_in_code bytes
