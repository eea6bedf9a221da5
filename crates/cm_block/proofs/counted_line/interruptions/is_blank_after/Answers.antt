use Rattle.std.proofs.Common.{◌∙◌, ap}
use Rattle.cm_scan.specs.Words.{is_blank_text}
use Rattle.cm_block.proofs.lemmas.NextLineLemmas.{after_first}
use Rattle.cm_block.proofs.counted_line.interruptions.is_blank_after.Goals as goal

pub returns-in-Some-len1-up : goal.returns-in-Some-len1-up
returns-in-Some-len1-up c =
    let part = c.in-Some-len1-up.ensures.lookup.0.2 in
    c.is_blank_text.ensures.blank ∙ ap is_blank_text (after_first c.args.content.now c.in-Some-len1-up.field-0.now c.args.digits part)
