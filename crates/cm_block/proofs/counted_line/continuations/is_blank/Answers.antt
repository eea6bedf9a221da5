use Rattle.std.proofs.Common.{◌∙◌, sym, ap}
use Rattle.cm_scan.specs.Words.{is_blank_text}
use Rattle.cm_block.proofs.lemmas.ContinuationLemmas.{blank_spaces}
use Rattle.cm_block.proofs.lemmas.PlainItems.{plain_some}
use Rattle.cm_block.proofs.counted_line.continuations.is_blank.Goals as goal

pub returns-then-begins_plain : goal.returns-then-begins_plain
returns-then-begins_plain c =
    sym (plain_some c.args.line.now.spaces c.args.line.now.rest.now (sym c.begins_plain.ensures ∙ c.if-begins_plain.true))

pub returns : goal.returns
returns c =
    c.is_blank_text.ensures.blank ∙ ap is_blank_text c.as_bytes.ensures.value ∙ sym (blank_spaces c.args.line.now.spaces c.args.line.now.rest.now)
