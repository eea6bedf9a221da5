use Rattle.std.proofs.Common.{◌∙◌, sym, ap}
use Rattle.std.specs.Prelude.{not}
use Rattle.cm_text.specs.Views.{seen_view}
use Rattle.cm_block.proofs.lemmas.NextLineLemmas.{item_interrupts}
use Rattle.cm_block.proofs.counted_line.interruptions.item_interrupts.Goals as goal

pub returns-then-starts_at_one : goal.returns-then-starts_at_one
returns-then-starts_at_one c =
    ap not c.is_blank_after.ensures
    ∙ item_interrupts (record { kind = c.args.marker.kind; digits = c.args.marker.digits }) (seen_view c.args.line.now) c.as_bytes.result.now
    (c.as_bytes.ensures.value ∙ c.content.ensures.content) (sym c.starts_at_one.ensures ∙ c.if-starts_at_one.true)
