use Rattle.std.proofs.Common.{◌+◌, drop, refl, ap, ap₂, ◌∙◌, sym, subst}
use Rattle.std.specs.Str.{IsUtf8}
use Rattle.cm_text.specs.Views.{seen_view}
use Rattle.cm_block.specs.steps.ContinuationViews.{seen_marker}
use Rattle.cm_block.proofs.lemmas.PlainItems as lemmas
use Rattle.cm_block.proofs.lemmas.PlainItems.{plain_boundary, plain_tabs}
use Rattle.cm_block.proofs.counted_line.items.plain_item.Goals as goal

pub past-requires-clause-boundary : goal.past-requires-clause-boundary
past-requires-clause-boundary c =
    let rest = c.past_spaces.ensures.rest in
    plain_boundary c.args.line.now (seen_marker c.in_ok-marker.marker) c.in_ok-marker.end c.in_ok-marker.ensures c.past_spaces.result.rest.now rest
    (subst IsUtf8 (c.as_bytes-bytes.ensures.value ∙ sym rest) c.as_bytes-bytes.ensures.utf8)

pub past-requires-clause-plain : goal.past-requires-clause-plain
past-requires-clause-plain c =
    plain_tabs c.args.line.now (seen_marker c.in_ok-marker.marker) c.in_ok-marker.end c.in_ok-marker.ensures c.past_spaces.result.rest.now c.past_spaces.ensures.rest

pub returns : goal.returns
returns c =
    let line = c.args.line.now in
    let end = c.in_ok-marker.end in
    let spaces = c.past_spaces.ensures in
    lemmas.plain_item line (seen_marker c.in_ok-marker.marker) end c.in_ok-marker.ensures _ (seen_view c.past.result) refl
    (c.past.ensures
    ∙ ap₂ (λ i t. record { column = i + (end + 1); text = drop (end + 1) t; lazy = c.past_spaces.result.lazy }) spaces.column spaces.rest
    ∙ ap (λ z. record { column = line.column + line.spaces + (end + 1); text = drop (end + 1) line.rest.now; lazy = z }) spaces.lazy)
