use Rattle.std.proofs.Common.{◌∙◌, arith}
use Rattle.cm_text.specs.Views.{seen_view}
use Rattle.cm_scan.specs.blocks.Lines.{content_of}
use Rattle.cm_block.specs.steps.ContinuationViews.{seen_marker}
use Rattle.cm_block.proofs.lemmas.MarkerPlaces.{marked, item-begins}
use Rattle.cm_block.proofs.lemmas.ContinuationLemmas.{column_is, first_is_content}
use Rattle.cm_block.proofs.counted_line.continuations.item_content.Goals as goal

pub overflow_add-column : goal.overflow_add-column
overflow_add-column c =
    let begins = item-begins _ (seen_view c.args.line.now) (seen_marker c.args.marker.now) c.requires.1 in
    omega (arith, (marked (content_of (seen_view c.args.line.now)) (seen_marker c.args.marker.now) begins.1).few)

pub overflow_add-column-2 : goal.overflow_add-column-2
overflow_add-column-2 c =
    let begins = item-begins _ (seen_view c.args.line.now) (seen_marker c.args.marker.now) c.requires.1 in
    omega (arith, begins.0, c.indent.ensures, (marked (content_of (seen_view c.args.line.now)) (seen_marker c.args.marker.now) begins.1).few)

pub overflow_add-column-3 : goal.overflow_add-column-3
overflow_add-column-3 c =
    let begins = item-begins _ (seen_view c.args.line.now) (seen_marker c.args.marker.now) c.requires.1 in
    omega (arith, begins.0, c.indent.ensures, c.content_offset-offset.ensures.few, (marked (content_of (seen_view c.args.line.now)) (seen_marker c.args.marker.now) begins.1).few)

pub returns-clause-column : goal.returns-clause-column
returns-clause-column c =
    column_is (seen_marker c.args.marker.now) (seen_view c.args.line.now) (seen_view c.with_columns-beyond.result) c.indent.result c.content_offset-offset.result
    (c.with_columns-beyond.ensures ∙ c.after_marker.ensures) c.indent.ensures c.content_offset-offset.ensures.value

pub returns-clause-first : goal.returns-clause-first
returns-clause-first c =
    c.strip.ensures.line
    ∙ first_is_content (seen_marker c.args.marker.now) (seen_view c.args.line.now) (seen_view c.with_columns-beyond.result) c.content_offset-offset.result
    (c.with_columns-beyond.ensures ∙ c.after_marker.ensures) c.content_offset-offset.ensures.value
