use Rattle.std.proofs.Common.{◌∙◌, sym, subst, arith, add-one, ◌+◌, refl}
use Rattle.cm_text.specs.Views.{seen_view}
use Rattle.cm_scan.specs.blocks.Lines.{content_of}
use Rattle.cm_block.specs.steps.ContinuationViews.{seen_marker}
use Rattle.cm_block.proofs.lemmas.StartLemmas.{content_left}
use Rattle.cm_block.proofs.lemmas.MarkerPlaces.{Marked, marked, item-begins, gap_boundary}
use Rattle.cm_block.proofs.lemmas.ContinuationLemmas.{past_content}
use Rattle.cm_block.proofs.counted_line.continuations.after_marker.Goals as goal

at_marker : (c : goal.After-past-arg-1) → Marked c.strip.result.rest.now (seen_marker c.args.marker.now)
at_marker c =
    let line = seen_view c.args.line.now in
    let begins = item-begins _ line (seen_marker c.args.marker.now) c.requires.1 in
    let rest = content_left line c.indent.result c.strip.result c.indent.ensures c.strip.ensures.line (c.strip.ensures.bare (omega (arith, c.indent.ensures))) in
    subst (λ t. Marked t (seen_marker c.args.marker.now)) (sym rest) (marked (content_of line) (seen_marker c.args.marker.now) begins.1)

pub overflow_add-marker : goal.overflow_add-marker
overflow_add-marker c = omega (arith, (at_marker c).few)

pub past-requires-clause-boundary : goal.past-requires-clause-boundary
past-requires-clause-boundary c = gap_boundary c.strip.result.rest.now (seen_marker c.args.marker.now) (at_marker c)

pub past-requires-clause-plain : goal.past-requires-clause-plain
past-requires-clause-plain c = rw add-one (at_marker c).plain

pub returns : goal.returns
returns c =
    let line = seen_view c.args.line.now in
    c.past.ensures
    ∙ past_content line c.indent.result (c.args.marker.now.digits + 1) c.strip.result c.indent.ensures c.strip.ensures.line
    (c.strip.ensures.bare (omega (arith, c.indent.ensures)))
    ∙ rw add-one refl
