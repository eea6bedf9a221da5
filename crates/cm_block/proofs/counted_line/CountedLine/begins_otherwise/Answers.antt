use Rattle.std.proofs.Common.{◌≡◌, refl, ◌∙◌, sym, ap, ap₂}
use Rattle.cm_text.specs.Lines.{LineView}
use Rattle.cm_text.specs.Views.{seen_view}
use Rattle.cm_text.specs.declared.view.View.{View}
use Rattle.cm_scan.specs.blocks.Lines.{is_blank}
use Rattle.cm_scan.specs.blocks.Starts.{QuoteMarker, ItemStart, start_of}
use Rattle.cm_block.specs.OpenLeaf.{begins_quote, begins_item, begin_of_start, begin_of}
use Rattle.cm_block.specs.steps.ContinuationViews.{seen_marker}
use Rattle.cm_block.specs.steps.StartViews.{seen}
use Rattle.cm_block.proofs.lemmas.OpenedInTurn.{begins-as}
use Rattle.cm_block.proofs.counted_line.CountedLine.begins_otherwise.Goals as goal

pub returns-in-Ok-clause-found : goal.returns-in-Ok-clause-found
returns-in-Ok-clause-found c =
    let line = ap seen_view c.in-Some.ensures.other ∙ c.requires in
    let h = c.in-Ok.ensures.quote c.args.rules in (
      ap is_blank (sym line) ∙ c.in-Some.ensures.filled,
      ap (begin_of c.args.rules) (sym line)
          ∙ begins-as c.args.rules (seen_view c.in-Some.filled.view) QuoteMarker c.in-Some.ensures.filled h.0
          ∙ ap begins_quote (sym h.1 ∙ ap seen_view (sym c.enter.ensures.line)),
    )

pub returns-in-Leaf-clause-found : goal.returns-in-Leaf-clause-found
returns-in-Leaf-clause-found c =
    let line = ap seen_view c.in-Some.ensures.other ∙ c.requires in
    let same = ap seen_view c.in-Err.ensures.other in
    let start = c.in-Leaf.ensures in (
      ap is_blank (sym line) ∙ c.in-Some.ensures.filled,
      (
        ap (begin_of c.args.rules) (sym line)
            ∙ ap (begin_of c.args.rules) (sym same)
            ∙ begins-as c.args.rules (seen_view c.in-Err.unquoted.view) (seen c.in-Leaf.start.found) (ap is_blank same ∙ c.in-Some.ensures.filled) start.0
            ∙ ap (begin_of_start c.args.rules (seen c.in-Leaf.start.found)) (same ∙ line),
        (start.1, refl),
      ),
    )

pub returns-in-Item-clause-found : goal.returns-in-Item-clause-found
returns-in-Item-clause-found c =
    let line = ap seen_view c.in-Some.ensures.other ∙ c.requires in
    let start = c.in-Item.ensures in
    let same = start.1 ∙ ap seen_view c.in-Err.ensures.other in
    let marker = seen_marker c.in-Item.marker in
    let entered = ap seen_view (sym c.enter-in-Item.ensures.line) in (
      ap is_blank (sym line) ∙ c.in-Some.ensures.filled,
      (
        ap (begin_of c.args.rules) (sym line)
            ∙ ap (begin_of c.args.rules) (sym same)
            ∙ begins-as c.args.rules (seen_view c.in-Item.searched.view) (ItemStart marker) (ap is_blank same ∙ c.in-Some.ensures.filled)
            (ap (start_of c.args.rules) start.1 ∙ start.0)
            ∙ ap₂ (begins_item c.in-Item.marker.kind) (sym c.item_content-column.ensures.column) (sym c.item_content-column.ensures.first ∙ entered),
        c.item_content-column.ensures.bare ∙ ap is_blank entered,
      ),
    )
