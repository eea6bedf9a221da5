use Rattle.std.proofs.Common.{[], length, ◌≡◌, ◌∙◌, sym, ap, subst}
use Rattle.std.proofs.lemmas.Bool.{eqb-true}
use Rattle.std.proofs.lemmas.List.{nil_from_length}
use Rattle.cm_text.specs.Views.{seen_view}
use Rattle.cm_scan.specs.Words.{is_blank_text}
use Rattle.cm_scan.specs.blocks.Lines.{is_blank}
use Rattle.cm_scan.specs.blocks.Starts.{TextLine}
use Rattle.cm_block.specs.OpenLeaf.{begins_item, begin_of_start, begin_of}
use Rattle.cm_block.specs.steps.FirstLines.{Found, begins_container}
use Rattle.cm_block.specs.steps.StartViews.{seen}
use Rattle.cm_text.specs.declared.view.View.{View}
use Rattle.cm_block.proofs.lemmas.ContinuationLemmas.{blank_spaces}
use Rattle.cm_block.proofs.lemmas.StartLemmas.{text_shows, text_starts}
use Rattle.cm_block.proofs.lemmas.OpenedInTurn.{begins-as, item_begins}
use Rattle.cm_block.proofs.counted_line.CountedLine.begins.Goals as goal

pub returns-then-begins_with_letter-clause-found : goal.returns-then-begins_with_letter-clause-found
returns-then-begins_with_letter-clause-found c =
    let view = c.read-line.result.view in
    let line = ap seen_view c.read-line.ensures.line in
    let begins = c.begins_with_letter.ensures c.if-begins_with_letter.true in
    let shows = text_shows view begins in (
      ap is_blank (sym line) ∙ shows,
      (
        ap (begin_of c.args.rules) (sym line)
            ∙ begins-as c.args.rules (seen_view view) TextLine shows (text_starts view begins c.args.rules)
            ∙ ap (begin_of_start c.args.rules TextLine) line
            ∙ ap (λ s. begin_of_start c.args.rules (seen s) (seen_view c.args.self.now.rest)) (sym c.text.ensures),
        (ap (λ s. begins_container (seen s)) c.text.ensures, ap seen_view c.read-line.ensures.read.same),
      ),
    )

pub returns-then-has_no_byte-clause-found : goal.returns-then-has_no_byte-clause-found
returns-then-has_no_byte-clause-found c =
    let view = c.read-line.result.view in
    let none : view.rest.now ≡ [] = nil_from_length view.rest.now (eqb-true (length view.rest.now) 0 (sym c.has_no_byte.ensures ∙ c.if-has_no_byte.true)) in (
      ap is_blank (sym (ap seen_view c.read-line.ensures.line)) ∙ blank_spaces view.spaces view.rest.now ∙ ap is_blank_text none,
      ap seen_view c.read-line.ensures.read.same,
    )

pub returns-in-Ok-clause-found : goal.returns-in-Ok-clause-found
returns-in-Ok-clause-found c =
    let line = c.with_columns.ensures ∙ ap seen_view c.read-line.ensures.line in
    let item = c.in-Ok.ensures.item in
    let entered = ap seen_view (sym c.enter.ensures.line) in (
      ap is_blank (sym line) ∙ item.some,
      (
        ap (begin_of c.args.rules) (sym line) ∙ item_begins c.args.rules (seen_view c.with_columns.result.view) c.in-Ok.item.kind c.in-Ok.item.column (seen_view c.in-Ok.item.inner.view) item
            ∙ ap (begins_item c.in-Ok.item.kind c.in-Ok.item.column) entered,
        sym (ap is_blank (sym entered) ∙ item.more),
      ),
    )

pub returns-then-starts_as_text-clause-found : goal.returns-then-starts_as_text-clause-found
returns-then-starts_as_text-clause-found c =
    let line = ap seen_view c.in-Err.ensures.other ∙ c.with_columns.ensures ∙ ap seen_view c.read-line.ensures.line in
    let view = c.in-Err.unmarked.view in
    let begins = sym c.starts_as_text.ensures ∙ c.if-starts_as_text.true in
    let shows = text_shows view begins in (
      ap is_blank (sym line) ∙ shows,
      (
        ap (begin_of c.args.rules) (sym line)
            ∙ begins-as c.args.rules (seen_view view) TextLine shows (text_starts view begins c.args.rules)
            ∙ ap (begin_of_start c.args.rules TextLine) line
            ∙ ap (λ s. begin_of_start c.args.rules (seen s) (seen_view c.args.self.now.rest)) (sym c.text-then-starts_as_text.ensures),
        (ap (λ s. begins_container (seen s)) c.text-then-starts_as_text.ensures, ap seen_view c.read-line.ensures.read.same),
      ),
    )

pub begins_otherwise-requires : goal.begins_otherwise-requires
begins_otherwise-requires c =
    ap seen_view c.in-Err.ensures.other ∙ c.with_columns.ensures ∙ ap seen_view (c.read-line.ensures.line ∙ sym c.read-line.ensures.read.same)

pub returns-clause-found : goal.returns-clause-found
returns-clause-found c = subst (λ (v : View). Found c.args.rules (seen_view v) c.begins_otherwise.result (seen_view c.begins_otherwise.new.self.rest)) c.read-line.ensures.read.same c.begins_otherwise.ensures.found
