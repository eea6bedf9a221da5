use Rattle.std.proofs.Common.{◌∙◌, sym, ap, refl, true, false, inl, inr}
use Rattle.cm_text.specs.Views.{seen_view}
use Rattle.cm_block.specs.steps.StartViews.{seen}
use Rattle.cm_block.proofs.lemmas.NextLineLemmas.{interrupts}
use Rattle.cm_block.proofs.counted_line.interruptions.interrupts_paragraph.Goals as goal

pub returns-in-QuoteMarker : goal.returns-in-QuoteMarker
returns-in-QuoteMarker c =
    let line = seen_view c.args.line.now in
    elim c.in-QuoteMarker.is [
      | inl quote ↦ interrupts _ _ line true (ap seen (sym quote) ∙ c.start_of.ensures) refl
      | inr others ↦ elim others [
        | inl heading ↦ interrupts _ _ line true (ap seen (sym heading.1) ∙ c.start_of.ensures) refl
        | inr others ↦ elim others [
          | inl fence ↦ interrupts _ _ line true (ap seen (sym fence.1) ∙ c.start_of.ensures) refl
          | inr break ↦ interrupts _ _ line true (ap seen (sym break) ∙ c.start_of.ensures) refl
        ]
      ]
    ]

pub returns-in-Html : goal.returns-in-Html
returns-in-Html c = interrupts _ _ (seen_view c.args.line.now) _ (ap seen (sym c.in-Html.is) ∙ c.start_of.ensures) (c.html_interrupts.ensures (seen_view c.args.line.now))

pub returns-in-Item : goal.returns-in-Item
returns-in-Item c = interrupts _ _ (seen_view c.args.line.now) _ (ap seen (sym c.in-Item.is) ∙ c.start_of.ensures) c.item_interrupts.ensures

pub returns-in-IndentedCode : goal.returns-in-IndentedCode
returns-in-IndentedCode c =
    let line = seen_view c.args.line.now in
    elim c.in-IndentedCode.is [
      | inl code ↦ interrupts _ _ line false (ap seen (sym code) ∙ c.start_of.ensures) refl
      | inr text ↦ interrupts _ _ line false (ap seen (sym text) ∙ c.start_of.ensures) refl
    ]
