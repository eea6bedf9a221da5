use Rattle.std.proofs.Common.{◌≡◌, ◌∙◌, sym, ap}
use Rattle.cm_text.specs.Views.{seen_view}
use Rattle.cm_text.specs.declared.view.View.{View}
use Rattle.cm_scan.specs.blocks.Starts.{interrupts_paragraph}
use Rattle.cm_scan.specs.blocks.Blocks.{next_line}
use Rattle.cm_scan.specs.steps.LineSteps.{by_interruption}
use Rattle.cm_block.specs.steps.LeafSteps.{leaf_line, heading_level}
use Rattle.cm_block.proofs.lemmas.NextLineLemmas.{underlines, interrupted, lazy_interrupts}
use Rattle.cm_block.proofs.text_runs.next_line.Goals.{In_default, In_default-heading_level}
use Rattle.cm_block.proofs.text_runs.next_line.Goals as goal

pub returns-in-Some-heading_level-clause-next : goal.returns-in-Some-heading_level-clause-next
returns-in-Some-heading_level-clause-next c =
    let at = (goal.at.returns-in-Some-heading_level-clause-next c).In_default in
    ap leaf_line (underlines _ c.args.source.now (seen_view c.args.line.now.rest) c.in-Some-heading_level.level at.in_default.ensures.other
    (c.in-Some-heading_level.ensures.level ∙ ap (λ (v : View). heading_level c.args.source.now (seen_view v)) c.look.ensures.read.same))

-- the line doesn't underline the text above it
none : (c : In_default-heading_level) → by_interruption (interrupts_paragraph c.args.rules (seen_view c.args.line.now.rest)) ≡ next_line c.args.rules c.args.source.now (seen_view c.args.line.now.rest)
none c =
    interrupted _ c.args.source.now (seen_view c.args.line.now.rest) (goal.at.In_default-heading_level c).In_default.in_default.ensures.other
    (c.in_default-heading_level.ensures.level ∙ ap (λ (v : View). heading_level c.args.source.now (seen_view v)) c.look.ensures.read.same)

pub returns-then-interrupts_paragraph-clause-next : goal.returns-then-interrupts_paragraph-clause-next
returns-then-interrupts_paragraph-clause-next c =
    ap leaf_line (ap by_interruption (sym c.if-interrupts_paragraph.true ∙ c.interrupts_paragraph.ensures.interrupts
    ∙ ap (λ (v : View). interrupts_paragraph c.args.rules (seen_view v)) (c.in_default-heading_level.ensures.read.same ∙ c.look.ensures.read.same))
    ∙ none (goal.at.returns-then-interrupts_paragraph-clause-next c).In_default-heading_level)

-- a lazy continuation line interrupts nothing
pub returns-then-interrupts_paragraph-clause-lazy : goal.returns-then-interrupts_paragraph-clause-lazy
returns-then-interrupts_paragraph-clause-lazy c = λ ends lazy.
    let interrupts = sym c.interrupts_paragraph.ensures.interrupts ∙ c.if-interrupts_paragraph.true in
    let line = c.in_default-heading_level.ensures.read.same ∙ c.look.ensures.read.same in
    absurd (cc (interrupts, lazy_interrupts c.args.rules (seen_view c.heading_level.new.line.rest) (ap (λ (v : View). v.lazy) line ∙ lazy)))

pub returns-clause-next : goal.returns-clause-next
returns-clause-next c =
    ap leaf_line (ap by_interruption (sym c.if-interrupts_paragraph.false ∙ c.interrupts_paragraph.ensures.interrupts
    ∙ ap (λ (v : View). interrupts_paragraph c.args.rules (seen_view v)) (c.in_default-heading_level.ensures.read.same ∙ c.look.ensures.read.same))
    ∙ none (goal.at.returns-clause-next c).In_default-heading_level)
