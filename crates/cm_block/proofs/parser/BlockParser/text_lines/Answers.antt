use Rattle.std.proofs.Common.{◌∙◌, ap, arith}
use Rattle.cm_text.specs.Lines.{lines_of, plain_lines_of}
use Rattle.cm_text.specs.declared.text_lines.TextLines.{TextLines}
use Rattle.cm_text.proofs.lemmas.TextLineLemmas.{all_lines}
use Rattle.cm_block.specs.OpenLeaf.{open_text}
use Rattle.cm_block.specs.steps.TextRuns.{add_lines}
use Rattle.cm_block.proofs.lemmas.TextStands.{text_stands}
use Rattle.cm_block.proofs.parser.BlockParser.text_lines.Goals as goal

pub returns-clause-stands : goal.returns-clause-stands
returns-clause-stands c =
    let s = c.args.self.now in
    let t = c.args.more.now in
    let after = c.in_default.ensures in
    let given = c.new-lines.ensures.lines in
    λ lines h.
    text_stands (lines_of t.text.now) t.spaces s _ lines (omega (arith, t.lines.some, t.lines.counted)) c.requires after.level
    (λ source is. after.text source is ∙ ap (λ (m : TextLines). open_text (add_lines source (plain_lines_of m.text.now))) given)
    after.frames after.bare after.owners after.limits after.fault
    (omega (arith, c.saturating_add-self.ensures, c.into_tests.ensures, after.tests, after.counted, c.new-lines.ensures.tests, ap (λ (m : TextLines). m.count) given, t.lines.counted))
    (omega (arith, c.blocks-limit.ensures.value, c.blocks-limit.ensures.bound))
    t.lines.are_text (all_lines t.text.now) h
