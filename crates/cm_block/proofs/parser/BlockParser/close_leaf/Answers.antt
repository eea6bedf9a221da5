use Rattle.std.proofs.Common.{◌∙◌, false, ap}
use Rattle.cm_block.specs.declared.open_leaf.Ending.TheVariants.{Plain}
use Rattle.cm_block.specs.steps.FrameSteps.{quoted_by}
use Rattle.cm_block.specs.LeafViews.{leaf_of}
use Rattle.cm_block.specs.steps.LeafSteps.{leaves_with}
use Rattle.cm_block.proofs.lemmas.LeafLemmas.{closes, nothing_open}
use Rattle.cm_block.proofs.lemmas.ParserLemmas.{nothing_closed, nothing_owned, level_with_blanks, level_without, owners_with_blanks, owners_without}
use Rattle.cm_block.proofs.parser.BlockParser.close_leaf.Goals as goal

pub returns-in_ok-blank_lines-clause-level : goal.returns-in_ok-blank_lines-clause-level
returns-in_ok-blank_lines-clause-level c =
    let s = c.args.self.now in
    c.push_blank.ensures.level
    ∙ level_with_blanks (leaf_of s.leaf) (leaves_with Plain s.leaf) c.blank_lines-blank_lines.result
    (closes s.leaf) c.blank_lines-blank_lines.ensures
    s.stack.level c.close.new.stack.level c.if-blank_lines-gt0.true c.in_ok-close.ensures.level

pub returns-in_ok-blank_lines-clause-owners : goal.returns-in_ok-blank_lines-clause-owners
returns-in_ok-blank_lines-clause-owners c =
    let s = c.args.self.now in
    owners_with_blanks (leaf_of s.leaf) (leaves_with Plain s.leaf) c.blank_lines-blank_lines.result
    (closes s.leaf) c.blank_lines-blank_lines.ensures
    (quoted_by false s.stack.frames) c.is_quoted.result s.owners c.close.new.owners c.blank_lines.new.self c.in_ok-blank_lines.ensures.owned
    (c.is_quoted.ensures ∙ ap (quoted_by false) (c.push_blank.ensures.frames ∙ c.in_ok-close.ensures.frames)) c.in_ok-close.ensures.owners

pub returns-else-blank_lines-gt0-clause-level : goal.returns-else-blank_lines-gt0-clause-level
returns-else-blank_lines-gt0-clause-level c =
    let s = c.args.self.now in
    level_without (leaf_of s.leaf) (leaves_with Plain s.leaf) c.blank_lines-blank_lines.result
    (closes s.leaf) c.blank_lines-blank_lines.ensures
    s.stack.level c.close.new.stack.level c.if-blank_lines-gt0.false c.in_ok-close.ensures.level

pub returns-else-blank_lines-gt0-clause-owners : goal.returns-else-blank_lines-gt0-clause-owners
returns-else-blank_lines-gt0-clause-owners c =
    let s = c.args.self.now in
    owners_without (leaf_of s.leaf) (leaves_with Plain s.leaf) c.blank_lines-blank_lines.result
    (closes s.leaf) c.blank_lines-blank_lines.ensures
    (quoted_by false s.stack.frames) s.owners c.close.new.owners c.if-blank_lines-gt0.false c.in_ok-close.ensures.owners

pub returns-in-Nothing-clause-level : goal.returns-in-Nothing-clause-level
returns-in-Nothing-clause-level c =
    let leaf = c.args.self.now.leaf in
    nothing_closed c.args.self.now.stack.level (leaf_of leaf) (nothing_open leaf c.in-Nothing.is)

pub returns-in-Nothing-clause-owners : goal.returns-in-Nothing-clause-owners
returns-in-Nothing-clause-owners c =
    let leaf = c.args.self.now.leaf in
    nothing_owned (quoted_by false c.args.self.now.stack.frames) c.args.self.now.owners (leaf_of leaf) (nothing_open leaf c.in-Nothing.is)
