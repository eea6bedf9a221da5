use Rattle.std.proofs.Common.{◌∙◌, sym, ap, refl, arith}
use Rattle.cm_text.specs.Views.{seen_view}
use Rattle.cm_block.specs.OpenLeaf.{stays_open, is_last, line_of_leaf}
use Rattle.cm_block.specs.LeafViews.{leaf_of}
use Rattle.cm_block.specs.steps.LeafSteps.{leaves_with, taken_of}
use Rattle.cm_block.proofs.lemmas.ParserLemmas.{stack_stays, stack_ends}
use Rattle.cm_block.proofs.parser.BlockParser.take_to_leaf.Goals as goal

pub returns-in-Stays-clause-taken : goal.returns-in-Stays-clause-taken
returns-in-Stays-clause-taken c =
    let s = c.args.self.now in
    let y = c.take_line.new.self in (
      omega (arith, c.depth.ensures, c.if-depth.false),
      (
        stays_open (leaf_of y),
        (
          ap (λ r. line_of_leaf r (leaf_of s.leaf) (seen_view c.args.line.now.rest)) (sym c.rules.ensures) ∙ sym c.in_ok-take_line.ensures.line ∙ ap (λ t. taken_of t y) c.in-Stays.is,
          stack_stays s.stack.bare s.stack.frames s.stack.frames s.stack.level s.stack.level (leaf_of y) s.owners c.requires.plain refl refl,
        ),
      ),
    )

pub returns-in_ok-close-in-Last-clause-taken : goal.returns-in_ok-close-in-Last-clause-taken
returns-in_ok-close-in-Last-clause-taken c =
    let s = c.args.self.now in
    let y = c.take_line.new.self in
    let leaves = leaves_with c.in-Last.ending y in
    let closed = c.in_ok-close-in-Last.ensures in (
      omega (arith, c.depth.ensures, c.if-depth.false),
      (
        is_last leaves,
        (
          ap (λ r. line_of_leaf r (leaf_of s.leaf) (seen_view c.args.line.now.rest)) (sym c.rules.ensures) ∙ sym c.in_ok-take_line.ensures.line ∙ ap (λ t. taken_of t y) c.in-Last.is,
          stack_ends c.close.new.stack.bare s.stack.frames c.close.new.stack.frames s.stack.level c.close.new.stack.level (leaf_of c.close.new.self) s.owners c.close.new.owners leaves
              (closed.bare ∙ c.requires.plain) closed.frames closed.leaf closed.level closed.owners,
        ),
      ),
    )
