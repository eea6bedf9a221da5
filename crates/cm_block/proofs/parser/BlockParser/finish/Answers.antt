use Rattle.std.proofs.Common.{◌≡◌, ◌∙◌, ◌≤◌, ◌^◌, length, ap, arith}
use Rattle.cm_text.specs.Limits.{LimitsView}
use Rattle.cm_block.specs.LeafViews.{leaf_of}
use Rattle.cm_block.specs.Parser.{stack_of}
use Rattle.cm_block.specs.Tests.{container_count, count_of}
use Rattle.cm_block.proofs.lemmas.TestLemmas.{tested_all}
use Rattle.cm_block.proofs.lemmas.ParserLemmas.{all_blocks, all_owners, all_lines, all_containers, all_definitions}
use Rattle.cm_block.proofs.parser.BlockParser.finish.Goals as goal

pub returns-clause-outline : goal.returns-clause-outline
returns-clause-outline c = λ lines h.
    let s = c.args.self in
    let closed = c.in_ok-close.ensures in
    let now = c.close.new.self in
    let fs = s.stack.frames in
    let v = s.stack.level in
    let x = leaf_of s.leaf in
    record {
      blocks = c.in_ok-into_outline.ensures.blocks ∙ all_blocks _ s.stack.bare fs v x s.owners lines h.holds now.stack.level closed.level;
      owners = c.in_ok-into_outline.ensures.owners ∙ all_owners _ s.stack.bare fs v x s.owners lines h.holds now.owners closed.owners;
      definitions = c.in_ok-into_outline.ensures.definitions ∙ all_definitions _ s.stack.bare fs v x s.owners lines h.holds now.owners closed.owners;
    }

pub returns-clause-tests : goal.returns-clause-tests
returns-clause-tests c = λ lines h.
    let s = c.args.self in
    let closed = c.in_ok-close.ensures in
    let now = c.close.new.self in
    let fs = s.stack.frames in
    let v = s.stack.level in
    let x = leaf_of s.leaf in
    let handed : length now.owners.owners ≡ length lines = all_lines _ s.stack.bare fs v x s.owners lines h.holds h.are_lines now.owners closed.owners in
    let blocks : s.limits.blocks ≤ 500 = omega (arith, c.blocks-2.ensures.bound, c.blocks-2.ensures.value, ap (λ (k : LimitsView). k.blocks) closed.limits) in
    let few : length lines ≤ 2 ^ 96 = omega (arith, c.len.ensures.bound, c.len.ensures.len, handed) in
    let all = tested_all (count_of (stack_of s)) s.limits.blocks (length lines) s.tests blocks few h.tests in
    record {
      enough = omega (
        arith,
        all.0,
        closed.tests,
        c.in_ok-into_outline.ensures.tests,
        ap container_count c.in_ok-into_outline.ensures.blocks,
        all_containers _ s.stack.bare fs v x s.owners lines h.holds now.stack.level closed.level,
      );
      few = omega (arith, all.1, closed.tests, c.in_ok-into_outline.ensures.tests);
    }
