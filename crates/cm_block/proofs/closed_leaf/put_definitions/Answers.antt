use Rattle.std.proofs.Common.{◌∙◌, sym, ap, arith}
use Rattle.cm_scan.specs.blocks.Blocks.{line_feeds}
use Rattle.std.proofs.lemmas.Str.{IsCharBoundary-start}
use Rattle.cm_block.proofs.lemmas.RunLemmas.{next_fewer, next_left, none_left}
use Rattle.cm_block.proofs.lemmas.PutLemmas.{feeds_parted, definition_closes, definition_owns, nothing_closes, nothing_owns, some_definition}
use Rattle.cm_block.proofs.closed_leaf.put_definitions.Goals as goal

pub definition-requires : goal.definition-requires
definition-requires c = IsCharBoundary-start c.loop-found.rest.now c.loop-found.invariant.utf8

pub lines_taken-lines-requires-clause-some : goal.lines_taken-lines-requires-clause-some
lines_taken-lines-requires-clause-some c =
    let found = c.in-Some.found in
    some_definition c.loop-found.rest.now found.label.now found.dest.now found.title.now c.in-Some.end c.in-Some.ensures.read

pub lines_taken-lines-requires-clause-feeds : goal.lines_taken-lines-requires-clause-feeds
lines_taken-lines-requires-clause-feeds c =
    feeds_parted c.loop-found.rest.now c.range.result.now c.in-Some.end c.line_feeds-taken.result c.range.ensures.value c.line_feeds-taken.ensures.count

pub overflow_sub-left : goal.overflow_sub-left
overflow_sub-left c =
    omega (
      arith,
      c.loop-found.invariant.feeds,
      feeds_parted c.loop-found.rest.now c.range.result.now c.in-Some.end c.line_feeds-taken.result c.range.ensures.value c.line_feeds-taken.ensures.count,
    )

pub loop-found-smaller : goal.loop-found-smaller
loop-found-smaller c =
    let found = c.in-Some.found in
    next_fewer c.loop-found.rest.now c.range_from-rest.result.now found.label.now found.dest.now found.title.now c.in-Some.end c.in-Some.ensures.read c.range_from-rest.ensures.value

pub loop-found-preserved : goal.loop-found-preserved
loop-found-preserved c =
    let found = c.in-Some.found in
    let rest = c.loop-found.rest.now in
    let left = c.range_from-rest.result.now in
    let kept = c.loop-found.invariant in
    let put = c.in_ok-put_definition.ensures in
    record {
      utf8 = c.range_from-rest.utf8;
      feeds = omega (
        arith,
        kept.feeds,
        feeds_parted rest c.range.result.now c.in-Some.end c.line_feeds-taken.result c.range.ensures.value c.line_feeds-taken.ensures.count,
        ap line_feeds c.range_from-rest.ensures.value,
      );
      left = next_left rest left found.label.now found.dest.now found.title.now c.in-Some.end c.in-Some.ensures.read c.range_from-rest.ensures.value ∙ kept.left;
      level = definition_closes c.loop-found.stack.level c.put_definition.new.stack.level rest left found.label.now found.dest.now found.title.now c.in-Some.end c.in-Some.ensures.read
          c.range_from-rest.ensures.value put.level
          ∙ kept.level;
      frames = put.frames ∙ kept.frames;
      bare = put.bare ∙ kept.bare;
      owners = definition_owns c.loop-found.owners c.put_definition.new.owners rest left found.label.now found.dest.now found.title.now c.in-Some.end c.lines_taken-lines.result c.in-Some.ensures.read
          c.range_from-rest.ensures.value c.lines_taken-lines.ensures put.owners
          ∙ kept.owners;
      counted = put.counted;
      few = omega (arith, kept.few);
    }

pub returns-clause-left : goal.returns-clause-left
returns-clause-left c = none_left c.loop-found.rest.now c.in_default.ensures.read ∙ c.loop-found.invariant.left

pub returns-clause-level : goal.returns-clause-level
returns-clause-level c = sym (nothing_closes c.loop-found.stack.level c.loop-found.rest.now c.in_default.ensures.read) ∙ c.loop-found.invariant.level

pub returns-clause-owners : goal.returns-clause-owners
returns-clause-owners c = sym (nothing_owns c.loop-found.owners c.loop-found.rest.now c.in_default.ensures.read) ∙ c.loop-found.invariant.owners
