use Rattle.std.proofs.Common.{◌≡◌, ◌<◌, ◌^◌}
use denote.Text.{Utf8}
use denote.Shadow.{shadow}
use Rattle.cm_scan.specs.inlines.Links.{definitions_of}
use Rattle.cm_scan.specs.blocks.Blocks.{line_feeds, line_count, definition_leaves}
use Rattle.cm_block.specs.Stack.{close_leaves, own_leaves}
use Rattle.cm_block.proofs.closed_leaf.put_definitions.Given as goal

-- what is put, and what is left to put, come to the whole
abbrev pub invariant-loop-found : goal.invariant-loop-found
invariant-loop-found l = record {
  utf8 : shadow (Utf8 l.rest);
  feeds : l.left ≡ line_feeds l.rest;
  left : (definitions_of l.rest).left ≡ (definitions_of l.text).left;
  level : close_leaves l.stack.level (definition_leaves l.rest (definitions_of l.rest).taken)
      ≡ close_leaves l.fn.stack.level (definition_leaves l.text (definitions_of l.text).taken);
  frames : l.stack.frames ≡ l.fn.stack.frames;
  bare : l.stack.bare ≡ l.fn.stack.bare;
  owners : own_leaves l.owners (definition_leaves l.rest (definitions_of l.rest).taken)
      ≡ own_leaves l.fn.owners (definition_leaves l.text (definitions_of l.text).taken);
  counted : l.leaves ≡ l.owners.leaves;
  few : l.left < 2 ^ 63;
}

abbrev pub decreases-loop-found : goal.decreases-loop-found
decreases-loop-found l = line_count l.rest
