use Rattle.std.proofs.Common.{◌∙◌, sym, arith}
use Rattle.cm_scan.proofs.lemmas.blocks.HtmlStarts.{block_none, block_named}
use Rattle.cm_scan.proofs.html_blocks.is_block_tag_start.Goals as goal

pub returns-in_default : goal.returns-in_default
returns-in_default c = record { start = sym (block_none c.args.rules c.args.beyond.now c.name_of_tag.result.now c.name_of_tag.ensures.name c.in_default.ensures.read) }

pub returns-then-is_at_tag_end : goal.returns-then-is_at_tag_end
returns-then-is_at_tag_end c = record {
  start = let is = block_named c.args.rules c.args.beyond.now c.name_of_tag.result.now c.name_of_tag.ensures.name _ c.in-Some.ensures.read in
      let yes = sym c.is_at_tag_end.ensures.ends ∙ c.if-is_at_tag_end.true in
      grind (arith, is, yes, c.is_block_name.ensures.among);
}

pub returns-else-is_at_tag_end : goal.returns-else-is_at_tag_end
returns-else-is_at_tag_end c = record {
  start = let is = block_named c.args.rules c.args.beyond.now c.name_of_tag.result.now c.name_of_tag.ensures.name _ c.in-Some.ensures.read in
      let not_so = sym c.is_at_tag_end.ensures.ends ∙ c.if-is_at_tag_end.false in
      grind (arith, is, not_so, c.if-is_at_tag_end.false);
}
