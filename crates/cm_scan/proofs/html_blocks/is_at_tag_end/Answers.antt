use Rattle.std.proofs.Common.{◌≡◌, ◌∙◌, codes, false, sym, arith}
use Rattle.cm_scan.specs.blocks.HtmlBlocks.{is_at_name_end}
use Rattle.cm_scan.proofs.lemmas.blocks.WordsInAnyCase.{starts_at}
use Rattle.cm_scan.proofs.html_blocks.is_at_tag_end.Goals as goal

pub returns-else-is_at_name_end : goal.returns-else-is_at_name_end
returns-else-is_at_name_end c = record {
  ends = let none : is_at_name_end c.args.bytes.now ≡ false = sym c.is_at_name_end.ensures.ends ∙ c.if-is_at_name_end.false in
      c.starts_with.ensures.value ∙ starts_at (codes "/>") c.args.bytes.now ∙ grind (arith, none);
}
