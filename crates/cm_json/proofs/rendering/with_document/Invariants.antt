use Rattle.std.proofs.Common.{◌≡◌, ◌++◌, true, map, drop}
use Rattle.cm_tree.specs.HeadingLevels.{all_of}
use Rattle.cm_json.specs.Mdast.{json_of}
use Rattle.cm_json.specs.SameDocuments.{is_in_range}
use Rattle.cm_json.specs.Writer.{whole_with, IsWithin}
use Rattle.cm_json.proofs.rendering.with_document.Given as goal

-- what was written and what is left are all
abbrev pub invariant-loop-block : goal.invariant-loop-block
invariant-loop-block l = record {
  whole : whole_with l.writer l.owners (drop l.block-index l.blocks) ≡ l.fn.text ++ json_of l.blocks l.owners;
  within : IsWithin l.writer l.owners;
  in_range : all_of (map is_in_range (drop l.block-index l.blocks)) ≡ true → all_of (map is_in_range l.blocks) ≡ true;
}
