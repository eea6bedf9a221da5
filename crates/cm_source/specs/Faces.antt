-- What a block shows to those next to it, as the code has it.
use Rattle.std.specs.Prelude.{Option, option_map}
use Rattle.cm_source.specs.Refusals as refusals
use Rattle.cm_source.specs.declared.refusals.Face.{Face}
use Rattle.cm_source.specs.declared.refusals.Face.TheVariants.{Paragraph, Code, Quote, List, Other}

-- what the definitions call a face of the code
abbrev pub shown : Face → refusals.BlockFace
shown Paragraph = refusals.ParagraphFace
shown Code = refusals.CodeBlockFace
shown Quote = refusals.QuoteFace
shown (List kind filled) = refusals.ListFace kind filled
shown Other = refusals.OtherBlockFace

-- the same of the block before, if there is one
abbrev pub seen : Option Face → Option refusals.BlockFace
seen beside = option_map shown beside
