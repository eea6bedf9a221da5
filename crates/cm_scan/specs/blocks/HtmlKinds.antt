-- The kinds of HTML blocks as the code has them.
use Rattle.cm_scan.specs.blocks.HtmlBlocks as html
use Rattle.cm_scan.specs.declared.html_blocks.HtmlKind.{HtmlKind}
use Rattle.cm_scan.specs.declared.html_blocks.HtmlKind.TheVariants.{RawText, Comment, Instruction, Declaration, CharacterData, BlockTag, AnyTag}

-- the kind of an HTML block that a value of the program represents
abbrev pub kind_of : HtmlKind → html.HtmlKind
kind_of RawText = html.RawText
kind_of Comment = html.Comment
kind_of Instruction = html.Instruction
kind_of Declaration = html.Declaration
kind_of CharacterData = html.CharacterData
kind_of BlockTag = html.BlockTag
kind_of AnyTag = html.AnyTag
