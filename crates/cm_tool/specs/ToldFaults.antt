-- How the faults of a text, of its lines, of a spelling and of a writing are reported.
use Rattle.cm_text.specs.declared.fault.TextFault.{TextFault}
use Rattle.cm_text.specs.declared.fault.TextFault.TheVariants as text
use Rattle.cm_block.specs.declared.fault.BlockFault.{BlockFault}
use Rattle.cm_block.specs.declared.fault.BlockFault.TheVariants as blocks
use Rattle.cm_html.specs.declared.fault.HtmlFault.{HtmlFault}
use Rattle.cm_html.specs.declared.fault.HtmlFault.TheVariants as html
use Rattle.cm_source.specs.declared.fault.SourceFault.{SourceFault}
use Rattle.cm_source.specs.declared.fault.SourceFault.TheVariants as source
use Rattle.cm_tool.specs.declared.fault.Fault.{Fault}
use Rattle.cm_tool.specs.declared.fault.Fault.TheVariants.{NotUtf8, TooLong, BlocksTooDeep, NoMemory, Unspellable, WriteFailed}

-- the fault of a text, as the fault of the task that reads it
abbrev pub told : TextFault → Fault
told (text.NotUtf8 at) = NotUtf8 at
told (text.TooLong at) = TooLong at
told text.NoMemory = NoMemory

-- the fault of lines, as the fault of the task that reads them
abbrev pub refused : BlockFault → Fault
refused (blocks.BlocksTooDeep line) = BlocksTooDeep line
refused blocks.NoMemory = NoMemory

-- why HTML isn't written to its end, as the fault of the task that writes it
abbrev pub unwritten : HtmlFault → Fault
unwritten html.NoMemory = NoMemory
unwritten (html.WriteFailed written) = WriteFailed written

-- why a tree isn't spelled, as the fault of the task that rewrites a text
abbrev pub unspelled : SourceFault → Fault
unspelled source.NoMemory = NoMemory
unspelled (source.Unspellable why) = Unspellable why
