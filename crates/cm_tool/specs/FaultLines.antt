-- The lines that report faults.
use Rattle.std.specs.Prelude.{ℕ, List, codes, ◌++◌}
use Rattle.std.specs.Fmt.{decimal}
use Rattle.cm_source.specs.Reasons.{reason_text}
use Rattle.cm_tool.specs.declared.fault.Fault.{Fault}
use Rattle.cm_tool.specs.declared.fault.Fault.TheVariants.{NotUtf8, TooLong, BlocksTooDeep, InlinesTooDeep, NoMemory, ReadFailed, WriteFailed, Unspellable, BadExampleFile, ExampleDiffers}

-- the text of a fault: its number, what is wrong, and where
abbrev pub fault_text : Fault → List ℕ
fault_text (NotUtf8 at) = codes "F1 not UTF-8 at byte " ++ decimal at
fault_text (TooLong at) = codes "F2 input too long at byte " ++ decimal at
fault_text (BlocksTooDeep line) = codes "F3 blocks too deep on line " ++ decimal line
fault_text (InlinesTooDeep leaf) = codes "F4 inlines too deep in leaf " ++ decimal leaf
fault_text NoMemory = codes "F5 out of memory"
fault_text ReadFailed = codes "F6 read failed"
fault_text (WriteFailed written) = codes "F7 write failed after " ++ decimal written ++ codes " bytes"
fault_text (Unspellable why) = codes "F8 cannot be spelled: " ++ reason_text why
fault_text (BadExampleFile line) = codes "F9 bad example file at line " ++ decimal line
fault_text (ExampleDiffers number) = codes "F10 example " ++ decimal number ++ codes " differs"

-- the line with a text, as the program prints it
abbrev pub line_of : List ℕ → List ℕ
line_of text = codes "cmk: " ++ text ++ codes "\n"
