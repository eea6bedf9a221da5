-- A fault that a call returns for one input is the fault of another.
use Rattle.std.proofs.Common.{◌≡◌, Option, Some}
use Rattle.cm_tool.specs.declared.fault.Fault.{Fault}
use Rattle.cm_tool.specs.declared.fault.Fault.TheVariants.{NotUtf8, TooLong, BlocksTooDeep, InlinesTooDeep, NoMemory, ReadFailed, WriteFailed, Unspellable, BadExampleFile, ExampleDiffers}
use Rattle.cm_tool.specs.Parsing.{TellsFault}

-- The other input has each fault that the one has.
pub tells_other : (one other : Option Fault) → ((fault : Fault) → one ≡ Some fault → other ≡ Some fault)
    → (fault : Fault) → TellsFault fault one → TellsFault fault other
tells_other one other same (NotUtf8 at) told = same (NotUtf8 at) told
tells_other one other same (TooLong at) told = same (TooLong at) told
tells_other one other same (BlocksTooDeep line) told = same (BlocksTooDeep line) told
tells_other one other same (InlinesTooDeep leaf) told = same (InlinesTooDeep leaf) told
tells_other one other same NoMemory told = tt
tells_other one other same ReadFailed told = absurd told
tells_other one other same (WriteFailed written) told = absurd told
tells_other one other same (Unspellable why) told = absurd told
tells_other one other same (BadExampleFile line) told = absurd told
tells_other one other same (ExampleDiffers number) told = absurd told
