-- Faults whose place has 64 bits.
use Rattle.std.specs.Prelude.{◌<◌, ◌^◌, ⊤}
use Rattle.cm_tool.specs.declared.fault.Fault.{Fault}
use Rattle.cm_tool.specs.declared.fault.Fault.TheVariants.{BlocksTooDeep}

-- the line of a fault, which is a number of 128 bits, has 64
abbrev pub HasPlace : Fault → Type 0
HasPlace (BlocksTooDeep line) = line < 2 ^ 64
HasPlace fault = ⊤
