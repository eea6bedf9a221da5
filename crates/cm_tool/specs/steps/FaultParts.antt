-- The parts of a fault's text.
use Rattle.std.specs.Prelude.{ℕ, List, [], ◌++◌, Option, Some, None}
use Rattle.std.specs.Fmt.{decimal}
use Rattle.cm_tool.specs.declared.fault.Parts.{Parts}

abbrev pub number_text : Option ℕ → List ℕ
number_text None = []
number_text (Some number) = decimal number

abbrev pub parts_text : Parts → List ℕ
parts_text parts = parts.front.now ++ number_text parts.number ++ parts.beyond.now
