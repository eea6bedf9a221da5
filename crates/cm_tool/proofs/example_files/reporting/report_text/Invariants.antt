use Rattle.std.proofs.Common.{◌≡◌, ◌++◌, drop, map, string_bytes}
use Rattle.std.specs.Prelude.{flat_map}
use Rattle.cm_tool.specs.ExampleFiles.{difference_of}
use Rattle.cm_tool.specs.Reporting.{difference_text}
use Rattle.cm_tool.proofs.example_files.reporting.report_text.Given as goal

-- what was written and what is left are all
abbrev pub invariant-loop-difference : goal.invariant-loop-difference
invariant-loop-difference l =
    string_bytes l.out ++ flat_map difference_text (map difference_of (drop l.difference-index l.difference-items))
    ≡ flat_map difference_text (map difference_of l.difference-items)
