use Rattle.std.proofs.Common.{◌≡◌, ◌++◌, string_bytes, IsUtf8}
use Rattle.cm_tool.specs.ExampleFiles.{example_line}
use Rattle.cm_tool.proofs.example_files.push_line.Given as goal

-- what was put, and what is left, come to the whole
abbrev pub invariant-loop-c : goal.invariant-loop-c
invariant-loop-c l =
    IsUtf8 l.c-iterator.rest.now × (string_bytes l.part ++ example_line l.c-iterator.rest.now ≡ string_bytes l.fn.part ++ example_line l.line)
