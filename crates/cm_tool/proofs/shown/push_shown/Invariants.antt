use Rattle.std.proofs.Common.{◌≡◌, ◌++◌, string_bytes, IsUtf8}
use Rattle.cm_tool.specs.Shown.{shown}
use Rattle.cm_tool.proofs.shown.push_shown.Given as goal

-- what was put, and what is left, come to the whole
abbrev pub invariant-loop-c : goal.invariant-loop-c
invariant-loop-c l =
    IsUtf8 l.c-iterator.rest.now × (string_bytes l.out ++ shown l.c-iterator.rest.now ≡ string_bytes l.fn.out ++ shown l.text)
