use Rattle.std.proofs.Common.{◌≡◌, ◌≤◌, ◌++◌, string_bytes}
use Rattle.std.specs.Char.Escape.{escape_unicode}
use Rattle.std.specs.Char.Iter.{escape_end, escape_rest}
use Rattle.std.specs.Str.{encode_utf8_all}
use Rattle.cm_tool.proofs.shown.push_shown_char.Given as goal

-- what was put of the escape, and what is left of it, come to the whole
abbrev pub invariant-loop-part : goal.invariant-loop-part
invariant-loop-part l =
    (escape_end l.part-iterator ≤ 10)
    × (string_bytes l.out ++ encode_utf8_all (escape_rest l.part-iterator) ≡ string_bytes l.fn.out ++ encode_utf8_all (escape_unicode l.fn.c))
