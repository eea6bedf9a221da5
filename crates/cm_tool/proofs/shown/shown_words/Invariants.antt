use Rattle.std.proofs.Common.{◌≡◌, map, string_bytes, take}
use Rattle.cm_tool.specs.Shown.{shown}
use Rattle.cm_tool.proofs.shown.shown_words.Given as goal

-- the words so far
abbrev pub invariant-loop-word : goal.invariant-loop-word
invariant-loop-word l = map string_bytes l.quoted.items ≡ map shown (map string_bytes (take l.word-index l.words))
