use Rattle.std.proofs.Common.{◌≡◌, ◌+◌, drop, length}
use Rattle.cm_json.specs.steps.Phrases.{expanded}
use Rattle.cm_json.proofs.json_text.expanded_len.Given as goal

-- what was counted, and the bytes that come next, come to the whole
abbrev pub invariant-loop-b : goal.invariant-loop-b
invariant-loop-b l = l.len + length (expanded (drop l.b-index l.held)) ≡ length (expanded l.held)
