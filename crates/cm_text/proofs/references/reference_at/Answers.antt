use Rattle.std.proofs.Common.{◌≡◌, ◌≤◌, ◌+◌, ◌-◌, length, get_or, rules}
use Rattle.cm_text.specs.References.{chars_of}
use Rattle.cm_text.proofs.lemmas.ReferenceLemmas.{read-within, boundary-after}
use Rattle.cm_text.proofs.references.reference_at.Goals.{In_ok-chars}
use Rattle.cm_text.proofs.references.reference_at.Goals as goal

-- the end is the boundary of a character
end_is : (c : In_ok-chars) → (c.args.place + c.in_ok-chars.len ≤ length c.args.text.now) × (1 ≤ c.in_ok-chars.len) × (get_or c.args.text.now (c.args.place + c.in_ok-chars.len - 1) 0 ≡ 59)
end_is c =
    read-within c.args.text.now c.as_bytes.result.now c.args.place c.in_ok-chars.len (chars_of c.in_ok-chars.chars) c.as_bytes.ensures.value c.requires.0 c.in_ok-chars.ensures.read

pub overflow_add-result : goal.overflow_add-result
overflow_add-result c =
    let end = end_is (goal.at.overflow_add-result c).In_ok-chars in
    search (end.0, rules)

pub returns-clause-boundary : goal.returns-clause-boundary
returns-clause-boundary c = boundary-after c.args.text.now c.args.place c.in_ok-chars.len c.utf8.text (end_is (goal.at.returns-clause-boundary c).In_ok-chars)
