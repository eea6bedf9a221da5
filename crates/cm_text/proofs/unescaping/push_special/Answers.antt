use Rattle.std.proofs.Common.{◌<◌, ◌≤◌, ◌-◌, string_bytes, get_or, length}
use Rattle.std.proofs.lemmas.Str.{IsCharBoundary-after_ascii}
use Rattle.cm_text.specs.References.{chars_of}
use Rattle.cm_text.proofs.lemmas.UnescapingLemmas.{special-within, boundary-at, put-other, put-special}
use Rattle.cm_text.proofs.unescaping.push_special.Goals.{In-Some}
use Rattle.cm_text.proofs.unescaping.push_special.Goals as goal

pub range-requires-clause-end_boundary : goal.range-requires-clause-end_boundary
range-requires-clause-end_boundary c = IsCharBoundary-after_ascii c.args.text.now 0 c.utf8.text c.requires.some c.requires.ascii

pub returns-in_default-clause-boundary : goal.returns-in_default-clause-boundary
returns-in_default-clause-boundary c = IsCharBoundary-after_ascii c.args.text.now 0 c.utf8.text c.requires.some c.requires.ascii

pub returns-in_default-clause-read : goal.returns-in_default-clause-read
returns-in_default-clause-read c =
    put-other c.args.text.now c.as_bytes.result.now c.range.result.now (string_bytes c.args.out.now) (string_bytes c.push_str.new.self)
    c.requires.some c.as_bytes.ensures.value c.in_default.ensures.read c.range.ensures.value c.in_ok-push_str.ensures.bytes

-- what is read ends within the text
read : (c : In-Some) → (1 ≤ c.in-Some.len) × (c.in-Some.len ≤ length c.args.text.now) × (get_or c.args.text.now (c.in-Some.len - 1) 0 < 128)
read c = special-within c.args.text.now c.as_bytes.result.now (chars_of c.in-Some.chars) c.in-Some.len c.as_bytes.ensures.value c.in-Some.ensures.read

pub returns-clause-within : goal.returns-clause-within
returns-clause-within c = let within = read (goal.at.returns-clause-within c).In-Some in (within.0, within.1)

pub returns-clause-boundary : goal.returns-clause-boundary
returns-clause-boundary c = boundary-at c.args.text.now c.in-Some.len c.utf8.text (read (goal.at.returns-clause-boundary c).In-Some)

pub returns-clause-read : goal.returns-clause-read
returns-clause-read c =
    put-special c.args.text.now c.as_bytes.result.now (chars_of c.in-Some.chars) (string_bytes c.args.out.now) (string_bytes c.push_to.new.text) c.in-Some.len
    c.as_bytes.ensures.value c.in-Some.ensures.read c.in_ok-push_to.ensures
