use Rattle.std.proofs.Common.{◌≡◌, ◌≢◌, get_or, subst, ◌∙◌, ap, arith, rules}
use Rattle.std.specs.Prelude.{nat_le}
use Rattle.std.specs.Str.{IsCharBoundary}
use Rattle.cm_text.proofs.lemmas.UnescapingLemmas.{boundary-at}
use Rattle.cm_scan.specs.Words.{run_length}
use Rattle.cm_block.proofs.lemmas.FenceLemmas.{four_there, no_room, other_byte}
use Rattle.cm_block.proofs.counted_line.starts.begins_with_four_spaces.Goals as goal

pub returns-in-32-clause-spaces : goal.returns-in-32-clause-spaces
returns-in-32-clause-spaces c =
    let bytes = c.as_bytes.result.now in
    let first : get_or bytes 0 0 ≡ 32 = search rules in
    let second : get_or bytes 1 0 ≡ 32 = search rules in
    let third : get_or bytes 2 0 ≡ 32 = search rules in
    let fourth : get_or bytes 3 0 ≡ 32 = search rules in
    four_there bytes c.in-32.len_at_least first second third fourth ∙ ap (λ t. nat_le 4 (run_length 32 t)) c.as_bytes.ensures.value

pub returns-in_default-clause-spaces : goal.returns-in_default-clause-spaces
returns-in_default-clause-spaces c = no_room c.as_bytes.result.now c.in_default.len_below ∙ ap (λ t. nat_le 4 (run_length 32 t)) c.as_bytes.ensures.value

pub returns-in_default-2-clause-spaces : goal.returns-in_default-2-clause-spaces
returns-in_default-2-clause-spaces c =
    let other : get_or c.as_bytes.result.now 3 0 ≢ 32 = search rules in
    other_byte c.as_bytes.result.now 3 (omega arith) other ∙ ap (λ t. nat_le 4 (run_length 32 t)) c.as_bytes.ensures.value

pub returns-in_default-3-clause-spaces : goal.returns-in_default-3-clause-spaces
returns-in_default-3-clause-spaces c =
    let other : get_or c.as_bytes.result.now 2 0 ≢ 32 = search rules in
    other_byte c.as_bytes.result.now 2 (omega arith) other ∙ ap (λ t. nat_le 4 (run_length 32 t)) c.as_bytes.ensures.value

pub returns-in_default-4-clause-spaces : goal.returns-in_default-4-clause-spaces
returns-in_default-4-clause-spaces c =
    let other : get_or c.as_bytes.result.now 1 0 ≢ 32 = search rules in
    other_byte c.as_bytes.result.now 1 (omega arith) other ∙ ap (λ t. nat_le 4 (run_length 32 t)) c.as_bytes.ensures.value

pub returns-in_default-5-clause-spaces : goal.returns-in_default-5-clause-spaces
returns-in_default-5-clause-spaces c =
    let other : get_or c.as_bytes.result.now 0 0 ≢ 32 = search rules in
    other_byte c.as_bytes.result.now 0 (omega arith) other ∙ ap (λ t. nat_le 4 (run_length 32 t)) c.as_bytes.ensures.value

pub returns-in-32-clause-boundary : goal.returns-in-32-clause-boundary
returns-in-32-clause-boundary c = λ _.
    let bytes = c.as_bytes.result.now in
    let fourth : get_or bytes 3 0 ≡ 32 = search rules in
    subst (λ t. IsCharBoundary t 4) c.as_bytes.ensures.value (boundary-at bytes 4 c.as_bytes.ensures.utf8 (omega arith, c.in-32.len_at_least, omega (arith, fourth)))
