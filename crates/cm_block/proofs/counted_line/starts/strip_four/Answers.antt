use Rattle.std.proofs.Common.{◌∙◌, sym, arith}
use Rattle.std.proofs.lemmas.Bool.Decides.{nat_tests}
use Rattle.cm_block.proofs.lemmas.FenceLemmas.{four_stripped, four_plain}
use Rattle.cm_block.proofs.counted_line.starts.strip_four.Goals as goal

pub past-requires-clause-boundary : goal.past-requires-clause-boundary
past-requires-clause-boundary c = c.begins_with_four_spaces.ensures.boundary c.if-begins_with_four_spaces.true

pub past-requires-clause-plain : goal.past-requires-clause-plain
past-requires-clause-plain c =
    let e = sym c.begins_with_four_spaces.ensures.spaces ∙ c.if-begins_with_four_spaces.true in
    four_plain c.args.line.now.rest.now (grind (arith, nat_tests, e))

pub returns-then-begins_with_four_spaces : goal.returns-then-begins_with_four_spaces
returns-then-begins_with_four_spaces c =
    let e = sym c.begins_with_four_spaces.ensures.spaces ∙ c.if-begins_with_four_spaces.true in
    c.past.ensures ∙ four_stripped c.args.line.now c.if-line-eq0.true (grind (arith, nat_tests, e))
