use Rattle.std.proofs.Common.{◌∙◌, ℕ, List, sym, subst, string_bytes, IsCharBoundary, arith, rules, tests}
use Rattle.std.proofs.lemmas.Grind.{common_steps}
use Rattle.cm_text.proofs.lemmas.UnreadLemmas.{boundary_on}
use Rattle.cm_text.proofs.unread.Unread.go_on.Goals as goal

pub past_line_feed-passed-requires : goal.past_line_feed-passed-requires
past_line_feed-passed-requires c =
    let u = c.shrink.new.self in
    let P : List ℕ → Type 0 = λ t. IsCharBoundary t u.passed in
    subst P (sym (c.deref.ensures ∙ c.in_ok-push_str.ensures.bytes)) (boundary_on (string_bytes u.text) c.args.more.now u.passed c.utf8.more u.boundary)

pub overflow_add-has_ended : goal.overflow_add-has_ended
overflow_add-has_ended c = grind (arith, common_steps)

pub line_len-self-requires-clause-within : goal.line_len-self-requires-clause-within
line_len-self-requires-clause-within c = grind (arith, common_steps)

pub line_len-self-requires-clause-plain : goal.line_len-self-requires-clause-plain
line_len-self-requires-clause-plain c = search (rules, tests, common_steps)

pub invariant_of-self-else-not-has_ended : goal.invariant_of-self-else-not-has_ended
invariant_of-self-else-not-has_ended c = grind (arith, common_steps)

pub returns-then-not-has_ended-clause-ok : goal.returns-then-not-has_ended-clause-ok
returns-then-not-has_ended-clause-ok c = grind (arith, common_steps)

pub returns-else-not-has_ended-clause-ok : goal.returns-else-not-has_ended-clause-ok
returns-else-not-has_ended-clause-ok c = grind (arith, common_steps)
