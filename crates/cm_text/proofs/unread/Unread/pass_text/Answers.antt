use Rattle.std.proofs.Common.{string_bytes, arith}
use Rattle.std.proofs.lemmas.Grind.{common_steps}
use Rattle.cm_text.proofs.lemmas.TextLineLemmas.{text_passed}
use Rattle.cm_text.proofs.unread.Unread.pass_text.Goals as goal

pub returns-clause-cut : goal.returns-clause-cut
returns-clause-cut c = let u = c.args.self.now in text_passed u.after_return (string_bytes u.text) u.passed u.text_ahead u.waits (u.ahead c.requires) c.requires

pub overflow_add-self : goal.overflow_add-self
overflow_add-self c = grind (arith, common_steps)

pub invariant_of-self : goal.invariant_of-self
invariant_of-self c = grind (arith, common_steps)
