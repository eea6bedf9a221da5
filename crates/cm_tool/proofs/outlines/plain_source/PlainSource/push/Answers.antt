use Rattle.std.proofs.Common.{◌∙◌, sym, subst}
use Rattle.cm_source.specs.Speller.{Refuses}
use Rattle.cm_tool.proofs.lemmas.PlainSourceLemmas.{now_refused}
use Rattle.cm_tool.proofs.outlines.plain_source.PlainSource.push.Goals as goal

pub returns-in-Err-Unspellable : goal.returns-in-Err-Unspellable
returns-in-Err-Unspellable c = λ rules blocks takes.
    now_refused c.args.self.now.refused c.args.self.now.speller rules blocks c.args.block.now c.in-Err-Unspellable.why (sym c.is_some.ensures ∙ c.if-is_some.false)
    (λ stands. subst (λ fault. Refuses fault rules blocks c.args.block.now) c.in-Err-Unspellable.field-0-is (c.in-Err-Unspellable.ensures.told rules blocks stands)) takes
