use Rattle.std.proofs.Common.{ap, sym, ◌∙◌, ◌++◌, string_bytes, arith}
use Rattle.std.proofs.lemmas.Grind.{common_steps}
use Rattle.cm_text.specs.Trims.{skip}
use Rattle.cm_text.proofs.lemmas.LabelLemmas.{none_read, gap_read, char_read}
use Rattle.cm_text.proofs.labels.settle_gaps.Goals as goal

pub loop-c-init : goal.loop-c-init
loop-c-init c = none_read (string_bytes c.in_ok-settled.settled) c.into_iter-c-iterator.result.rest.now c.args.text.now c.in_ok-settled.ensures.bytes (cc)

pub loop-c-preserved-then-is_gap : goal.loop-c-preserved-then-is_gap
loop-c-preserved-then-is_gap c =
    sym (ap (λ t. string_bytes c.loop-c.settled ++ t) (gap_read (string_bytes c.loop-c.settled) c.loop-c.after_gap c.in-Some.c c.next.new.self.rest.now c.loop-c.c-iterator.rest.now
    (sym c.is_gap.ensures ∙ c.if-is_gap.true) c.in-Some.ensures.steps.0))
    ∙ c.loop-c.invariant

pub loop-c-preserved : goal.loop-c-preserved
loop-c-preserved c =
    char_read (string_bytes c.loop-c.settled) (string_bytes c.put.new.settled) c.loop-c.after_gap c.in-Some.c c.next.new.self.rest.now c.loop-c.c-iterator.rest.now
    (sym c.is_gap.ensures ∙ c.if-is_gap.false) c.in-Some.ensures.steps.0 c.in_ok-put.ensures
    ∙ c.loop-c.invariant

pub returns : goal.returns
unfolding skip
returns c = record { settled = grind (arith, common_steps) }
