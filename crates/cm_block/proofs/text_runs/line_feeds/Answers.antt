use Rattle.std.proofs.Common.{rules, length, ap, ◌∙◌, arith}
use Rattle.memchr.specs.Find.{is_byte, places}
use Rattle.cm_block.proofs.lemmas.RunLemmas.{feeds_counted, one_counted}
use Rattle.cm_block.proofs.text_runs.line_feeds.Goals as goal

pub loop-init : goal.loop-init
loop-init c =
    let counted = ap length c.memchr_iter-items.ensures.value ∙ ap (λ xs. length (places (is_byte 10) xs)) c.as_bytes.ensures.value ∙ feeds_counted c.args.text.now in
    (rw c.into_iter-iterator.ensures.into_iter_gives (omega (arith, counted)), rw (← counted) (search rules))

pub overflow_add-count : goal.overflow_add-count
overflow_add-count c =
    let more = one_counted c.loop.count _ c.in-Some.field-0 c.loop.iterator' c.next.new.self c.in-Some.ensures.steps c.loop.invariant.0 in
    omega (arith, more, c.loop.invariant.1)

pub loop-preserved : goal.loop-preserved
loop-preserved c =
    (one_counted c.loop.count _ c.in-Some.field-0 c.loop.iterator' c.next.new.self c.in-Some.ensures.steps c.loop.invariant.0, c.loop.invariant.1)
