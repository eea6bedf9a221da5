use Rattle.std.proofs.Common.{[], ◌++◌, ◌∙◌, take, arith, rules}
use Rattle.std.proofs.lemmas.Grind.{common_steps}
use Rattle.std.proofs.lemmas.Result.{err_from_is_err_and}
use Rattle.cm_tool.proofs.lemmas.ReadLemmas.{nothing_read, more_so_far, more_read, last_read, nothing_more, failed_so_far, fault_told}
use Rattle.cm_tool.proofs.reading.taking_in.take_all.Goals as goal

pub loop-n-init : goal.loop-n-init
loop-n-init g c = ([], λ limits stands none. (stands, none), nothing_read _, search rules)

pub loop-n-preserved : goal.loop-n-preserved
loop-n-preserved g c =
    let so_far = c.loop-n.invariant in
    let read = so_far.0 in
    let piece = take c.in-Ok.n c.read.new.buf in (
      read ++ piece,
      λ limits stands none.
          let held = (so_far.1 limits stands none).0 in
          (c.in_ok-take.ensures.stands limits read held, c.in_ok-take.ensures.settled limits read held),
      more_so_far _ _ _ read piece so_far.2 c.in-Ok.ensures.failures c.in-Ok.ensures.bytes.0,
      grind (arith, common_steps),
    )

pub returns-in_err-take : goal.returns-in_err-take
returns-in_err-take g c =
    let so_far = c.loop-n.invariant in
    let read = so_far.0 in
    let piece = take c.in-Ok.n c.read.new.buf in
    let p = err_from_is_err_and c.from_residual-in_err-take.result c.from_residual-in_err-take.ensures.1 in
    rw (p.1, p.2) (
      read ++ piece,
      more_read _ _ _ read piece so_far.2 c.in-Ok.ensures.bytes.0,
      λ limits stands none whole.
          fault_told (g.T.TakesBytes.settled limits (read ++ piece)) whole c.in_err-take.field-0.0 _ _ _ read so_far.2 c.in-Ok.ensures.failures
          (c.in_err-take.ensures.settled limits read (so_far.1 limits stands none).0),
      λ limits stands none. c.in_err-take.ensures.given limits read (so_far.1 limits stands none).0,
    )

pub returns-in_default : goal.returns-in_default
returns-in_default g c =
    let so_far = c.loop-n.invariant in
    let read = so_far.0 in (
      read,
      nothing_more _ _ _ read so_far.2 c.in_default.ensures.bytes,
      λ limits stands none whole. failed_so_far _ _ _ _ read so_far.2 c.in_default.ensures.failures (so_far.1 limits stands none).1,
      λ limits stands none at. absurd at,
    )

pub returns-then-n-eq0 : goal.returns-then-n-eq0
returns-then-n-eq0 g c =
    let so_far = c.loop-n.invariant in
    let read = so_far.0 in (
      read,
      last_read _ _ _ read c.read.new.buf c.in-Ok.n so_far.2 c.if-n-eq0.true c.in-Ok.ensures.bytes.0,
      λ limits stands none.
          let held = so_far.1 limits stands none in
          (c.in-Ok.ensures.failures ∙ so_far.2.failed, c.in-Ok.ensures.bytes.1 c.if-n-eq0.true (omega arith), held.0, held.1),
      λ limits stands none. tt,
    )

pub returns-in_err-buffer-2 : goal.returns-in_err-buffer-2
returns-in_err-buffer-2 g c =
    let so_far = c.loop-n.invariant in
    let read = so_far.0 in
    let piece = take c.in-Ok.n c.read.new.buf in
    let p = err_from_is_err_and c.from_residual-in_err-buffer-2.result c.from_residual-in_err-buffer-2.ensures.1 in
    rw (p.1, p.2) (
      read ++ piece,
      more_read _ _ _ read piece so_far.2 c.in-Ok.ensures.bytes.0,
      λ limits stands none whole. c.in-Ok.ensures.failures ∙ so_far.2.failed,
      λ limits stands none at. absurd at,
    )
