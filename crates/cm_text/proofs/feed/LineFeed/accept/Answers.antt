use Rattle.std.proofs.Common.{map, ap, sym, ◌∙◌}
use Rattle.cm_text.specs.Lines.{seen_line}
use Rattle.cm_text.specs.Feed.{Feed}
use Rattle.cm_text.proofs.lemmas.ReadyLemmas.{steps_moved, steps_refused}
use Rattle.cm_text.proofs.feed.LineFeed.accept.Goals as goal

pub returns-clause-step : goal.returns-clause-step
returns-clause-step c =
    let f = c.self.inside in
    let b = c.accept-accepted in
    rw (← c.self.view_is) (steps_moved b.result (map seen_line f.ready.items) (map seen_line c.copy_lines.new.ready.items) f.fault f.buffer b.new.self c.copy_lines.new.buffer
    c.args.piece.now b.ensures.step c.in_default.ensures.moves)

pub returns-in-Err-clause-step : goal.returns-in-Err-clause-step
returns-in-Err-clause-step c =
    let f = c.self.inside in
    let b = c.accept-accepted in
    let going = ap (λ (g : Feed). g.ended) c.self.view_is ∙ c.requires in
    rw (← c.self.view_is) (steps_refused b.result (map seen_line f.ready.items) (map seen_line c.copy_lines.new.ready.items) f.fault f.buffer b.new.self c.copy_lines.new.buffer
    c.args.piece.now going b.ensures.step c.in-Err.ensures.refused c.in-Err.ensures.all (c.in-Err.ensures.limit ∙ sym c.self.invariant.2))
