use Rattle.std.proofs.Common.{map, ap, sym, ◌∙◌}
use Rattle.cm_text.specs.Lines.{seen_line}
use Rattle.cm_text.specs.Feed.{Feed}
use Rattle.cm_text.proofs.lemmas.ReadyLemmas.{closes_moved, closes_refused}
use Rattle.cm_text.proofs.feed.LineFeed.close.Goals as goal

pub returns-clause-closes : goal.returns-clause-closes
returns-clause-closes c =
    let f = c.self.inside in
    let b = c.close-closed in
    rw (← c.self.view_is) (closes_moved b.result (map seen_line f.ready.items) (map seen_line c.copy_lines.new.ready.items) f.fault f.buffer b.new.self c.copy_lines.new.buffer
    b.ensures.closes c.in_default.ensures.moves)

pub returns-in-Err-clause-closes : goal.returns-in-Err-clause-closes
returns-in-Err-clause-closes c =
    let f = c.self.inside in
    let b = c.close-closed in
    rw (← c.self.view_is) (closes_refused b.result (map seen_line f.ready.items) (map seen_line c.copy_lines.new.ready.items) f.fault f.buffer b.new.self c.copy_lines.new.buffer
    c.self.invariant.0 b.ensures.closes c.in-Err.ensures.refused c.in-Err.ensures.all (c.in-Err.ensures.limit ∙ sym c.self.invariant.2))

pub returns-clause-ended : goal.returns-clause-ended
returns-clause-ended c = ap (λ (f : Feed). f.ended) c.in_default.ensures.moves.3 ∙ c.close-closed.ensures.ended
