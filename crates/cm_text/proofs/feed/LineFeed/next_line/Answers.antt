use Rattle.cm_text.proofs.lemmas.ReadyLemmas.{next_stands}
use Rattle.cm_text.proofs.feed.LineFeed.next_line.Goals as goal

pub returns-clause-stands : goal.returns-clause-stands
returns-clause-stands c =
    let f = c.self.inside in
    rw (← c.self.view_is) (λ bytes taken stands. next_stands f.fault f.buffer c.pop_front.result f.ready.items c.pop_front.new.self.items bytes taken c.pop_front.ensures.items stands)
