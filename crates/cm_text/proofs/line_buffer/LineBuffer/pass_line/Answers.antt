use Rattle.std.proofs.Common.{◌+◌, sym, subst}
use Rattle.cm_text.specs.Cut.{Cut}
use Rattle.cm_text.specs.Feed.{StandsFor}
use Rattle.cm_text.proofs.lemmas.FeedLemmas.{pass_stands}
use Rattle.cm_text.proofs.line_buffer.LineBuffer.pass_line.Goals as goal

pub returns-clause-stands : goal.returns-clause-stands
returns-clause-stands c =
    let f = c.self.inside in
    rw (← c.self.view_is) (λ some bytes taken stands.
    let P : Cut → Type 0 = λ d. StandsFor (record { limit = f.limits.bytes; start = f.start; pending = f.pending.items; cut = d; ended = f.ended; fault = f.fault }) bytes (taken + 1) in
    subst P (sym c.pass_line.ensures.cut) (pass_stands _ bytes taken some stands))
