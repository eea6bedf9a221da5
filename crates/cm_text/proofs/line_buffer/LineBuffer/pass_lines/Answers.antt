use Rattle.std.proofs.Common.{◌+◌, sym, subst}
use Rattle.cm_text.specs.Cut.{Cut}
use Rattle.cm_text.specs.Feed.{StandsFor}
use Rattle.cm_text.proofs.lemmas.FeedLemmas.{pass_all_stand}
use Rattle.cm_text.proofs.line_buffer.LineBuffer.pass_lines.Goals as goal

pub returns-clause-stands : goal.returns-clause-stands
returns-clause-stands c =
    let f = c.self.inside in
    let count = c.args.count in
    rw (← c.self.view_is) (λ some bytes taken stands.
    let P : Cut → Type 0 = λ d. StandsFor (record { limit = f.limits.bytes; start = f.start; pending = f.pending.items; cut = d; ended = f.ended; fault = f.fault }) bytes (taken + count) in
    subst P (sym c.pass_lines.ensures.cut) (pass_all_stand count _ bytes taken some stands))
