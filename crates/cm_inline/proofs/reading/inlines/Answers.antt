use Rattle.cm_inline.proofs.reading.inlines.Goals as goal

pub returns : goal.returns
returns c = record { reads = rw c.profile.ensures at c.inlines_by.ensures.reads }
