use Rattle.std.proofs.Common.{ap, arith, length}
use Rattle.cm_text.specs.steps.NameTable.{name_at}
use Rattle.cm_text.proofs.lemmas.NameLemmas.{starts_rise}
use Rattle.cm_text.proofs.names.name_at.Goals as goal

pub slice_bounds-result-count : goal.slice_bounds-result-count
slice_bounds-result-count c =
    let rise = starts_rise c.args.place c.requires in omega (arith, c.start_at.ensures, c.start_at-2.ensures, rise.0)

pub slice_bounds-result-start : goal.slice_bounds-result-start
slice_bounds-result-start c =
    let rise = starts_rise c.args.place c.requires in omega (arith, c.start_at.ensures, c.start_at-2.ensures, rise.0)

pub slice_bounds-result-end : goal.slice_bounds-result-end
slice_bounds-result-end c =
    let rise = starts_rise c.args.place c.requires in omega (arith, c.start_at-2.ensures, ap length c.names_joined.ensures, rise.1)

pub returns : goal.returns
unfolding name_at
returns c = rw (c.start_at.ensures, c.start_at-2.ensures, c.names_joined.ensures)
