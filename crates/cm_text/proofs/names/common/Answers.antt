-- A name that is compared first is read as what the list of names has for it.
use Rattle.std.proofs.Common.{codes, rules, arith, ap}
use Rattle.std.proofs.lemmas.Slice.Eq.{text_from_reads}
use Rattle.cm_text.specs.NamedReferences.{names}
use Rattle.cm_text.specs.References.{entry}
use Rattle.cm_text.proofs.names.common.Goals as goal

pub returns-in-amp : goal.returns-in-amp
unfolding names
returns-in-amp c = record { found = ap (entry names) (text_from_reads c.args.name.now (codes "amp") (omega (arith, c.in-amp.len_at_least, c.in-amp.len_below)) (search rules)) }

pub returns-in-lt : goal.returns-in-lt
unfolding names
returns-in-lt c = record { found = ap (entry names) (text_from_reads c.args.name.now (codes "lt") (omega (arith, c.in-lt.len_at_least, c.in-lt.len_below)) (search rules)) }

pub returns-in-gt : goal.returns-in-gt
unfolding names
returns-in-gt c = record { found = ap (entry names) (text_from_reads c.args.name.now (codes "gt") (omega (arith, c.in-gt.len_at_least, c.in-gt.len_below)) (search rules)) }

pub returns-in-quot : goal.returns-in-quot
unfolding names
returns-in-quot c = record { found = ap (entry names) (text_from_reads c.args.name.now (codes "quot") (omega (arith, c.in-quot.len_at_least, c.in-quot.len_below)) (search rules)) }

pub returns-in-nbsp : goal.returns-in-nbsp
unfolding names
returns-in-nbsp c = record { found = ap (entry names) (text_from_reads c.args.name.now (codes "nbsp") (omega (arith, c.in-nbsp.len_at_least, c.in-nbsp.len_below)) (search rules)) }

pub returns-in-copy : goal.returns-in-copy
unfolding names
returns-in-copy c = record { found = ap (entry names) (text_from_reads c.args.name.now (codes "copy") (omega (arith, c.in-copy.len_at_least, c.in-copy.len_below)) (search rules)) }
