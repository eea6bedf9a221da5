use Rattle.cm_inline.proofs.lemmas.Words.{◌+◌, drop, sym, ap, slice_range, defined_in, end_if_followed, rules}
use Rattle.cm_inline.proofs.lemmas.LinkLemmas.{turned, by-full, by-between}
use Rattle.cm_inline.proofs.links.reference_end.Goals as goal

pub label-requires : goal.label-requires
label-requires c = c.requires.next

pub returns-in-Some-clause-ends : goal.returns-in-Some-clause-ends
returns-in-Some-clause-ends c =
    let source = c.args.leaf.source.now in
    let targets = c.args.leaf.definitions.now in
    let defined = defined_in targets in
    turned c.args.leaf c.reference.result _ _
    (ap (end_if_followed c.args.rules) (sym (by-full defined (slice_range source c.args.after c.args.at) (drop (c.args.at + 1) source) (record { text = c.in-Some.full.now; rest = drop c.in-Some.end source }) c.in-Some.ensures.read)))
    c.reference.ensures.ends

pub returns-clause-ends : goal.returns-clause-ends
returns-clause-ends c = search (rules, turned, by-between)
