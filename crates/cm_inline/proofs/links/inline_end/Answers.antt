use Rattle.cm_inline.proofs.lemmas.Words.{drop, sym, ap, subst, ◌∙◌, arith, end_if_followed, gap-of, next-ascii, rules}
use Rattle.std.proofs.Common.{IsUtf8}
use Rattle.cm_inline.proofs.lemmas.SliceLemmas.{slice-none}
use Rattle.cm_inline.proofs.lemmas.LinkLemmas.{next-of, turned, no-inline_end, by-destination, from-by, part-from}
use Rattle.cm_inline.proofs.links.inline_end.Goals as goal

pub returns-then-not-is_next-clause-ends : goal.returns-then-not-is_next-clause-ends
returns-then-not-is_next-clause-ends c =
    let next = next-of 40 c.args.leaf.source.now c.as_bytes-bytes.result.now c.args.at c.is_next.result c.as_bytes-bytes.ensures.value c.is_next.ensures.next in
    sym (ap (end_if_followed c.args.rules) (no-inline_end (drop c.args.at c.args.leaf.source.now) (sym next ∙ c.if-not-is_next.true)))

pub destination-requires : goal.destination-requires
destination-requires c = search (rules, next-of, next-ascii)

pub closed-requires-clause-boundary : goal.closed-requires-clause-boundary
closed-requires-clause-boundary c =
    let next = next-of 40 c.args.leaf.source.now c.as_bytes-bytes.result.now c.args.at c.is_next.result c.as_bytes-bytes.ensures.value c.is_next.ensures.next in
    next-ascii 40 c.args.leaf.source.now c.args.at c.is_next.result (subst IsUtf8 c.as_bytes-bytes.ensures.value c.as_bytes-bytes.ensures.utf8) (omega arith) next c.if-not-is_next.false

pub returns-in_default-clause-ends : goal.returns-in_default-clause-ends
returns-in_default-clause-ends c = search (rules, next-of, gap-of, turned, slice-none, by-destination)

pub returns-clause-ends : goal.returns-clause-ends
returns-clause-ends c = search (rules, next-of, gap-of, from-by, turned, part-from, by-destination)
