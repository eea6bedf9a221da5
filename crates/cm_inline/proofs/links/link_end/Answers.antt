use Rattle.cm_inline.proofs.lemmas.Words.{◌+◌, drop, IfSome, subst, slice_range}
use Rattle.cm_inline.specs.steps.Links.{IsPlaced}
use Rattle.cm_inline.proofs.lemmas.LinkLemmas.{turned, ends-beyond, placed, inline-first, no-inline}
use Rattle.cm_inline.proofs.links.link_end.Goals as goal

pub inline_end-requires : goal.inline_end-requires
inline_end-requires c = c.requires.next

pub returns-in-Some : goal.returns-in-Some
returns-in-Some c =
    let leaf = c.args.leaf in
    let between = slice_range leaf.source.now c.args.after c.args.at in
    let place = subst (λ found. IfSome found (IsPlaced leaf)) c.in-Some.is c.in_ok-inline.ensures.place in
    let ends = inline-first c.args.rules leaf between (drop (c.args.at + 1) leaf.source.now) c.in_ok-inline.field-0 c.in-Some.inline c.in-Some.is c.in_ok-inline.ensures.ends in
    record { ends = ends; place = (ends-beyond c.args.rules leaf c.args.at between c.in-Some.inline c.requires.stands.within ends place.0, place) }

pub returns : goal.returns
returns c =
    let leaf = c.args.leaf in
    let between = slice_range leaf.source.now c.args.after c.args.at in
    let ends = turned leaf c.reference_end.result _ _ (no-inline c.args.rules leaf between
    (drop (c.args.at + 1) leaf.source.now) c.in_ok-inline.field-0 c.in_default.is c.in_ok-inline.ensures.ends) c.reference_end.ensures.ends in
    record { ends = ends; place = placed c.args.rules leaf c.args.at between c.reference_end.result c.requires.stands.within ends c.reference_end.ensures.place }
