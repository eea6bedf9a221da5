use Rattle.cm_html.specs.Listing.{margin}
use Rattle.cm_html.proofs.lemmas.PageLemmas.{settled_in_order, settled_beyond}
use Rattle.cm_html.proofs.page.Page.push_margin.Goals as goal

pub invariant_of-self : goal.invariant_of-self
invariant_of-self c =
    settled_in_order c.self.inside.text c.push_margin-pushed.new.out (margin c.args.depth) c.self.inside.insertions.items c.self.invariant
    c.push_margin-pushed.result c.settled.result c.settled.new.insertions.items c.settled.ensures.same c.push_margin-pushed.ensures.written c.settled.ensures.ok c.settled.ensures.err

pub returns-clause-written : goal.returns-clause-written
returns-clause-written c =
    settled_beyond c.self.inside.text c.push_margin-pushed.new.out (margin c.args.depth) c.self.inside.insertions.items c.self.invariant
    c.push_margin-pushed.result c.settled.result c.settled.new.insertions.items c.settled.ensures.same c.push_margin-pushed.ensures.written c.settled.ensures.ok
    c.args.self.now c.self.view_is
