use Rattle.std.specs.Fmt.{decimal}
use Rattle.cm_html.proofs.lemmas.PageLemmas.{settled_in_order, settled_beyond}
use Rattle.cm_html.proofs.page.Page.push_number.Goals as goal

pub invariant_of-self : goal.invariant_of-self
invariant_of-self c =
    settled_in_order c.self.inside.text c.write-pushed.new.self (decimal c.args.number) c.self.inside.insertions.items c.self.invariant
    c.write-pushed.result c.settled.result c.settled.new.insertions.items c.settled.ensures.same c.write-pushed.ensures.bytes c.settled.ensures.ok c.settled.ensures.err

pub returns : goal.returns
returns c =
    settled_beyond c.self.inside.text c.write-pushed.new.self (decimal c.args.number) c.self.inside.insertions.items c.self.invariant
    c.write-pushed.result c.settled.result c.settled.new.insertions.items c.settled.ensures.same c.write-pushed.ensures.bytes c.settled.ensures.ok
    c.args.self.now c.self.view_is
