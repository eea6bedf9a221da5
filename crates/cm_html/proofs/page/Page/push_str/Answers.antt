use Rattle.cm_html.proofs.lemmas.PageLemmas.{pushed_in_order, pushed_beyond}
use Rattle.cm_html.proofs.page.Page.push_str.Goals as goal

pub invariant_of-self : goal.invariant_of-self
invariant_of-self c =
    pushed_in_order c.self.inside.text c.push_str.new.self c.args.more.now c.self.inside.insertions.items c.self.invariant c.push_str.result c.push_str.ensures.bytes

pub returns : goal.returns
returns c =
    pushed_beyond c.self.inside.text c.push_str.new.self c.args.more.now c.self.inside.insertions.items c.self.invariant c.push_str.result c.push_str.ensures.bytes
    c.args.self.now c.self.view_is
