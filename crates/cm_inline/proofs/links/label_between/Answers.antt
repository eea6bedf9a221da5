use Rattle.cm_inline.proofs.lemmas.Words.{◌≡◌, ◌+◌, ◌-◌, ◌<◌, length, arith, rules}
use Rattle.cm_inline.proofs.lemmas.LinkLemmas.{no-label, other-label, this-label}
use Rattle.cm_inline.proofs.links.label_between.Goals as goal

pub returns-in_err-between : goal.returns-in_err-between
returns-in_err-between c = record { target = search (rules, no-label) }

pub returns-then-end-at : goal.returns-then-end-at
returns-then-end-at c = record {
  target = λ defined.
      let source = c.args.source.now in
      let place : c.args.after ≡ c.args.after - 1 + 1 = omega (arith, c.requires.bracket.0) in
      let within : c.args.after - 1 < length source = omega (arith, c.requires.order, c.requires.stands.within) in
      other-label source (c.args.after - 1) c.args.at defined c.args.after c.in_ok-between.end c.in_ok-between.between.now place within c.requires.bracket.1 c.requires.order c.requires.stands
      c.in_ok-between.ensures.read c.in_ok-between.ensures.boundary.0 c.if-end-at.true;
}

pub returns : goal.returns
returns c = record { target = search (rules, this-label) }
