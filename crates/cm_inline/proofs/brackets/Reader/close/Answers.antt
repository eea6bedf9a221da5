use Rattle.cm_inline.proofs.lemmas.Words.{◌≡◌, ◌∷◌, ◌<◌, [], true, false, List, length, drop, reverse, IfSome, Err, refl, sym, ap, subst, ◌∙◌, arith, append-nil}
use Rattle.cm_inline.proofs.lemmas.Words.{Bracket, Reader, InlinesTooDeep, rules}
use Rattle.std.proofs.Common.{Vec, Global}
use Rattle.cm_inline.specs.steps.Brackets.{view_of}
use Rattle.cm_inline.specs.steps.Links.{ends_of, IsPlaced}
use Rattle.cm_inline.specs.steps.Marks.{target_in}
use Rattle.cm_inline.specs.steps.Missing.{Knows}
use Rattle.cm_inline.proofs.lemmas.DeeperLemmas.{same-fault}
use Rattle.cm_inline.proofs.lemmas.RightBracketLemmas.{nothing-closes, text-closes}
use Rattle.cm_inline.proofs.lemmas.ClosedLinkLemmas.{IsLinked, link-closes}
use Rattle.cm_inline.proofs.lemmas.ClosingBracketLemmas.{are-brackets, last-read, bracket-passes, link-too-deep}
use Rattle.cm_inline.proofs.brackets.Reader.close.Goals as goal

none : (brackets : List Bracket) → (0 < length brackets → false ≡ true) → brackets ≡ []
none [] h = refl
none (b ∷ bs) h = absurd (cc (h (omega arith)))

pub returns-in_default-clause-reading : goal.returns-in_default-clause-reading
returns-in_default-clause-reading c = search (rules, none, nothing-closes, append-nil)

pub end_after-requires : goal.end_after-requires
end_after-requires c =
    let old = c.args.self.now in
    let others = c.pop.new.self.items in
    let b = c.in-Some.bracket in
    let g = c.requires.reading in
    are-brackets c.args.leaf.source.now c.args.leaf.definitions.now c.args.at (view_of old) b (reverse others) g.segments
    (last-read c.args.leaf.source.now c.args.leaf.definitions.now c.args.at old old others b g.segments c.in-Some.ensures.items refl g.read) c.requires.stands

pub make_link-requires-clause-pass : goal.make_link-requires-clause-pass
make_link-requires-clause-pass c =
    let old = c.args.self.now in
    bracket-passes c.args.rules c.args.leaf.source.now c.args.leaf.definitions.now c.args.at old old c.pop.new.self.items c.in-Some.bracket c.in-Some.ensures.items refl refl c.requires.reading

pub returns-in_err-make_link-in-Some-2-clause-deep : goal.returns-in_err-make_link-in-Some-2-clause-deep
returns-in_err-make_link-in-Some-2-clause-deep c = λ told.
    let old = c.args.self.now in
    let source = c.args.leaf.source.now in
    let targets = c.args.leaf.definitions.now in
    let target = target_in source targets c.in-Some-2.link.target in
    let same = same-fault c.from_residual-in_err-make_link-in-Some-2.result c.in_err-make_link-in-Some-2.field-0.0 InlinesTooDeep c.from_residual-in_err-make_link-in-Some-2.ensures.1 told in
    link-too-deep c.args.rules source targets c.args.at c.args.leaf.limit old old c.pop.new.self.items c.in-Some.bracket (record { dest = target.0; title = target.1; rest = drop c.in-Some-2.link.end source }) c.in-Some.ensures.items refl
    c.requires.stands (ap (ends_of c.args.leaf) (sym c.in-Some-2.is) ∙ c.in_ok-link.ensures.ends) c.requires.reading (c.make_link.ensures.deep (c.in_err-make_link-in-Some-2.was ∙ ap Err same))

pub returns-in_ok-make_link-in-Some-2-clause-reading : goal.returns-in_ok-make_link-in-Some-2-clause-reading
returns-in_ok-make_link-in-Some-2-clause-reading c =
    let old = c.args.self.now in
    let popped : Reader = record { marks = old.marks; runs = old.runs; links = old.links; brackets = c.pop.new.self; links_end = old.links_end; lines = old.lines; ends = old.ends } in
    let new = c.make_link.new.self in
    let b = c.in-Some.bracket in
    let link = c.in-Some-2.link in
    let source = c.args.leaf.source.now in
    let targets = c.args.leaf.definitions.now in
    let others = c.pop.new.self.items in
    let g = c.requires.reading in
    let brackets = are-brackets source targets c.args.at (view_of old) b (reverse others) g.segments (last-read source targets c.args.at old old others b g.segments c.in-Some.ensures.items refl g.read) c.requires.stands in
    let made = c.in_ok-make_link-in-Some-2.ensures in
    let place = subst (λ found. IfSome found (λ e. (c.args.at < e.end) × IsPlaced c.args.leaf e)) c.in-Some-2.is c.in_ok-link.ensures.place in
    let linked : IsLinked source c.args.at link.end popped new b link.target = record {
      marks = made.marks;
      links = made.links;
      links_end = made.links_end;
      lines = made.same.1;
      knows = subst (Knows source) (sym made.same.2) g.read.knows;
      passes = made.passes;
      runs = made.runs;
      chained = made.chained;
    } in
    link-closes c.args.rules source targets c.args.at link.end old popped new others b link.target c.requires.stands c.in-Some.ensures.items (ap (λ (v : Vec Bracket Global). v.items) made.same.0) refl refl
    place.0 place.1.0 place.1.1 brackets.order (sym c.in_ok-link.ensures.ends ∙ ap (ends_of c.args.leaf) c.in-Some-2.is) linked g

pub returns-in-None-clause-reading : goal.returns-in-None-clause-reading
returns-in-None-clause-reading c =
    let old = c.args.self.now in
    let b = c.in-Some.bracket in
    let source = c.args.leaf.source.now in
    let targets = c.args.leaf.definitions.now in
    let others = c.pop.new.self.items in
    let g = c.requires.reading in
    let brackets = are-brackets source targets c.args.at (view_of old) b (reverse others) g.segments (last-read source targets c.args.at old old others b g.segments c.in-Some.ensures.items refl g.read) c.requires.stands in
    let new : Reader = record { marks = old.marks; runs = old.runs; links = old.links; brackets = c.pop.new.self; links_end = old.links_end; lines = old.lines; ends = old.ends } in
    text-closes c.args.rules source targets c.args.at old new others b c.requires.stands c.in-Some.ensures.items refl refl refl old.links_end refl
    (sym c.in_ok-link.ensures.ends ∙ ap (ends_of c.args.leaf) c.in-None.is) brackets.order g
