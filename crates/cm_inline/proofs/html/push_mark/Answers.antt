use Rattle.cm_inline.proofs.lemmas.Words.{rules}
use Rattle.cm_inline.proofs.lemmas.LaidLemmas.{settled-mark}
use Rattle.cm_inline.proofs.lemmas.MarkLemmas.{linked}
use Rattle.cm_inline.proofs.lemmas.TextWaitLemmas.{mark-read, image-at, image-ends, mark-goes-on}
use Rattle.cm_inline.proofs.html.push_mark.Goals as goal

pub push_one-requires : goal.push_one-requires
push_one-requires c = search (rules, mark-read, settled-mark)

pub image_at-requires : goal.image_at-requires
image_at-requires c = search (rules, mark-read, linked, settled-mark)

pub push_alternative_text-requires : goal.push_alternative_text-requires
push_alternative_text-requires c = search (rules, mark-read, image-at)

pub returns-in-Some-clause-html : goal.returns-in-Some-clause-html
returns-in-Some-clause-html c = search (rules, mark-read, image-at, image-ends)

pub returns-in-None-clause-html : goal.returns-in-None-clause-html
returns-in-None-clause-html c =
    let reader = c.args.reader.now in
    let mark = c.index-mark.result.now in
    let is = mark-read reader c.args.at mark c.requires.within c.index-mark.ensures in
    mark-goes-on c.args.source.now c.args.definitions.now reader c.args.html.now _ c.args.at mark c.requires.settled c.requires.within is c.in_ok-push_one.ensures.pushed c.in-None.ensures
