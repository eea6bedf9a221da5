use Rattle.std.proofs.Common.{◌+◌, ◌≤◌, ◌∙◌, length, codes, sym, ap, arith}
use Rattle.cm_scan.specs.spans.Reach.{dash_reach}
use Rattle.cm_scan.specs.spans.RawHtml.{after_comment}
use Rattle.cm_scan.proofs.lemmas.spans.RawHtmlByFirstBytes.{mark-comment, mark-section, mark-declaration}
use Rattle.cm_scan.proofs.lemmas.spans.ReachLemmas.{map_some, needed_comment, needed_section, needed_declared, word-shorter, chosen}
use Rattle.cm_scan.proofs.inline_html.after_mark.Goals as goal

pub returns-in-Some-clause-read : goal.returns-in-Some-clause-read
returns-in-Some-clause-read g c =
    c.after_comment.ensures.read ∙ ap (λ older. after_comment older c.in-Some.comment) c.is_older.ensures ∙ mark-comment c.args.rules c.args.inside.now c.in-Some.comment c.in-Some.ensures.read

pub returns-in-Some-after_front-clause-read : goal.returns-in-Some-after_front-clause-read
returns-in-Some-after_front-clause-read g c = c.after_end.ensures.read ∙ mark-section c.args.rules c.args.inside.now c.in-Some-after_front.section c.in-Some-after_front.ensures.read

pub returns-clause-read : goal.returns-clause-read
returns-clause-read g c = c.after_declaration.ensures.read ∙ mark-declaration c.args.rules c.args.inside.now c.in_default.ensures.read c.in_default-after_front.ensures.read

pub returns-in-Some-clause-some : goal.returns-in-Some-clause-some
returns-in-Some-clause-some g c =
    map_some c.after_comment.result _ _ c.after_comment.ensures.some (λ rest h. omega (arith, h, c.after_front.ensures.looks, word-shorter (codes "--") c.args.inside.now c.in-Some.comment (sym c.in-Some.ensures.read)))

pub returns-in-Some-clause-none : goal.returns-in-Some-clause-none
returns-in-Some-clause-none g c = λ none.
    let comment = c.in-Some.comment in
    omega (arith, c.after_comment.ensures.none none, chosen c.is_older.result c.args.rules.older (dash_reach comment) (length comment) c.is_older.ensures, c.after_front.ensures.looks, needed_comment c.args.rules.older c.args.inside.now comment c.in-Some.ensures.read)

pub returns-in-Some-after_front-clause-some : goal.returns-in-Some-after_front-clause-some
returns-in-Some-after_front-clause-some g c =
    map_some c.after_end.result _ _ c.after_end.ensures.some (λ rest h. omega (arith, h, c.after_front.ensures.looks, c.after_front-2.ensures.looks, word-shorter (codes "[CDATA[") c.args.inside.now c.in-Some-after_front.section (sym c.in-Some-after_front.ensures.read)))

pub returns-in-Some-after_front-clause-none : goal.returns-in-Some-after_front-clause-none
returns-in-Some-after_front-clause-none g c = λ none.
    omega (arith, c.after_end.ensures.looks, c.after_front.ensures.looks, c.after_front-2.ensures.looks, needed_section c.args.rules.older c.args.inside.now c.in-Some-after_front.section c.in_default.ensures.read c.in-Some-after_front.ensures.read)

pub returns-clause-some : goal.returns-clause-some
returns-clause-some g c =
    map_some c.after_declaration.result _ _ c.after_declaration.ensures.some (λ rest h. omega (arith, h, c.after_front.ensures.looks, c.after_front-2.ensures.looks))

pub returns-clause-none : goal.returns-clause-none
returns-clause-none g c = λ none.
    omega (arith, c.after_declaration.ensures.none none, c.after_front.ensures.looks, c.after_front-2.ensures.looks, needed_declared c.args.rules.older c.args.inside.now c.in_default.ensures.read c.in_default-after_front.ensures.read)
