use Rattle.std.proofs.Common.{◌≡◌, ◌∙◌, Some, None, get_or}
use Rattle.std.specs.List.{position}
use Rattle.std.proofs.lemmas.List.Quantifiers.{position-Some}
use Rattle.cm_html.specs.Escape.{is_space_or_tab}
use Rattle.cm_html.proofs.lemmas.Words.{word-found, word-none, gap_ascii}
use Rattle.cm_html.proofs.escape.class_word.Goals as goal

pub cut_at-requires-clause-ascii : goal.cut_at-requires-clause-ascii
cut_at-requires-clause-ascii c =
    let found : position is_space_or_tab c.args.info.now ≡ Some c.in-Some.at = cc in
    gap_ascii (get_or c.args.info.now c.in-Some.at 0) (position-Some is_space_or_tab c.args.info.now c.in-Some.at 0 found).1

pub returns-in-Some : goal.returns-in-Some
returns-in-Some c =
    let found : position is_space_or_tab c.args.info.now ≡ Some c.in-Some.at = cc in
    c.cut_at.ensures.before ∙ word-found c.args.info.now c.in-Some.at found

pub returns-in-None : goal.returns-in-None
returns-in-None c =
    let none : position is_space_or_tab c.args.info.now ≡ None = cc in
    word-none c.args.info.now none
