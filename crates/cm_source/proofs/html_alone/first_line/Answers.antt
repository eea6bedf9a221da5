use Rattle.std.proofs.Common.{◌≡◌, ◌==◌, Some, None, take, drop, ◌+◌, ap, sym, ◌∙◌}
use Rattle.std.specs.List.{position}
use Rattle.cm_source.specs.Spelling.{ended_lines}
use Rattle.cm_source.specs.Refusals.{first_line}
use Rattle.cm_source.proofs.lemmas.spelling.NoLineFeeds.{feed-at, no-feed, ended-first, cut-ascii}
use Rattle.cm_source.proofs.lemmas.refusals.HtmlAlone.{line-alone}
use Rattle.cm_source.proofs.html_alone.first_line.Goals as goal

pub cut_at-requires-clause-ascii : goal.cut_at-requires-clause-ascii
cut_at-requires-clause-ascii c =
    let found : position (λ b. b == 10) c.args.text.now ≡ Some c.in-Some.at = cc in
    cut-ascii c.args.text.now c.in-Some.at found

pub returns-in-Some : goal.returns-in-Some
returns-in-Some c =
    let text = c.args.text.now in
    let found : position (λ b. b == 10) text ≡ Some c.in-Some.at = cc in
    let at = feed-at text c.in-Some.at found in
    c.cut_at.ensures.before ∙ sym (ap first_line (ap ended_lines at.1 ∙ ended-first (take c.in-Some.at text) (drop (c.in-Some.at + 1) text) at.0))

pub returns-in-None : goal.returns-in-None
returns-in-None c =
    let none : position (λ b. b == 10) c.args.text.now ≡ None = cc in
    line-alone c.args.text.now (no-feed c.args.text.now none)
