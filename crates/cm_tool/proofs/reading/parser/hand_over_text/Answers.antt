use Rattle.std.proofs.Common.{◌≡◌, ◌∙◌, ◌++◌, ◌+◌, ℕ, List, drop, ap, subst}
use Rattle.cm_text.specs.Lines.{plain_lines_of}
use Rattle.cm_text.specs.Feed.{Feed, StandsFor, with_ready}
use Rattle.cm_tool.proofs.lemmas.PassedLemmas.{text_within, text_passed}
use Rattle.cm_tool.proofs.reading.parser.hand_over_text.Goals as goal

pub returns-clause-handed : goal.returns-clause-handed
returns-clause-handed c =
    let old = c.args.feed.now in
    let new = c.pass_lines.new.self in
    let t = c.in-Some.lines in
    let P : Feed → Type 0 = λ f. f.cut.ended ≡ plain_lines_of t.text.now ++ drop t.count f.cut.ended in
    let first = subst P c.look_for_text.ensures c.in-Some.ensures in
    let Q : Feed → Type 0 = λ f. (bytes : List ℕ) (taken : ℕ) → StandsFor f bytes taken → StandsFor new bytes (taken + t.count) in (
      plain_lines_of t.text.now,
      text_passed old new t.text.now t.spaces t.count t.lines first
          (c.pass_lines.ensures.rest ∙ ap (λ (f : Feed). with_ready (drop t.count f.cut.ended) f) c.look_for_text.ensures)
          (subst Q c.look_for_text.ensures (c.pass_lines.ensures.stands (text_within c.look_for_text.new.self new t.text.now t.spaces t.count t.lines c.in-Some.ensures))),
      c.in_ok-text_lines.ensures.stands,
    )
