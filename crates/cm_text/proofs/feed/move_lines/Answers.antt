use Rattle.std.proofs.Common.{◌≡◌, ◌∙◌, ◌∷◌, ◌++◌, [], List, map, ap, sym, subst}
use Rattle.std.proofs.lemmas.List.{map-append}
use Rattle.cm_text.specs.Lines.{LineView, seen_line}
use Rattle.cm_text.specs.Views.{seen_view}
use Rattle.cm_text.specs.steps.FeedSteps.{Moves}
use Rattle.cm_text.proofs.lemmas.ReadyLemmas.{moves_one}
use Rattle.cm_text.proofs.feed.move_lines.Goals as goal

pub loop-line-preserved : goal.loop-line-preserved
loop-line-preserved c =
    let held = c.loop-line.ready.items in
    let ready = map seen_line c.args.ready.now.items in
    let items : map seen_line c.push_back.new.self.items ≡ map seen_line held ++ seen_view c.in-Some.line ∷ [] =
    ap (map seen_line) c.in_ok-push_back.ensures.items ∙ map-append seen_line held (c.in_ok-copied.field-0 ∷ []) ∙ ap (λ l. map seen_line held ++ l ∷ []) c.in_ok-copied.ensures in
    let P : List LineView → Type 0 = λ t. Moves ready c.args.buffer.now t c.pass_line.new.self in
    subst P (sym items)
    (moves_one ready (map seen_line held) c.args.buffer.now c.loop-line.buffer c.pass_line.new.self (seen_view c.in-Some.line) c.loop-line.invariant c.in-Some.ensures.line c.pass_line.ensures.rest)
