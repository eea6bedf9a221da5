use Rattle.std.proofs.Common.{sym, subst, ◌∙◌}
use Rattle.std.specs.Prelude.{codes}
use Rattle.cm_source.specs.Inlines.{spelled_content}
use Rattle.cm_source.specs.steps.WrittenLines.{Lays}
use Rattle.cm_source.proofs.lemmas.spelling.SpelledBlocks.{spaced-content, no-content}
use Rattle.cm_source.proofs.lemmas.spelling.WrittenLineLemmas.{then-ok, lays-then, lays-nothing}
use Rattle.cm_source.proofs.blocks.spell_after_space.Goals as goal

pub returns-then-is_empty : goal.returns-then-is_empty
returns-then-is_empty c = subst (Lays c.args.source.now c.args.source.now) (sym (no-content c.args.content.now (sym c.is_empty.ensures ∙ c.if-is_empty.true))) (lays-nothing c.args.source.now)

pub returns : goal.returns
returns c =
    let start = c.args.source.now in
    let end = c.spell_inlines.new.source in
    let content = c.args.content.now in
    then-ok c.spell_inlines.result (λ lays. subst (Lays start end) (sym (spaced-content content (sym c.is_empty.ensures ∙ c.if-is_empty.false))) (lays-then start c.push.new.self end (codes " ") (spelled_content content) c.in_ok-push.ensures lays)) c.spell_inlines.ensures
