use Rattle.std.proofs.Common.{◌≡◌, suc, max, true, [], ◌∷◌, ◌++◌, replicate, ap, subst, ◌∙◌, append-nil, arith}
use Rattle.cm_source.specs.Texts.{longest_run, spelled_text}
use Rattle.cm_source.specs.Spelling.{fence_around, ended_lines}
use Rattle.cm_source.specs.steps.WrittenLines.{Writes}
use Rattle.cm_source.proofs.lemmas.spelling.WrittenLineLemmas.{then-ok, writes-then}
use Rattle.cm_source.proofs.blocks.spell_code_block.Goals as goal

pub returns : goal.returns
unfolding spelled_text
returns c =
    let start = c.args.source.now in
    let two = c.push_ended_lines.new.self in
    let end = c.spell_fence-2.new.source in
    let n = c.max-marks.result in
    let info = spelled_text true true c.args.info.now in
    let text = c.args.text.now in
    let most : n ≡ max 3 (suc (longest_run 0 text)) = grind (arith, c.max-marks.ensures, c.longest_run.ensures.longest) in
    let fence : replicate n 96 ≡ fence_around text = ap (λ k. replicate k 96) most in
    let shape = ap (λ f. ((f ++ info) ∷ ended_lines text) ++ (f ++ []) ∷ []) fence ∙ ap (λ f. ((fence_around text ++ info) ∷ ended_lines text) ++ f ∷ []) (append-nil (fence_around text)) in
    then-ok c.spell_fence-2.result (λ last. subst (Writes start end) shape
    (writes-then start two end ((replicate n 96 ++ info) ∷ ended_lines text) ((replicate n 96 ++ []) ∷ []) (writes-then start c.spell_fence.new.source two ((replicate n 96 ++ info) ∷ []) (ended_lines text) c.in_ok-spell_fence.ensures c.in_ok-push_ended_lines.ensures) last)) c.spell_fence-2.ensures
