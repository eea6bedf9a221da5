use Rattle.std.proofs.Common.{◌≡◌, ℕ, suc, List, ◌+◌, ◌++◌, replicate, ap, subst, sym, ◌∙◌, arith}
use Rattle.cm_source.specs.Texts.{longest_run, padding, spelled_code}
use Rattle.cm_source.specs.steps.WrittenLines.{Lays}
use Rattle.cm_source.proofs.lemmas.spelling.WrittenLineLemmas.{then-ok, lays-then}
use Rattle.cm_source.proofs.inlines.spell_code.Goals as goal

code-is : (text : List ℕ) → let marks : List ℕ = replicate (longest_run 0 text + 1) 96 in spelled_code text ≡ marks ++ padding text ++ text ++ padding text ++ marks
unfolding spelled_code
code-is text = let one : longest_run 0 text + 1 ≡ suc (longest_run 0 text) = omega arith in ap (λ n. replicate n 96 ++ padding text ++ text ++ padding text ++ replicate n 96) (sym one)

pub returns : goal.returns
returns c =
    let text = c.args.text.now in
    let start = c.args.source.now in
    let one = c.push_marks.new.self in
    let two = c.push.new.self in
    let three = c.push_lines.new.self in
    let four = c.push-2.new.self in
    let marks : List ℕ = replicate (c.longest_run-marks.result + 1) 96 in
    let pad = c.padding-padding.result.now in
    let shape = ap (λ n. replicate (n + 1) 96 ++ pad ++ text ++ pad ++ replicate (n + 1) 96) c.longest_run-marks.ensures.longest
    ∙ ap (λ p. replicate (longest_run 0 text + 1) 96 ++ p ++ text ++ p ++ replicate (longest_run 0 text + 1) 96) c.padding-padding.ensures.padding ∙ sym (code-is text) in
    let front = lays-then start two three (marks ++ pad) text (lays-then start one two marks pad c.in_ok-push_marks.ensures c.in_ok-push.ensures) c.in_ok-push_lines.ensures in
    then-ok c.push_marks-2.result (λ last. subst (Lays start c.push_marks-2.new.self) shape
    (lays-then start four c.push_marks-2.new.self (marks ++ pad ++ text ++ pad) marks (lays-then start three four (marks ++ pad ++ text) pad front c.in_ok-push-2.ensures) last)) c.push_marks-2.ensures
