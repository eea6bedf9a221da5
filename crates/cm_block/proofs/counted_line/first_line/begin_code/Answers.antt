use Rattle.std.proofs.Common.{◌≡◌, [], ◌++◌, Some, ap, ap₂, ◌∙◌}
use Rattle.cm_text.specs.Lines.{LineView}
use Rattle.cm_text.specs.Views.{seen_view}
use Rattle.cm_block.proofs.lemmas.FeedLemmas.{feeds_of_first}
use Rattle.cm_block.proofs.lemmas.LeafLemmas.{no_text, code_begins}
use Rattle.cm_block.proofs.counted_line.first_line.begin_code.Goals as goal

pub returns : goal.returns
returns c by =
    let text = c.args.leaf.now.text in
    let empty : text ≡ [] = no_text c.args.leaf.now c.requires in
    let pushed = c.in_ok-push_line.ensures in
    ap Some (code_begins by c.push_line.new.text c.clear.new.self (seen_view c.args.line.now)
    (pushed ∙ ap₂ (λ t (l : LineView). t ++ l.text) empty c.strip_four.ensures)
    (feeds_of_first c.push_line.new.text text c.strip_four.result.spaces c.strip_four.result.rest.now
    empty pushed c.strip_four.result.one_line)
    c.clear.ensures)
