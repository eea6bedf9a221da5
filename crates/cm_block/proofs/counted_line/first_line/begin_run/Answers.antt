use Rattle.std.proofs.Common.{◌≡◌, [], ◌++◌, Some, ap, ◌∙◌}
use Rattle.cm_block.specs.OpenLeaf.{open_text, stays_open, begins_leaf}
use Rattle.cm_block.proofs.lemmas.LeafLemmas.{no_text}
use Rattle.cm_block.proofs.counted_line.first_line.begin_run.Goals as goal

pub returns : goal.returns
returns c by =
    let empty : c.args.leaf.now.text ≡ [] = no_text c.args.leaf.now c.requires in
    ap (λ t. Some (begins_leaf (stays_open (open_text t)))) (c.in_ok-push.ensures ∙ ap (λ t. t ++ c.content.result.now) empty ∙ c.content.ensures.content)
