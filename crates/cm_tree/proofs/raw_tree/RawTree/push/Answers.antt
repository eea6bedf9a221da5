use Rattle.std.proofs.Common.{◌∙◌, ◌++◌, ap}
use Rattle.cm_tree.specs.RawTrees.{all_blocks}
use Rattle.cm_tree.proofs.lemmas.RawTreeLemmas.{all_blocks-push}
use Rattle.cm_tree.proofs.raw_tree.RawTree.push.Goals as goal

pub returns-clause-ok : goal.returns-clause-ok
returns-clause-ok c = ap all_blocks c.in_ok-push.ensures.items ∙ all_blocks-push c.self.inside.chunks.items c.args.chunk ∙ ap (λ t. t ++ c.args.chunk) c.self.view_is
