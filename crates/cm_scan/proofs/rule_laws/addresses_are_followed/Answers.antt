use Rattle.cm_scan.proofs.lemmas.trees.InlinesRead.{inlines_followed}
use Rattle.cm_scan.proofs.lemmas.trees.TreesRead.{trees_followed}
use Rattle.cm_scan.proofs.rule_laws.addresses_are_followed.Goals as goal

pub returns-clause-inlines : goal.returns-clause-inlines
returns-clause-inlines c = inlines_followed

pub returns-clause-trees : goal.returns-clause-trees
returns-clause-trees c = trees_followed
