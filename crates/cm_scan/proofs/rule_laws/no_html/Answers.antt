use Rattle.cm_scan.proofs.lemmas.trees.InlinesRead.{no_raw_html}
use Rattle.cm_scan.proofs.lemmas.trees.TreesRead.{no_html_block, no_html}
use Rattle.cm_scan.proofs.rule_laws.no_html.Goals as goal

pub returns-clause-blocks : goal.returns-clause-blocks
returns-clause-blocks c = no_html_block

pub returns-clause-inlines : goal.returns-clause-inlines
returns-clause-inlines c = no_raw_html

pub returns-clause-trees : goal.returns-clause-trees
returns-clause-trees c = no_html
