use Rattle.cm_scan.proofs.lemmas.spans.AutolinkReach.{links_once}
use Rattle.cm_scan.proofs.span_laws.autolinks_reach_once.Goals as goal

pub returns : goal.returns
returns c = links_once
