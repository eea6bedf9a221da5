use Rattle.std.proofs.Common.{◌∙◌, drop, ap}
use Rattle.cm_scan.proofs.lemmas.spans.FollowedAutolinks.{all-followed}
use Rattle.cm_scan.proofs.autolinks.autolink.Goals as goal

pub returns-clause-read : goal.returns-clause-read
returns-clause-read c = c.autolink_by.ensures.read ∙ all-followed c.profile.result (drop c.args.at c.args.text.now) (ap (λ r. r.any_address) c.profile.ensures)
