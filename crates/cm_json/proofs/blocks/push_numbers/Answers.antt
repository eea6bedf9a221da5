use Rattle.std.proofs.Common.{◌++◌, codes}
use Rattle.std.specs.Fmt.{decimal}
use Rattle.cm_json.specs.steps.Phrases.{expanded}
use Rattle.cm_json.proofs.lemmas.Pushed.{at_last}
use Rattle.cm_json.proofs.blocks.push_numbers.Goals as goal

pub returns-clause-written : goal.returns-clause-written
returns-clause-written c =
    at_last c.push_number.result _ _ _ (codes ",\"data\":{\"marker\":\"" ++ (expanded c.args.marker.now)) (codes "\"},\"ordered\":true,\"start\":" ++ decimal c.args.start) c.in_ok-push_marker.ensures
    (at_last c.push_number.result _ _ _ (codes "\"},\"ordered\":true,\"start\":") (decimal c.args.start) c.in_ok-push_str.ensures c.push_number.ensures)
