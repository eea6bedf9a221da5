use Rattle.std.proofs.Common.{◌++◌, codes}
use Rattle.cm_json.specs.steps.Phrases.{expanded}
use Rattle.cm_json.proofs.lemmas.Pushed.{at_last}
use Rattle.cm_json.proofs.blocks.push_bullets.Goals as goal

pub returns : goal.returns
returns c =
    at_last c.push_str.result _ _ _ (codes ",\"data\":{\"marker\":\"" ++ (expanded c.args.marker.now)) (codes "\"},\"ordered\":false,\"start\":null") c.in_ok-push_marker.ensures c.push_str.ensures
