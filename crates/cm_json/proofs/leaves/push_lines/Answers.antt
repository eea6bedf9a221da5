use Rattle.std.proofs.Common.{◌+◌, ◌++◌, codes}
use Rattle.std.specs.Fmt.{decimal}
use Rattle.cm_json.proofs.lemmas.Pushed.{at_last}
use Rattle.cm_json.proofs.leaves.push_lines.Goals as goal

pub returns : goal.returns
returns c =
    let start = decimal (c.args.passed + 1) in
    let end = decimal c.args.end in
    at_last c.push_str-3.result _ _ _ (codes ",\"data\":{\"lines\":[") (start ++ (codes "," ++ (end ++ codes "]"))) c.in_ok-push_str.ensures
    (at_last c.push_str-3.result _ _ _ start (codes "," ++ (end ++ codes "]")) c.in_ok-push_number.ensures
    (at_last c.push_str-3.result _ _ _ (codes ",") (end ++ codes "]") c.in_ok-push_str-2.ensures
    (at_last c.push_str-3.result _ _ _ end (codes "]") c.in_ok-push_number-2.ensures c.push_str-3.ensures)))
