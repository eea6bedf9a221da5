use Rattle.std.proofs.Common.{◌++◌, true, codes, length}
use Rattle.cm_json.specs.Mdast.{markers}
use Rattle.cm_json.specs.steps.Texts.{lines_text}
use Rattle.cm_json.specs.Printing.{members_text}
use Rattle.cm_json.proofs.lemmas.Pushed.{at_last}
use Rattle.cm_json.proofs.blocks.push_root_start.Goals as goal

pub returns : goal.returns
returns c =
    let told = members_text true (markers c.args.owners.now) in
    let kids = codes ",\"children\":[" in
    at_last c.push_str-2.result _ _ _ (codes "{\"type\":\"root\"") (lines_text 0 (length c.args.owners.now) ++ (told ++ kids)) c.in_ok-push_str.ensures
    (at_last c.push_str-2.result _ _ _ (lines_text 0 (length c.args.owners.now)) (told ++ kids) c.in_ok-push_lines.ensures
    (at_last c.push_str-2.result _ _ _ told kids c.in_ok-push_markers.ensures c.push_str-2.ensures))
