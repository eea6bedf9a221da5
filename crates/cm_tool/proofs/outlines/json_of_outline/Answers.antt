use Rattle.std.proofs.Common.{◌≡◌, List, subst}
use Rattle.std.specs.Prelude.{IfOk}
use Rattle.cm_tree.specs.declared.tree.Owner.{Owner}
use Rattle.cm_json.specs.Mdast.{json_of, value_of}
use Rattle.cm_json.specs.Writing.{IsJson}
use Rattle.cm_tool.specs.Document.{owners_of_bytes}
use Rattle.cm_tool.specs.steps.LeafWalks.{all_left}
use Rattle.cm_tool.proofs.lemmas.JsonLemmas.{both}
use Rattle.cm_tool.proofs.lemmas.ParserLemmas.{walk_made}
use Rattle.cm_tool.proofs.outlines.json_of_outline.Goals as goal

pub returns : goal.returns
returns c = λ bytes is.
    let new = c.new.ensures in
    let blocks = all_left c.new.result.unread in
    let owners = owners_of_bytes c.args.limits.rules bytes in
    walk_made c.args.limits c.args.outline bytes is (λ tree json. (json ≡ json_of tree owners) × IsJson (json_of tree owners) (value_of tree owners)) c.new.result c.json.new.self
    new.first new.limits new.all c.json.result
    (subst (λ (owners : List Owner). IfOk c.json.result (λ json. (json ≡ json_of blocks owners) × IsJson (json_of blocks owners) (value_of blocks owners))) is.same.owners
    (both c.json.result (λ json. json ≡ json_of blocks c.args.outline.owners) _ c.json.ensures.json c.json.ensures.is_json))
    c.json.ensures.passes c.json.ensures.told
