use Rattle.std.proofs.Common.{◌<◌, ◌^◌, ◌++◌, ◌∙◌, length, arith, refl, ap, ap₂}
use Rattle.cm_json.specs.Mdast.{json_of, value_of}
use Rattle.cm_json.proofs.lemmas.Printed.{is_json}
use Rattle.cm_json.proofs.lemmas.SameDocuments.{numbers}
use Rattle.cm_tool.specs.steps.LeafWalks.{all_left}
use Rattle.cm_tool.proofs.outlines.leaf_walk.LeafWalk.json.Goals as goal

pub returns-clause-json : goal.returns-clause-json
returns-clause-json c =
    let blocks = all_left c.args.self.now.unread in
    let owners = c.as_slice-owners.result.now in
    c.in_ok-finish.ensures owners
    ∙ c.in_ok-push_json.ensures.whole
    ∙ c.in_ok-json.ensures.whole blocks
    ∙ ap₂ (λ text owners. text ++ json_of blocks owners) c.in_ok-text.ensures (c.as_slice-owners.ensures ∙ c.in_ok-owners.ensures)

pub returns-clause-is_json : goal.returns-clause-is_json
returns-clause-is_json c =
    let blocks = all_left c.args.self.now.unread in
    let owners = c.args.owners.now in
    let small : length owners < 2 ^ 63 = omega (arith, c.in_ok-json.ensures.small, ap length (c.as_slice-owners.ensures ∙ c.in_ok-owners.ensures)) in
    is_json (value_of blocks owners) (json_of blocks owners) (numbers blocks owners c.in_ok-push_json.ensures.in_range small) refl
