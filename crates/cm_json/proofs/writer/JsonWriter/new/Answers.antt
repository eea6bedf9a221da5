use Rattle.std.proofs.Common.{◌++◌, false, codes, map, ap, sym, ◌∙◌, append_assoc}
use Rattle.cm_json.specs.Mdast.{placed, all_placed, value_of}
use Rattle.cm_json.specs.steps.Texts.{root_front}
use Rattle.cm_json.specs.Printing.{items_text}
use Rattle.cm_json.proofs.lemmas.LeafTexts.{root-written}
use Rattle.cm_json.proofs.lemmas.Printed.{printed}
use Rattle.cm_json.proofs.writer.JsonWriter.new.Goals as goal

pub returns-clause-whole : goal.returns-clause-whole
returns-clause-whole c = λ blocks.
    let owners = c.args.owners.now in
    let nodes = (all_placed (map (placed owners) blocks) 0).0 in
    ap (λ t. t ++ (items_text false nodes ++ codes "}")) c.in_ok-push_root_start.ensures
    ∙ append_assoc c.args.json (root_front owners) (items_text false nodes ++ codes "}")
    ∙ ap (λ t. c.args.json ++ t) (root-written owners nodes ∙ sym (printed (value_of blocks owners)))
