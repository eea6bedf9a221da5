use Rattle.std.proofs.Common.{◌++◌, codes}
use Rattle.cm_json.specs.Mdast.{optional}
use Rattle.cm_json.specs.Printing.{text, between_quotes}
use Rattle.cm_json.proofs.lemmas.Pushed.{at_last}
use Rattle.cm_json.proofs.inlines.push_resource.Goals as goal

pub returns : goal.returns
returns c =
    let title = text (optional c.args.title.now) in
    at_last c.push_optional_shared.result _ _ _ (codes ",\"url\":") (between_quotes c.args.dest.now ++ (codes ",\"title\":" ++ title)) c.in_ok-push_str.ensures
    (at_last c.push_optional_shared.result _ _ _ (between_quotes c.args.dest.now) (codes ",\"title\":" ++ title) c.in_ok-push_shared.ensures
    (at_last c.push_optional_shared.result _ _ _ (codes ",\"title\":") title c.in_ok-push_str-2.ensures c.push_optional_shared.ensures))
