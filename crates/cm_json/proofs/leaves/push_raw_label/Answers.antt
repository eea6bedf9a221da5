use Rattle.std.proofs.Common.{◌++◌, true, cond, codes, ap, sym, ◌∙◌}
use Rattle.std.specs.Str.{bytes_eq}
use Rattle.json.specs.Json.{string, no_members, member}
use Rattle.json.specs.Print.{escape_byte}
use Rattle.cm_json.specs.Mdast.{raw_label}
use Rattle.cm_json.specs.Printing.{members_text, between_quotes}
use Rattle.cm_json.proofs.lemmas.Pushed.{at_last, in_full}
use Rattle.cm_json.proofs.leaves.push_raw_label.Goals as goal

pub returns : goal.returns
unfolding escape_byte
returns c =
    let label = c.args.label.now in
    let other = ap (λ t. bytes_eq t label) (sym c.requires) ∙ sym c.eq.ensures ∙ c.if-eq.false in
    in_full c.push_str-3.result _ _ _ (members_text true (raw_label label))
    (at_last c.push_str-3.result _ _ _ (codes ",\"label\":") (between_quotes label ++ codes "}") c.in_ok-push_str.ensures
    (at_last c.push_str-3.result _ _ _ (between_quotes label) (codes "}") c.in_ok-push_string.ensures c.push_str-3.ensures))
    (sym (ap (λ b. members_text true (cond b no_members (member (codes "label") (string label) no_members))) other))
