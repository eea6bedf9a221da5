use Rattle.std.proofs.Common.{◌++◌, true, false, codes, ap, sym, ◌∙◌}
use Rattle.json.specs.Print.{escape_byte}
use Rattle.cm_json.specs.Mdast.{marker_lines, markers}
use Rattle.cm_json.specs.Printing.{items_text, members_text}
use Rattle.cm_json.proofs.lemmas.MarkerLemmas.{none_told, some_told}
use Rattle.cm_json.proofs.lemmas.Pushed.{in_full, at_last}
use Rattle.cm_json.proofs.blocks.push_markers.Goals as goal

pub returns-then-not-has_marker : goal.returns-then-not-has_marker
unfolding escape_byte
returns-then-not-has_marker c =
    in_full c.push_str.result _ _ _ (members_text true (markers c.args.owners.now)) c.push_str.ensures
    (sym (ap (members_text true) (none_told c.args.owners.now (sym c.has_marker.ensures ∙ c.if-not-has_marker.true))))

pub returns : goal.returns
unfolding escape_byte
returns c =
    let its = items_text false (marker_lines 0 c.args.owners.now) in
    in_full c.push_str-3.result _ _ _ (members_text true (markers c.args.owners.now))
    (at_last c.push_str-3.result _ _ _ (codes ",\"markers\":[") (its ++ codes "}") c.in_ok-push_str.ensures
    (at_last c.push_str-3.result _ _ _ its (codes "}") c.in_ok-push_marker_lines.ensures c.push_str-3.ensures))
    (sym (ap (members_text true) (some_told c.args.owners.now (sym c.has_marker.ensures ∙ c.if-not-has_marker.false))))
