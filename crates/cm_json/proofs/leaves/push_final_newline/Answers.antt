use Rattle.std.proofs.Common.{Bool, true, false, cond, List, ℕ, codes, ap, sym, ◌∙◌}
use Rattle.json.specs.Json.{boolean, no_members, member}
use Rattle.json.specs.Print.{escape_byte}
use Rattle.cm_json.specs.Mdast.{final_newline}
use Rattle.cm_json.specs.Printing.{members_text}
use Rattle.cm_json.proofs.lemmas.Pushed.{in_full}
use Rattle.cm_json.proofs.leaves.push_final_newline.Goals as goal

-- what is written, by whether the text ends in a line feed
abbrev told : Bool → List ℕ
told ends = members_text true (cond ends no_members (member (codes "finalNewline") (boolean false) no_members))

pub returns-then-ends_in_line_feed : goal.returns-then-ends_in_line_feed
unfolding escape_byte
returns-then-ends_in_line_feed c =
    in_full c.push_str.result _ _ _ (members_text true (final_newline c.args.value.now)) c.push_str.ensures
    (sym (ap told (sym c.ends_in_line_feed.ensures ∙ c.if-ends_in_line_feed.true)))

pub returns : goal.returns
unfolding escape_byte
returns c =
    in_full c.push_str-2.result _ _ _ (members_text true (final_newline c.args.value.now)) c.push_str-2.ensures
    (sym (ap told (sym c.ends_in_line_feed.ensures ∙ c.if-ends_in_line_feed.false)))
