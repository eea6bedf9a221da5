use Rattle.std.proofs.Common.{◌+◌, ◌<◌, ◌++◌, true, drop, length, ap, ap₂, sym, ◌∙◌, arith, append_assoc}
use Rattle.std.specs.Fmt.{decimal}
use Rattle.cm_json.specs.Mdast.{marker_lines}
use Rattle.cm_json.specs.Printing.{comma, items_text}
use Rattle.cm_json.proofs.lemmas.MarkerLemmas.{no_marker, a_marker}
use Rattle.cm_json.proofs.blocks.push_marker_lines.Goals as goal
use Rattle.cm_json.proofs.blocks.push_marker_lines.Goals.{then-is_marker+in_ok-push_line_number, else-is_marker}

pub loop-owner-preserved : goal.loop-owner-preserved
loop-owner-preserved c =
    let owners = c.args.owners.now in
    let i = c.loop-owner.owner-index in
    let within : i < length owners = c.loop-owner-test.true in
    let rest = marker_lines (i + 1) (drop (i + 1) owners) in
    elim c.if-is_marker.branch [
      | then-is_marker+in_ok-push_line_number w ↦
          let is = sym c.is_marker.ensures ∙ w.if-is_marker.true in
          let wrote = w.in_ok-push_line_number.ensures ∙ ap (λ n. c.loop-owner.out ++ (comma c.loop-owner.follows ++ decimal (n + 1))) c.loop-owner.invariant.place in
          record {
            place = omega (arith, c.loop-owner.invariant.place);
            written =
                ap₂ (λ out follows. out ++ items_text follows rest) (w.out-is ∙ wrote) w.follows-is
                ∙ append_assoc c.loop-owner.out (comma c.loop-owner.follows ++ decimal (i + 1)) (items_text true rest)
                ∙ ap (λ t. c.loop-owner.out ++ items_text c.loop-owner.follows t) (a_marker owners i within is)
                ∙ c.loop-owner.invariant.written;
          }
      | else-is_marker w ↦
          let no = sym c.is_marker.ensures ∙ w.if-is_marker.false in
          record {
            place = omega (arith, c.loop-owner.invariant.place);
            written =
                ap₂ (λ out follows. out ++ items_text follows rest) w.out-is w.follows-is
                ∙ ap (λ t. c.loop-owner.out ++ items_text c.loop-owner.follows t) (no_marker owners i within no)
                ∙ c.loop-owner.invariant.written;
          }
    ]
