use Rattle.std.proofs.Common.{◌≡◌, ◌∙◌, Some, None, drop, sym, ap, arith}
use Rattle.std.specs.List.{find}
use Rattle.std.proofs.lemmas.Grind.{common_steps}
use Rattle.cm_scan.specs.steps.LineSteps.{is_plain}
use Rattle.cm_scan.proofs.lemmas.blocks.LineFormLemmas.{no_thematic, thematic_unmarked, thematic_marked}
use Rattle.cm_scan.proofs.line_forms.thematic.Goals as goal

pub returns-in_err-marker : goal.returns-in_err-marker
returns-in_err-marker c = record {
  end = let text = drop c.args.at c.args.text.now in
      let none : find is_plain text ≡ None = sym (c.in_err-marker.ensures.found ∙ ap (find is_plain) c.bytes_from-bytes.ensures.rest) in
      grind (arith, common_steps, no_thematic text none);
}

pub returns-then-not-is_break_marker : goal.returns-then-not-is_break_marker
returns-then-not-is_break_marker c = record {
  end = let text = drop c.args.at c.args.text.now in
      let found : find is_plain text ≡ Some c.in_ok-marker.marker = sym (c.in_ok-marker.ensures.found ∙ ap (find is_plain) c.bytes_from-bytes.ensures.rest) in
      grind (arith, common_steps, thematic_unmarked text c.in_ok-marker.marker found);
}

pub returns-then-not-is_break_of : goal.returns-then-not-is_break_of
returns-then-not-is_break_of c = record {
  end = let text = drop c.args.at c.args.text.now in
      let found : find is_plain text ≡ Some c.in_ok-marker.marker = sym (c.in_ok-marker.ensures.found ∙ ap (find is_plain) c.bytes_from-bytes.ensures.rest) in
      grind (arith, common_steps, thematic_marked text c.in_ok-marker.marker found);
}

pub returns : goal.returns
returns c = record {
  end = let text = drop c.args.at c.args.text.now in
      let found : find is_plain text ≡ Some c.in_ok-marker.marker = sym (c.in_ok-marker.ensures.found ∙ ap (find is_plain) c.bytes_from-bytes.ensures.rest) in
      grind (arith, common_steps, thematic_marked text c.in_ok-marker.marker found);
}
