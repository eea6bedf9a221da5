use Rattle.std.specs.Fmt.{decimal}
use Rattle.cm_json.proofs.lemmas.PhraseLemmas.{held_pushed, decimal_as_held}
use Rattle.cm_json.proofs.json_text.JsonText.push_number.Goals as goal

pub returns : goal.returns
returns c =
    held_pushed c.push_number.result _ _ (decimal c.args.number) c.args.self.now c.push_number.ensures (decimal_as_held c.args.number c.ranges.number.fits) c.self.view_is
