use Rattle.json.specs.Print.{escape}
use Rattle.cm_json.proofs.lemmas.PhraseLemmas.{held_pushed, escape_as_held}
use Rattle.cm_json.proofs.json_text.JsonText.push_shared.Goals as goal

pub returns : goal.returns
returns c = held_pushed c.push_formed.result _ _ (escape c.args.text.now) c.args.self.now c.push_formed.ensures (escape_as_held c.args.text.now) c.self.view_is
