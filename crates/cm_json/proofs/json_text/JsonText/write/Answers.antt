use Rattle.cm_json.proofs.lemmas.PhraseLemmas.{phrases_are_short}
use Rattle.cm_json.proofs.json_text.JsonText.write.Goals as goal

pub write_phrases-requires-clause-short : goal.write_phrases-requires-clause-short
write_phrases-requires-clause-short g c = phrases_are_short
