use Rattle.cm_source.proofs.lemmas.spelling.SpelledTexts.{kept, spelled-ascii}
use Rattle.cm_source.proofs.texts.push_spelled.Goals as goal

pub push_replaced-requires-clause-ascii : goal.push_replaced-requires-clause-ascii
push_replaced-requires-clause-ascii c = spelled-ascii

pub push_replaced-requires-clause-others : goal.push_replaced-requires-clause-others
push_replaced-requires-clause-others c = kept
