use Rattle.cm_scan.proofs.lemmas.inlines.PairingInPieces.{texts_in_pieces}
use Rattle.cm_scan.proofs.lemmas.inlines.ReadingInPieces.{reading_in_pieces}
use Rattle.cm_scan.proofs.inline_laws.texts_in_pieces.Goals as goal

pub returns-clause-emphasis : goal.returns-clause-emphasis
returns-clause-emphasis c = texts_in_pieces

pub returns-clause-reading : goal.returns-clause-reading
returns-clause-reading c = reading_in_pieces
