use Rattle.cm_html.proofs.lemmas.WritingLemmas.{both, added_alike}
use Rattle.cm_html.proofs.outgoing.Outgoing.make_room.Goals as goal

pub returns : goal.returns
returns g c =
    both _ _ _ c.args.piece.now c.args.self.now c.flush.new.self c.in_ok-flush.ensures.adds c.write.result c.write.new.self _
    (added_alike _ _ c.args.piece.now c.flush.new.self c.holds.new.self c.write.new.self c.write.result (c.holds.ensures.full c.if-holds.false) c.holds.ensures.written c.write.ensures)
