use Rattle.std.proofs.Common.{◌≡◌, ◌-◌, drop, length, vec_len}
use Rattle.std.specs.List.{flat_map}
use Rattle.cm_text.specs.Devices.{piece_after}
use Rattle.cm_text.proofs.device.pieces.PiecesSource.read.Given as goal

abbrev pub invariant-loop-self : goal.invariant-loop-self
invariant-loop-self l = record {
  same : drop l.self.start (flat_map (λ piece. piece.items) (drop l.self.index l.self.pieces.items))
      ≡ drop l.initial.self.start (flat_map (λ piece. piece.items) (drop l.initial.self.index l.initial.self.pieces.items));
  piece : piece_after (λ piece. piece.items) l.self.start (drop l.self.index l.self.pieces.items)
      ≡ piece_after (λ piece. piece.items) l.initial.self.start (drop l.initial.self.index l.initial.self.pieces.items);
  room : length l.buf ≡ length l.initial.buf;
  failures : l.self.failures ≡ l.initial.self.failures;
  fails : l.self.fails ≡ l.initial.self.fails;
}

abbrev pub decreases-loop-self : goal.decreases-loop-self
decreases-loop-self l = vec_len l.self.pieces - l.self.index
