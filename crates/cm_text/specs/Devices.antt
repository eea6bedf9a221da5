-- What the devices in memory hold.
use Rattle.std.specs.Prelude.{ℕ, ◌-◌, ◌==◌, ◌&&◌, not, min, nat_lt, Bool, true, false, List, [], ◌∷◌, length, drop, Result, Ok, Err, if◌then◌else◌}
use Rattle.cm_text.specs.declared.device.DeviceFailed.{DeviceFailed}
use Rattle.cm_text.specs.declared.device.pieces.Pieces.{Pieces}
use Rattle.cm_text.specs.declared.device.room.Room.{Room}

abbrev device_failed : DeviceFailed
device_failed = record {}

-- whether reads fail after the last piece
abbrev pub fails_of : Pieces → Bool
fails_of pieces = pieces.fails

-- what is left of the piece that contains the byte at this offset
abbrev pub piece_after : {X : Type 0} (bytes_of : X → List ℕ) → ℕ → List X → List ℕ
piece_after bytes_of start [] = []
piece_after bytes_of start (piece ∷ pieces) = elim (nat_lt start (length (bytes_of piece))) [
  | true ↦ drop start (bytes_of piece)
  | false ↦ piece_after bytes_of (start - length (bytes_of piece)) pieces
]

-- what is left of the piece that comes next; empty pieces are skipped
abbrev pub next_piece : Pieces → List ℕ
next_piece pieces = piece_after (λ piece. piece.items) pieces.start (drop pieces.index pieces.pieces.items)

-- how many bytes the room takes in all
abbrev pub capacity_of : Room → ℕ
capacity_of room = room.capacity

-- how many bytes it takes in one call at most
abbrev pub at_most_of : Room → ℕ
at_most_of room = room.at_most

-- how many of the given number of bytes it takes now
abbrev pub part_of : Room → ℕ → ℕ
part_of room count = min (min count (room.capacity - length room.bytes.items)) room.at_most

-- what the room returns for these bytes: how many it takes, or an error if it takes none of some
abbrev pub room_answer : Room → List ℕ → Result ℕ DeviceFailed
room_answer room bytes =
    let part = part_of room (length bytes) in
    if part == 0 && not (length bytes == 0) then Err device_failed else Ok part
