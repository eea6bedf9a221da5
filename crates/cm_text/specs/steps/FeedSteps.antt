-- What a feed holds after one more piece, given what it held before.
use Rattle.std.specs.Prelude.{◌≡◌, ℕ, ◌+◌, ◌-◌, ◌<◌, nat_lt, if◌then◌else◌, true, false, List, [], ◌++◌, length, map, take, Option, Some, None, Result, Ok, Err, is_some}
use Rattle.std.specs.Str.Lossy.{utf8_valid_len, utf8_error_len}
use Rattle.cm_text.specs.declared.fault.TextFault.{TextFault}
use Rattle.cm_text.specs.declared.fault.TextFault.TheVariants.{NotUtf8, TooLong, NoMemory}
use Rattle.cm_text.specs.Cut.{Cut, IsFront}
use Rattle.cm_text.specs.Faults.{left_of}
use Rattle.cm_text.specs.Lines.{LineView, last_line, plain_line}
use Rattle.cm_text.specs.Feed.{Feed, count, cut_valid, with_ready}

-- the bytes that were left over and the piece's bytes within the limit
abbrev pub joined_of : Feed → List ℕ → List ℕ
joined_of feed piece = feed.pending ++ take (feed.limit - (feed.start + length feed.pending)) piece

-- the feed after them, but for its fault
abbrev pub next_cut : Feed → List ℕ → Cut
next_cut feed piece = cut_valid feed.cut (joined_of feed piece)

abbrev pub next_feed : Feed → List ℕ → Feed
next_feed feed piece = record {
  limit = feed.limit;
  start = feed.start + utf8_valid_len (joined_of feed piece);
  pending = left_of (joined_of feed piece);
  cut = next_cut feed piece;
  ended = feed.ended;
  fault = feed.fault;
}

-- the fault
abbrev pub next_fault : Feed → List ℕ → Option TextFault
next_fault feed piece =
    if is_some (utf8_error_len (left_of (joined_of feed piece))) then Some (NotUtf8 (feed.start + utf8_valid_len (joined_of feed piece)))
    else (if nat_lt (feed.limit - (feed.start + length feed.pending)) (length piece) then Some (TooLong feed.limit) else None)

-- memory was refused in the call
pub record Refused (old : Feed) (piece : List ℕ) (new : Feed) : Type 0 where
  pub limit : new.limit ≡ old.limit
  pub ended : new.ended ≡ old.ended
  pub fault : new.fault ≡ old.fault
  pub ready : IsFront new.cut.ended (next_cut old piece).ended

abbrev pub Steps : Result (Unit {0}) TextFault → Feed → List ℕ → Feed → Type 0
Steps (Err NoMemory) old piece new = Refused old piece new
Steps (Err (NotUtf8 at)) old piece new = (new ≡ next_feed old piece) × (next_fault old piece ≡ Some (NotUtf8 at))
Steps (Err (TooLong at)) old piece new = (new ≡ next_feed old piece) × (next_fault old piece ≡ Some (TooLong at))
Steps (Ok _) old piece new = (new ≡ next_feed old piece) × (next_fault old piece ≡ None)

-- The text ends: the last line has ended then, if it isn't empty.
pub record HasClosed (old new : Feed) : Type 0 where
  pub pending : old.pending ≡ []
  pub limit : new.limit ≡ old.limit
  pub fault : new.fault ≡ old.fault
  pub ended : new.ended ≡ true
  pub ready : new.cut.ended ≡ old.cut.ended ++ map plain_line (last_line old.cut.partial)

abbrev pub Closes : Result (Unit {0}) TextFault → Feed → Feed → Type 0
Closes (Ok _) old new = HasClosed old new
Closes (Err NoMemory) old new = (new.limit ≡ old.limit) × IsFront new.cut.ended old.cut.ended
Closes (Err (NotUtf8 at)) old new = (new ≡ old) × (0 < length old.pending) × (at ≡ old.start)
Closes (Err (TooLong at)) old new = ⊥

-- a feed with lines before those that it has, and with a fault
abbrev pub after_ready : List LineView → Option TextFault → Feed → Feed
after_ready ready fault feed = record {
  limit = feed.limit;
  start = feed.start;
  pending = feed.pending;
  cut = record feed.cut { ended = ready ++ feed.cut.ended };
  ended = feed.ended;
  fault = fault;
}

-- some of the lines of a feed went to the end of others
abbrev pub Moves : List LineView → Feed → List LineView → Feed → Type 0
Moves ready old more new =
    (lines : List LineView) × (more ≡ ready ++ lines) × (old.cut.ended ≡ lines ++ new.cut.ended) × (new ≡ with_ready new.cut.ended old)

-- and the others, at least one, were dropped
pub record LetsGo (ready : List LineView) (old : Feed) (more : List LineView) (new : Feed) : Type 0 where
  pub gone : List LineView
  pub left : List LineView
  pub went : more ≡ ready ++ gone
  pub parts : old.cut.ended ≡ gone ++ left
  pub some : 0 < length left
  pub ended : new.ended ≡ false
  pub count : count new ≡ 0
