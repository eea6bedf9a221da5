-- What a line buffer or a line feed holds: the lines of the bytes so far, without those already taken.
use Rattle.std.specs.Prelude.{◌≡◌, ℕ, ◌+◌, ◌≤◌, Bool, true, false, List, length, take, drop, Option, Some, None, Result, Ok, Err, ⊤}
use Rattle.std.specs.Str.Lossy.{utf8_valid_len}
use Rattle.cm_text.specs.declared.fault.TextFault.{TextFault}
use Rattle.cm_text.specs.declared.fault.TextFault.TheVariants.{NotUtf8, TooLong, NoMemory}
use Rattle.cm_text.specs.Lines.{LineView, text_of, plain_lines_of}
use Rattle.cm_text.specs.Cut.{Cut, IsFront, cut_more, nothing_cut, without}
use Rattle.cm_text.specs.Faults.{valid_len, after_valid, settled_fault, text_fault}

-- a cut after the longest prefix of some bytes that is UTF-8
abbrev pub cut_valid : Cut → List ℕ → Cut
cut_valid cut bytes = cut_more cut (text_of (take (utf8_valid_len bytes) bytes))

-- the text of the bytes within the limit, up to the first that isn't UTF-8, cut into lines
abbrev pub cut_bytes : ℕ → List ℕ → Cut
cut_bytes limit bytes = cut_valid nothing_cut (take limit bytes)

-- what a line buffer, or a line feed, holds, without where it lies in memory
pub record Feed : Type 0 where
  pub limit : ℕ
  pub start : ℕ
  pub pending : List ℕ
  pub cut : Cut
  pub ended : Bool
  pub fault : Option TextFault

-- These bytes have no fault so far, and the given number of their lines has been taken.
pub record Goes (feed : Feed) (bytes : List ℕ) (taken : ℕ) : Type 0 where
  pub sound : settled_fault feed.limit bytes ≡ None
  pub start : feed.start ≡ valid_len feed.limit bytes
  pub pending : feed.pending ≡ after_valid feed.limit bytes
  pub cut : feed.cut ≡ without taken (cut_bytes feed.limit bytes)
  pub in_order : taken ≤ length (cut_bytes feed.limit bytes).ended

-- These bytes are the whole text, and the given number of its lines has been taken.
pub record HasEnded (feed : Feed) (bytes : List ℕ) (taken : ℕ) : Type 0 where
  pub sound : text_fault feed.limit bytes ≡ None
  pub ready : feed.cut.ended ≡ drop taken (plain_lines_of (text_of bytes))
  pub in_order : taken ≤ length (plain_lines_of (text_of bytes))

-- These bytes have this fault, and the lines that ended before it can still be taken.
pub record HasFailed (fault : TextFault) (feed : Feed) (bytes : List ℕ) (taken : ℕ) : Type 0 where
  pub told : text_fault feed.limit bytes ≡ Some fault
  pub ready : feed.cut.ended ≡ drop taken (cut_bytes feed.limit bytes).ended
  pub in_order : taken ≤ length (cut_bytes feed.limit bytes).ended

-- Memory was refused, and some of the lines that ended can still be taken.
pub record LostMemory (feed : Feed) (bytes : List ℕ) (taken : ℕ) : Type 0 where
  pub ready : IsFront feed.cut.ended (drop taken (cut_bytes feed.limit bytes).ended)
  pub in_order : taken ≤ length (cut_bytes feed.limit bytes).ended

-- the same by cases: no fault and more to come, the end, a fault of the text, or refused memory
abbrev pub StandsAs : Option TextFault → Bool → Feed → List ℕ → ℕ → Type 0
StandsAs None false feed bytes taken = Goes feed bytes taken
StandsAs None true feed bytes taken = HasEnded feed bytes taken
StandsAs (Some (NotUtf8 at)) ended feed bytes taken = HasFailed (NotUtf8 at) feed bytes taken
StandsAs (Some (TooLong at)) ended feed bytes taken = HasFailed (TooLong at) feed bytes taken
StandsAs (Some NoMemory) ended feed bytes taken = LostMemory feed bytes taken

-- The feed holds what these bytes leave in it once the given number of lines has been taken: before their
-- end, after it, after a fault, or after a refused request for memory.
abbrev pub StandsFor : Feed → List ℕ → ℕ → Type 0
StandsFor feed bytes taken = StandsAs feed.fault feed.ended feed bytes taken

-- what a call returns if the text has this fault, or none; memory may be refused
abbrev pub Answers : Result (Unit {0}) TextFault → Option TextFault → Type 0
Answers (Ok _) told = told ≡ None
Answers (Err NoMemory) told = ⊤
Answers (Err (NotUtf8 at)) told = told ≡ Some (NotUtf8 at)
Answers (Err (TooLong at)) told = told ≡ Some (TooLong at)

-- the feed with these lines to be taken
abbrev pub with_ready : List LineView → Feed → Feed
with_ready ready feed = record {
  limit = feed.limit;
  start = feed.start;
  pending = feed.pending;
  cut = record feed.cut { ended = ready };
  ended = feed.ended;
  fault = feed.fault;
}

-- how many bytes within the limit have come
abbrev pub count : Feed → ℕ
count feed = feed.start + length feed.pending
