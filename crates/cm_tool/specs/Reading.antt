-- What reading a source to its end returns: its document, or its text.
use Rattle.std.specs.Prelude.{◌≡◌, ℕ, ◌+◌, List, Option, Some, None, Result, Ok, Err, ◌⊎◌, String, option_map, string_bytes}
use Rattle.std.specs.Io.KnownBytes.{IsAtEnd}
use Rattle.std.specs.declared.alloc.Global.{Global}
use Rattle.cm_text.specs.DeviceViews.{SourceView}
use Rattle.cm_text.specs.Limits.{LimitsView}
use Rattle.cm_text.specs.Lines.{text_of}
use Rattle.cm_text.specs.Faults.{settled_fault, text_fault}
use Rattle.cm_tree.specs.declared.tree.Doc.{Doc}
use Rattle.cm_tool.specs.declared.fault.Fault.{Fault}
use Rattle.cm_tool.specs.declared.fault.Fault.TheVariants.{NotUtf8, TooLong, BlocksTooDeep, InlinesTooDeep, NoMemory, ReadFailed}
use Rattle.cm_tool.specs.Document.{doc_of}
use Rattle.cm_tool.specs.ToldFaults.{told}
use Rattle.cm_tool.specs.Faults.{fault_of, settled_fault_of}

-- the source has been read to its end without a failed read, and what was read has no fault
pub record IsWhole (fault : Option Fault) (old new : SourceView) : Type 0 where
  pub same : new.failed ≡ old.failed
  pub at_end : IsAtEnd new.remaining
  pub sound : fault ≡ None

-- what was read has this fault: however it continues, or because it is all
pub record HasFault (settled whole : Option Fault) (old new : SourceView) (fault : Fault) : Type 0 where
  pub same : new.failed ≡ old.failed
  pub told : (settled ≡ Some fault) ⊎ ((settled ≡ None) × IsAtEnd new.remaining × (whole ≡ Some fault))

-- a read failed, and what was read before settles no fault
pub record HasFailed (settled : Option Fault) (old new : SourceView) : Type 0 where
  pub failed : new.failed ≡ old.failed + 1
  pub sound : settled ≡ None

-- Why there is no document or text: the fault that what was read settles; or a failed read, if it settles none; or, at the end, the
-- fault of the whole. If memory runs out, no read has failed, and nothing else is said.
abbrev pub RefusesBy : (settled whole : Option Fault) → Fault → SourceView → SourceView → Type 0
RefusesBy settled whole (NotUtf8 at) old new = HasFault settled whole old new (NotUtf8 at)
RefusesBy settled whole (TooLong at) old new = HasFault settled whole old new (TooLong at)
RefusesBy settled whole (BlocksTooDeep line) old new = HasFault settled whole old new (BlocksTooDeep line)
RefusesBy settled whole (InlinesTooDeep leaf) old new = HasFault settled whole old new (InlinesTooDeep leaf)
RefusesBy settled whole NoMemory old new = new.failed ≡ old.failed
RefusesBy settled whole ReadFailed old new = HasFailed settled old new
RefusesBy settled whole _ old new = ⊥

-- the bytes have been read to the end of the source without a failed read, and have no fault
abbrev pub ReadWhole : LimitsView → List ℕ → SourceView → SourceView → Type 0
ReadWhole limits bytes old new = IsWhole (fault_of limits bytes) old new

-- why these bytes have no document: the fault that they settle, a failed read, or their fault at the end, in this order
abbrev pub Refuses : Fault → LimitsView → List ℕ → SourceView → SourceView → Type 0
Refuses fault limits bytes old new = RefusesBy (settled_fault_of limits bytes) (fault_of limits bytes) fault old new

-- what reading these bytes returns: their document, or why there is none
abbrev pub Reads : Result Doc Fault → LimitsView → List ℕ → SourceView → SourceView → Type 0
Reads (Ok doc) limits bytes old new = ReadWhole limits bytes old new × (doc ≡ doc_of limits.rules bytes)
Reads (Err fault) limits bytes old new = Refuses fault limits bytes old new

-- what is wrong with the bytes as a text however they continue
abbrev pub settled_of_text : LimitsView → List ℕ → Option Fault
settled_of_text limits bytes = option_map told (settled_fault limits.bytes bytes)

-- what is wrong with the bytes as a text if they end here
abbrev pub fault_of_text : LimitsView → List ℕ → Option Fault
fault_of_text limits bytes = option_map told (text_fault limits.bytes bytes)

-- what reading these bytes as a text returns: the text, or why there is none (2.3 Insecure characters)
abbrev pub ReadsText : Result (String Global) Fault → LimitsView → List ℕ → SourceView → SourceView → Type 0
ReadsText (Ok text) limits bytes old new = IsWhole (fault_of_text limits bytes) old new × (string_bytes text ≡ text_of bytes)
ReadsText (Err fault) limits bytes old new = RefusesBy (settled_of_text limits bytes) (fault_of_text limits bytes) fault old new
