-- What is made of a text once its bytes are all there.
use Rattle.std.specs.Prelude.{◌≡◌, ℕ, List, Option, None, Result, Ok, Err, ⊤}
use Rattle.std.specs.Option.{option_map}
use Rattle.std.specs.Io.KnownBytes.{IsAtEnd}
use Rattle.cm_text.specs.DeviceViews.{SourceView}
use Rattle.cm_text.specs.Limits.{LimitsView}
use Rattle.cm_text.specs.Lines.{plain_lines_of, text_of}
use Rattle.cm_block.specs.declared.parser.Outline.{Outline}
use Rattle.cm_block.specs.Parser.{OutlineOf}
use Rattle.cm_tool.specs.declared.fault.Fault.{Fault}
use Rattle.cm_tool.specs.declared.fault.Fault.TheVariants.{NotUtf8, TooLong, BlocksTooDeep, InlinesTooDeep}
use Rattle.cm_tool.specs.Faults.{fault_of, settled_fault_of}
use Rattle.cm_tool.specs.Reading.{RefusesBy, Refuses}
use Rattle.cm_tool.specs.FaultOrder.{leaf_deep}

-- the outline of the bytes, which have no fault but that of a leaf too deep
pub record IsOutline (limits : LimitsView) (bytes : List ℕ) (outline : Outline) : Type 0 where
  pub same : OutlineOf outline limits.rules (plain_lines_of (text_of bytes))
  pub sound : settled_fault_of limits bytes ≡ None
  pub left : fault_of limits bytes ≡ option_map InlinesTooDeep (leaf_deep limits bytes)

-- the fault is in the text
abbrev pub IsInText : Fault → Type 0
IsInText (NotUtf8 at) = ⊤
IsInText (TooLong at) = ⊤
IsInText (BlocksTooDeep line) = ⊤
IsInText (InlinesTooDeep leaf) = ⊤
IsInText _ = ⊥

-- All the bytes of a source have been taken in; or they weren't, since what was read settles a fault, or a read failed.
abbrev pub TakesIn : {A : Type 0} → (Stands : List ℕ → Type 0) → (settled : List ℕ → Option Fault) → Result A Fault → List ℕ → SourceView → SourceView → Type 0
TakesIn Stands settled (Ok _) bytes old new = (new.failed ≡ old.failed) × IsAtEnd new.remaining × Stands bytes × (settled bytes ≡ None)
TakesIn Stands settled (Err fault) bytes old new = (whole : Option Fault) → RefusesBy (settled bytes) whole fault old new

-- the outline of the bytes of a source, or why there is none
abbrev pub ReadsOutline : Result Outline Fault → LimitsView → List ℕ → SourceView → SourceView → Type 0
ReadsOutline (Ok outline) limits bytes old new = (new.failed ≡ old.failed) × IsAtEnd new.remaining × IsOutline limits bytes outline
ReadsOutline (Err fault) limits bytes old new = Refuses fault limits bytes old new
