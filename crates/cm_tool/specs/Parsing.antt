-- What a parser has been given: the bytes so far, whose lines have gone to the blocks once they ended.
use Rattle.std.specs.Prelude.{◌≡◌, ℕ, false, List, length, Option, Some, None, Result, Ok, Err, ⊤}
use Rattle.cm_text.specs.Limits.{LimitsView}
use Rattle.cm_text.specs.Feed.{Feed, Goes as FeedGoes, cut_bytes}
use Rattle.cm_block.specs.declared.parser.BlockParser.{BlockParser}
use Rattle.cm_block.specs.Parser.{HasTaken}
use Rattle.cm_tree.specs.declared.tree.Doc.{Doc}
use Rattle.cm_tool.specs.declared.fault.Fault.{Fault}
use Rattle.cm_tool.specs.declared.fault.Fault.TheVariants.{NotUtf8, TooLong, BlocksTooDeep, InlinesTooDeep, NoMemory}
use Rattle.cm_tool.specs.Document.{doc_of}
use Rattle.cm_tool.specs.Faults.{fault_of}

-- a parser, without where it lies in memory
pub record ParserView : Type 0 where
  pub feed : Feed
  pub blocks : BlockParser
  pub fault : Option Fault

-- the feed holds what the bytes leave in it, and the blocks have been given the lines that have ended
pub record Goes (limits : LimitsView) (feed : Feed) (blocks : BlockParser) (bytes : List ℕ) : Type 0 where
  pub limit : feed.limit ≡ limits.bytes
  pub same_limits : blocks.limits ≡ limits
  pub going : feed.ended ≡ false
  pub sound : feed.fault ≡ None
  pub feeds : FeedGoes feed bytes (length (cut_bytes limits.bytes bytes).ended)
  pub handed : HasTaken blocks (cut_bytes limits.bytes bytes).ended

-- A parser with these limits has been given these bytes, which settle no fault, and can be given more.
pub record HasTakenIn (limits : LimitsView) (parser : ParserView) (bytes : List ℕ) : Type 0 where
  pub no_fault : parser.fault ≡ None
  pub goes : Goes limits parser.feed parser.blocks bytes

-- a call returns this fault if the input has the other one; memory may be refused
abbrev pub TellsFault : Fault → Option Fault → Type 0
TellsFault (NotUtf8 at) told = told ≡ Some (NotUtf8 at)
TellsFault (TooLong at) told = told ≡ Some (TooLong at)
TellsFault (BlocksTooDeep line) told = told ≡ Some (BlocksTooDeep line)
TellsFault (InlinesTooDeep leaf) told = told ≡ Some (InlinesTooDeep leaf)
TellsFault NoMemory told = ⊤
TellsFault _ told = ⊥

-- what a call returns if the input has this fault, or none
abbrev pub Answers : Result (Unit {0}) Fault → Option Fault → Type 0
Answers (Ok _) told = told ≡ None
Answers (Err fault) told = TellsFault fault told

-- at the end of the input: its document, or its fault
abbrev pub Finishes : Result Doc Fault → LimitsView → List ℕ → Type 0
Finishes (Ok doc) limits bytes = (fault_of limits bytes ≡ None) × (doc ≡ doc_of limits.rules bytes)
Finishes (Err fault) limits bytes = TellsFault fault (fault_of limits bytes)

-- at the end of the input: what is made of bytes without a fault, or their fault
abbrev pub Makes : {A : Type 0} → (Made : A → Type 0) → Result A Fault → LimitsView → List ℕ → Type 0
Makes Made (Ok made) limits bytes = (fault_of limits bytes ≡ None) × Made made
Makes Made (Err fault) limits bytes = TellsFault fault (fault_of limits bytes)
