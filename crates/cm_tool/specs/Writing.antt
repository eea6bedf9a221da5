-- What calls that read a text and write an output of it return, and what has been written then.
use Rattle.std.specs.Prelude.{◌≡◌, ℕ, List, ◌++◌, codes, length, Result, Ok, Err, ◌⊎◌, ⊤}
use Rattle.cm_text.specs.DeviceViews.{SinkView, SourceView}
use Rattle.cm_text.specs.Rules.{Rules}
use Rattle.cm_text.specs.Limits.{LimitsView}
use Rattle.cm_text.specs.Writing.{IsUnwritten, Wrote, WroteBeginning, WroteFront}
use Rattle.cm_html.specs.Html.{html_of}
use Rattle.cm_html.specs.Listing.{listing_of}
use Rattle.cm_json.specs.Mdast.{json_of, value_of}
use Rattle.cm_json.specs.Writing.{IsJson}
use Rattle.cm_tool.specs.declared.fault.Fault.{Fault}
use Rattle.cm_tool.specs.declared.fault.Fault.TheVariants.{NoMemory, WriteFailed}
use Rattle.cm_tool.specs.Document.{owners_of_bytes}
use Rattle.cm_scan.specs.Documents.{tree_of}
use Rattle.cm_tool.specs.Reading.{ReadWhole, Refuses}

-- the HTML of the text of these bytes
abbrev pub converted : Rules → List ℕ → List ℕ
converted rules bytes = html_of (tree_of rules bytes)

-- the listing of the tree of these bytes' text, and of the owners of its lines
abbrev pub listed : Rules → List ℕ → List ℕ
listed rules bytes = listing_of (tree_of rules bytes) (owners_of_bytes rules bytes)

-- the same tree and owners as JSON
abbrev pub in_json : Rules → List ℕ → List ℕ
in_json rules bytes = json_of (tree_of rules bytes) (owners_of_bytes rules bytes)

-- the JSON, followed by a line feed
abbrev pub json_line : Rules → List ℕ → List ℕ
json_line rules bytes = in_json rules bytes ++ codes "\n"

-- by the grammar of JSON, the JSON of these bytes is one value, which represents their tree and its owners
abbrev pub IsTreeInJson : Rules → List ℕ → Type 0
IsTreeInJson rules bytes = IsJson (in_json rules bytes) (value_of (tree_of rules bytes) (owners_of_bytes rules bytes))

-- What has been written if all of the output isn't: nothing, unless memory ran out after all of the text had been read.
abbrev pub WentOut : Fault → (Lost : SinkView → SinkView → List ℕ → Type 0) → (Read : Type 0) → SinkView → SinkView → List ℕ → Type 0
WentOut NoMemory Lost Read old new output = IsUnwritten old new ⊎ (Read × Lost old new output)
WentOut fault Lost Read old new output = IsUnwritten old new

-- All of the output was written, and its length is returned; or one write failed, and the first `written` bytes were written; or the
-- text was refused. Nothing is written before the text has been read to its end. `Lost` says what may have been written if memory ran
-- out after that.
abbrev pub Writes : (Lost : SinkView → SinkView → List ℕ → Type 0) → (output : Rules → List ℕ → List ℕ) → Result ℕ Fault
    → LimitsView → List ℕ → SourceView → SourceView → SinkView → SinkView → Type 0
Writes Lost output (Ok n) limits bytes from left old new =
    ReadWhole limits bytes from left × Wrote old new (output limits.rules bytes) 0 × (n ≡ length (output limits.rules bytes))
Writes Lost output (Err (WriteFailed written)) limits bytes from left old new =
    ReadWhole limits bytes from left × WroteFront old new (output limits.rules bytes) written
Writes Lost output (Err fault) limits bytes from left old new =
    Refuses fault limits bytes from left × WentOut fault Lost (ReadWhole limits bytes from left) old new (output limits.rules bytes)

-- the same for the HTML; if memory ran out, a prefix of it may have been written
abbrev pub Converts : Result ℕ Fault → LimitsView → List ℕ → SourceView → SourceView → SinkView → SinkView → Type 0
Converts = Writes WroteBeginning converted

-- the same of the listing; if memory ran out, nothing of it has been written
abbrev pub Lists : Result ℕ Fault → LimitsView → List ℕ → SourceView → SourceView → SinkView → SinkView → Type 0
Lists = Writes (λ old new text. IsUnwritten old new) listed

-- what has been written, if anything, represents the tree
abbrev pub JsonIfWritten : Result ℕ Fault → Rules → List ℕ → Type 0
JsonIfWritten (Ok n) rules bytes = IsTreeInJson rules bytes
JsonIfWritten (Err (WriteFailed written)) rules bytes = IsTreeInJson rules bytes
JsonIfWritten (Err fault) rules bytes = ⊤

-- the same of the JSON and a line feed, and what has been written represents the tree
abbrev pub WritesJson : Result ℕ Fault → LimitsView → List ℕ → SourceView → SourceView → SinkView → SinkView → Type 0
WritesJson answer limits bytes from left old new =
    Writes (λ old new text. IsUnwritten old new) json_line answer limits bytes from left old new × JsonIfWritten answer limits.rules bytes
