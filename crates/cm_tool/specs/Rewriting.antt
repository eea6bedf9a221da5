-- What rewriting a text returns, and what has been written then.
use Rattle.std.specs.Prelude.{◌≡◌, ℕ, ◌≤◌, List, length, Some, None, Result, Ok, Err, ⊤, String, string_bytes}
use Rattle.std.specs.declared.alloc.Global.{Global}
use Rattle.cm_text.specs.DeviceViews.{SinkView, SourceView}
use Rattle.cm_text.specs.Rules.{Rules}
use Rattle.cm_text.specs.Limits.{LimitsView}
use Rattle.cm_text.specs.Writing.{IsUnwritten, Wrote, WroteFront}
use Rattle.cm_tree.specs.declared.tree.Block.{Block}
use Rattle.cm_source.specs.Definitions.{without_definitions}
use Rattle.cm_source.specs.Refusals.{refusal_of, IsSpellable}
use Rattle.cm_source.specs.Spelling.{spelling_of}
use Rattle.cm_tool.specs.declared.fault.Fault.{Fault}
use Rattle.cm_tool.specs.declared.fault.Fault.TheVariants.{Unspellable, WriteFailed}
use Rattle.cm_scan.specs.Documents.{tree_of}
use Rattle.cm_tool.specs.Faults.{fault_of}
use Rattle.cm_tool.specs.Parsing.{TellsFault}
use Rattle.cm_tool.specs.Reading.{ReadWhole}
use Rattle.cm_tool.specs.Writing.{Writes}

-- the tree of these bytes without its link reference definitions
abbrev pub kept_tree : Rules → List ℕ → List Block
kept_tree rules bytes = without_definitions (tree_of rules bytes)

-- the spelling of that tree
abbrev pub rewritten : Rules → List ℕ → List ℕ
rewritten rules bytes = spelling_of (kept_tree rules bytes)

-- The tree can be spelled, its spelling reads back as that tree, and rewriting the spelling gives the same bytes. The spelling has no
-- fault, unless it is longer than the limit.
abbrev pub IsLasting : LimitsView → List ℕ → Type 0
IsLasting limits bytes =
    IsSpellable limits.rules (kept_tree limits.rules bytes)
    × (tree_of limits.rules (rewritten limits.rules bytes) ≡ kept_tree limits.rules bytes)
    × (rewritten limits.rules (rewritten limits.rules bytes) ≡ rewritten limits.rules bytes)
    × (length (rewritten limits.rules bytes) ≤ limits.bytes → fault_of limits (rewritten limits.rules bytes) ≡ None)

-- that holds if something has been written
abbrev pub LastingIfWritten : Result ℕ Fault → LimitsView → List ℕ → Type 0
LastingIfWritten (Ok n) limits bytes = IsLasting limits bytes
LastingIfWritten (Err (WriteFailed written)) limits bytes = IsLasting limits bytes
LastingIfWritten (Err fault) limits bytes = ⊤

-- The spelling of the text's tree without its definitions was written, or a prefix of it up to a failed write; or the text was refused, or
-- its tree. Nothing is written before the spelling is complete.
abbrev pub Rewrites : Result ℕ Fault → LimitsView → List ℕ → SourceView → SourceView → SinkView → SinkView → Type 0
Rewrites (Err (Unspellable why)) limits bytes from left old new =
    ReadWhole limits bytes from left × (refusal_of limits.rules (kept_tree limits.rules bytes) ≡ Some why) × IsUnwritten old new
Rewrites answer limits bytes from left old new =
    Writes (λ old new text. IsUnwritten old new) rewritten answer limits bytes from left old new × LastingIfWritten answer limits bytes

-- What was written reads back as the tree of the text without its definitions; or it is a prefix, up to a failed write, of a source that
-- does; or nothing was written.
abbrev pub WritesBack : Result ℕ Fault → LimitsView → List ℕ → SourceView → SourceView → SinkView → SinkView → Type 0
WritesBack (Ok n) limits bytes from left old new =
    ReadWhole limits bytes from left × (source : List ℕ) × (tree_of limits.rules source ≡ kept_tree limits.rules bytes) × Wrote old new source 0 × (n ≡ length source)
WritesBack (Err (WriteFailed written)) limits bytes from left old new =
    ReadWhole limits bytes from left × (source : List ℕ) × (tree_of limits.rules source ≡ kept_tree limits.rules bytes) × WroteFront old new source written
WritesBack (Err fault) limits bytes from left old new = IsUnwritten old new

-- At the end of the input: the spelling of its tree without definitions, or the input's fault, or why the tree can't be spelled.
abbrev pub MakesPlainSource : Result (String Global) Fault → LimitsView → List ℕ → Type 0
MakesPlainSource (Ok text) limits bytes =
    (fault_of limits bytes ≡ None) × IsLasting limits bytes × (string_bytes text ≡ rewritten limits.rules bytes)
MakesPlainSource (Err (Unspellable why)) limits bytes =
    (fault_of limits bytes ≡ None) × (refusal_of limits.rules (kept_tree limits.rules bytes) ≡ Some why)
MakesPlainSource (Err fault) limits bytes = TellsFault fault (fault_of limits bytes)
