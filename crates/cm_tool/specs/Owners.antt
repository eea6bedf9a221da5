-- The owners of a document's lines, and the leaves of its tree.
use Rattle.std.specs.Prelude.{◌≡◌, ℕ, List, length, Some}
use Rattle.cm_text.specs.Rules.{Rules}
use Rattle.cm_text.specs.Lines.{text_of, lines_of}
use Rattle.cm_scan.specs.laws.PartLaws.{leaves_named, leaves_in}
use Rattle.cm_tool.specs.Document.{doc_of}

-- Each line of a text has one owner in its document.
abbrev pub OneOwnerALine : Type 0
OneOwnerALine = (rules : Rules) (bytes : List ℕ) → length (doc_of rules bytes).owners ≡ length (lines_of (text_of bytes))

-- The leaves of a document's tree are those that its lines name: each leaf has one nonempty run of lines, and the runs
-- are in order.
abbrev pub RunsInOrder : Type 0
RunsInOrder = (rules : Rules) (bytes : List ℕ) → leaves_named (doc_of rules bytes).owners ≡ Some (leaves_in (doc_of rules bytes).blocks)
