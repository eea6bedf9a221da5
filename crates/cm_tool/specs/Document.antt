-- The document of a text: its tree, and the owner of each of its lines.
use Rattle.std.specs.Prelude.{ℕ, List}
use Rattle.cm_text.specs.Rules.{Rules}
use Rattle.cm_text.specs.Lines.{text_of, plain_lines_of}
use Rattle.cm_tree.specs.declared.tree.Owner.{Owner}
use Rattle.cm_tree.specs.declared.tree.Doc.{Doc}
use Rattle.cm_scan.specs.blocks.Blocks.{owners_of}
use Rattle.cm_scan.specs.Documents.{tree_of}

-- the owner of each line of the text of these bytes
abbrev pub owners_of_bytes : Rules → List ℕ → List Owner
owners_of_bytes rules bytes = owners_of rules (plain_lines_of (text_of bytes))

-- the document of these bytes: the tree of their text, and the owner of each of its lines
abbrev pub doc_of : Rules → List ℕ → Doc
doc_of rules bytes = record { blocks = tree_of rules bytes; owners = owners_of_bytes rules bytes }
