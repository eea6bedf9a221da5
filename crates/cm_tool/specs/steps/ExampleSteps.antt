-- How the examples of a file are read part by part.
use Rattle.std.specs.Prelude.{◌≡◌, ℕ, ◌+◌, true, false, List, [], ◌∷◌, ◌++◌, Option, Some, None, Result, Ok, Err, string_bytes, ⊤}
use Rattle.std.specs.Str.{bytes_eq}
use Rattle.cm_text.specs.Lines.{lines_of}
use Rattle.cm_tool.specs.declared.fault.Fault.{Fault}
use Rattle.cm_tool.specs.declared.fault.Fault.TheVariants.{BadExampleFile, NoMemory}
use Rattle.cm_tool.specs.declared.example_files.Example as code
use Rattle.cm_tool.specs.ExampleFiles.{Example, closing_line, example_line, examples_from, InSource, Outside}

abbrev pub example_of : code.Example → Example
example_of example = record { source = string_bytes example.source; html = string_bytes example.html }

-- a source or HTML, the number of the line after the one that ends it, and the lines from there on
pub record Part : Type 0 where
  pub text : List ℕ
  pub number : ℕ
  pub beyond : List (List ℕ)

abbrev pub part_of : (text : List ℕ) (taken : ℕ) (rest : List ℕ) → Part
part_of text taken rest = record { text = text; number = taken + 1; beyond = lines_of rest }

-- The part up to the line that ends it, where there is this of it so far, and the next line has this number. None where the example
-- closes before, or the lines end.
abbrev pub part_from : (end so_far : List ℕ) (number : ℕ) → List (List ℕ) → Option Part
part_from end so_far number [] = None
part_from end so_far number (line ∷ lines) = elim (bytes_eq line end) [
  | true ↦ Some (record { text = so_far; number = number + 1; beyond = lines })
  | false ↦ elim (bytes_eq line closing_line) [
    | true ↦ None
    | false ↦ part_from end (so_far ++ example_line line) (number + 1) lines
  ]
]

-- the examples of what is left of a file, where the given number of its lines have been taken: outside of examples, and where the last line
-- that was taken opened one
abbrev pub examples_left : (taken : ℕ) (rest : List ℕ) → Result (List Example) ℕ
examples_left taken rest = examples_from Outside (taken + 1) (lines_of rest)

abbrev pub examples_opened : (taken : ℕ) (rest : List ℕ) → Result (List Example) ℕ
examples_opened taken rest = examples_from (InSource taken []) (taken + 1) (lines_of rest)

-- examples before those that follow them
abbrev pub put_examples : List Example → Result (List Example) ℕ → Result (List Example) ℕ
put_examples examples (Ok more) = Ok (examples ++ more)
put_examples examples (Err line) = Err line

-- why there are no examples: one isn't closed, or memory was refused
abbrev pub TellsUnclosed : Fault → Result (List Example) ℕ → Type 0
TellsUnclosed (BadExampleFile line) found = found ≡ Err line
TellsUnclosed NoMemory found = ⊤
TellsUnclosed _ found = ⊥
