-- Which examples a file has, by the lines in it.
use Rattle.std.specs.Prelude.{◌≡◌, ◌≢◌, ℕ, ◌+◌, All, List, [], ◌∷◌, ◌++◌, flat_map, length, Result, Ok, Err}
use Rattle.cm_text.specs.Lines.{lines_of}
use Rattle.cm_tool.specs.ExampleFiles.{Example, closing_line, example_line, examples_from, examples_of, middle_line, opening_line, put_example, Outside}

-- none of these lines is this one
abbrev pub NoneIs : List ℕ → List (List ℕ) → Type 0
NoneIs line lines = All (λ other. other ≢ line) lines

-- the lines of an example
abbrev pub example_lines : (source html : List (List ℕ)) → List (List ℕ)
example_lines source html = opening_line ∷ source ++ middle_line ∷ html ++ closing_line ∷ []

-- the example with these lines of source and HTML: each is followed by a line feed, and U+2192 is a tab
abbrev pub example_with : (source html : List (List ℕ)) → Example
example_with source html = record { source = flat_map example_line source; html = flat_map example_line html }

-- what gives the examples of lines, the first of which has this number, or the number of an opening line
abbrev pub Telling : Type 0
Telling = (number : ℕ) (lines : List (List ℕ)) → Result (List Example) ℕ

-- It gives the examples of a file.
pub record TellsExamples (told : Telling) : Type 0 where
  -- lines without an opening line have no examples
  pub no_examples : (number : ℕ) (outside : List (List ℕ)) → NoneIs opening_line outside → told number outside ≡ Ok []
  -- such lines before others are skipped
  pub passed_over : (number : ℕ) (outside lines : List (List ℕ)) → NoneIs opening_line outside
      → told number (outside ++ lines) ≡ told (number + length outside) lines
  -- an opening line, the lines of a source, the line `.`, those of its HTML and a closing line are an example, before those of the
  -- lines after it
  pub example_in_front : (number : ℕ) (source html lines : List (List ℕ)) → NoneIs middle_line source → NoneIs closing_line source → NoneIs closing_line html
      → told number (example_lines source html ++ lines)
      ≡ put_example (example_with source html) (told (number + length (example_lines source html)) lines)
  -- the number of an opening line is given if a closing line comes before the line `.`
  pub closed_early : (number : ℕ) (source lines : List (List ℕ)) → NoneIs middle_line source
      → told number (opening_line ∷ source ++ closing_line ∷ lines) ≡ Err number
  -- the number of an opening line is given if no closing line comes
  pub unclosed : (number : ℕ) (lines : List (List ℕ)) → NoneIs closing_line lines → told number (opening_line ∷ lines) ≡ Err number

-- what `examples_of` gives for any lines
abbrev pub examples_of_lines : Telling
examples_of_lines number lines = examples_from Outside number lines

-- The examples of a text are those of its lines, the first of which has number 1.
abbrev pub ExamplesOfText : Type 0
ExamplesOfText = (text : List ℕ) → examples_of text ≡ examples_of_lines 1 (lines_of text)

-- `examples_of` gives the examples of a file.
abbrev pub ExamplesAreTold : Type 0
ExamplesAreTold = TellsExamples examples_of_lines

-- Nothing else does: these cases determine the result for every list of lines.
abbrev pub ExamplesAreDetermined : Type 0
ExamplesAreDetermined = (told : Telling) → TellsExamples told → (number : ℕ) (lines : List (List ℕ)) → told number lines ≡ examples_of_lines number lines
