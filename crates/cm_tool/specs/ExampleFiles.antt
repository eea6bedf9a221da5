-- Example files, in the form of the CommonMark specification: the examples of a text, and their results.
use Rattle.std.specs.Prelude.{ℕ, ◌+◌, ◌==◌, ◌^◌, Bool, true, false, if◌then◌else◌, List, [], ◌∷◌, ◌++◌, Option, Some, None, Result, Ok, Err, codes, length, map, ⊤, ◌≡◌}
use Rattle.std.specs.List.{count_by}
use Rattle.std.specs.Option.{option_or}
use Rattle.std.specs.Str.{bytes_eq, chars, encode_utf8_all}
use Rattle.std.specs.String.{string_bytes}
use Rattle.cm_text.specs.Limits.{LimitsView}
use Rattle.cm_text.specs.Lines.{lines_of}
use Rattle.cm_text.specs.Rules.{Rules}
use Rattle.cm_tool.specs.declared.fault.Fault.{Fault}
use Rattle.cm_tool.specs.declared.fault.Fault.TheVariants.{BadExampleFile, ExampleDiffers, NoMemory, ReadFailed, Unspellable, WriteFailed}
use Rattle.cm_tool.specs.declared.example_files.comparing.Difference.{Difference}
use Rattle.cm_tool.specs.declared.example_files.comparing.Report.{Report}
use Rattle.cm_tool.specs.Faults.{fault_of}
use Rattle.cm_tool.specs.Writing.{converted}

-- the source of an example, and the HTML that is expected
pub record Example : Type 0 where
  pub source : List ℕ
  pub html : List ℕ

-- ---- the lines of a file

-- the line that ends an example: 32 backticks
abbrev pub closing_line : List ℕ
closing_line = codes "````````````````````````````````"

-- the line that starts an example: 32 backticks, a space and `example`
abbrev pub opening_line : List ℕ
opening_line = closing_line ++ codes " example"

-- the line between the source and the HTML: `.`
abbrev pub middle_line : List ℕ
middle_line = codes "."

-- a tab in place of U+2192
abbrev pub tab_for_arrow : ℕ → ℕ
tab_for_arrow c = if c == 0x2192 then 9 else c

-- a line of an example with its line feed, and with a tab in place of each U+2192
abbrev pub example_line : List ℕ → List ℕ
example_line line = encode_utf8_all (map tab_for_arrow (chars line)) ++ 10 ∷ []

-- where the next line is: outside of examples, in a source, or in HTML, with the number of the example's opening line and what
-- there is of it so far
pub data Place : Type 0 where
  Outside : Place
  InSource : (opened : ℕ) (source : List ℕ) → Place
  InHtml : (opened : ℕ) (source html : List ℕ) → Place

-- an example before those that follow it
abbrev pub put_example : Example → Result (List Example) ℕ → Result (List Example) ℕ
put_example example (Ok examples) = Ok (example ∷ examples)
put_example example (Err line) = Err line

-- The examples of lines, the first of which has this number and is at this place; or the number of the first opening line whose
-- example isn't closed, or has no middle line before it is.
abbrev pub examples_from : Place → ℕ → List (List ℕ) → Result (List Example) ℕ
examples_from Outside number [] = Ok []
examples_from (InSource opened source) number [] = Err opened
examples_from (InHtml opened source html) number [] = Err opened
examples_from Outside number (line ∷ lines) = elim (bytes_eq line opening_line) [
  | true ↦ examples_from (InSource number []) (number + 1) lines
  | false ↦ examples_from Outside (number + 1) lines
]
examples_from (InSource opened source) number (line ∷ lines) = elim (bytes_eq line middle_line) [
  | true ↦ examples_from (InHtml opened source []) (number + 1) lines
  | false ↦ elim (bytes_eq line closing_line) [
    | true ↦ Err opened
    | false ↦ examples_from (InSource opened (source ++ example_line line)) (number + 1) lines
  ]
]
examples_from (InHtml opened source html) number (line ∷ lines) = elim (bytes_eq line closing_line) [
  | true ↦ put_example (record { source = source; html = html }) (examples_from Outside (number + 1) lines)
  | false ↦ examples_from (InHtml opened source (html ++ example_line line)) (number + 1) lines
]

-- the examples of a text, by one pass over its lines
abbrev pub examples_of : List ℕ → Result (List Example) ℕ
examples_of text = examples_from Outside 1 (lines_of text)

-- ---- what comes of examples

-- the standard limits, with these rules
abbrev pub standard_limits : Rules → LimitsView
standard_limits rules = record { bytes = 2 ^ 28; blocks = 100; inlines = 100; rules = rules }

-- the fault of the first source that has one
abbrev pub first_fault : Rules → List Example → Option Fault
first_fault rules [] = None
first_fault rules (example ∷ examples) = option_or (fault_of (standard_limits rules) example.source) (first_fault rules examples)

-- the HTML of the source is the expected one
abbrev pub agrees : Rules → Example → Bool
agrees rules example = bytes_eq (converted rules example.source) example.html

-- an example whose HTML differs: its number, and both
pub record DifferenceView : Type 0 where
  pub number : ℕ
  pub expected : List ℕ
  pub got : List ℕ

-- the example that a value of the program represents
abbrev pub difference_of : Difference → DifferenceView
difference_of d = record { number = d.number; expected = string_bytes d.expected; got = string_bytes d.got }

-- the examples that differ, the first of which has this number
abbrev pub differences_from : Rules → ℕ → List Example → List DifferenceView
differences_from rules number [] = []
differences_from rules number (example ∷ examples) =
    (if agrees rules example then [] else record { number = number; expected = example.html; got = converted rules example.source } ∷ [])
    ++ differences_from rules (number + 1) examples

-- a report: how many examples there are, how many agree, and each that differs
pub record ReportView : Type 0 where
  pub total : ℕ
  pub agree : ℕ
  pub differ : List DifferenceView

-- the report that a value of the program represents
abbrev pub report_view : Report → ReportView
report_view report = record { total = report.total; agree = report.agree; differ = map difference_of report.differ.items }

-- the report of some examples
abbrev pub report_of : Rules → List Example → ReportView
report_of rules examples =
    record { total = length examples; agree = count_by (agrees rules) examples; differ = differences_from rules 1 examples }

-- the report, unless a source has a fault
abbrev pub sound_report : Option Fault → Rules → List Example → Result ReportView Fault
sound_report (Some fault) rules examples = Err fault
sound_report None rules examples = Ok (report_of rules examples)

-- An example that isn't closed takes precedence over the faults of sources.
abbrev pub reported : Rules → Result (List Example) ℕ → Result ReportView Fault
reported rules (Err line) = Err (BadExampleFile line)
reported rules (Ok examples) = sound_report (first_fault rules examples) rules examples

-- the report of a text, or why there is none: an example that isn't closed, or else the fault of the first source that has one
-- under the standard limits
abbrev pub report_on : Rules → List ℕ → Result ReportView Fault
report_on rules text = reported rules (examples_of text)

-- what examining a text returns; memory may be refused
abbrev pub Examines : Result Report Fault → Rules → List ℕ → Type 0
Examines (Ok report) rules text = Ok (report_view report) ≡ report_on rules text
Examines (Err NoMemory) rules text = ⊤
Examines (Err ReadFailed) rules text = ⊥
Examines (Err (WriteFailed written)) rules text = ⊥
Examines (Err (Unspellable why)) rules text = ⊥
Examines (Err (ExampleDiffers number)) rules text = ⊥
Examines (Err fault) rules text = Err fault ≡ report_on rules text

-- how many examples there are, if all agree, or the first that differs
abbrev pub verdict_of : ReportView → Result ℕ Fault
verdict_of report = elim report.differ [ [] ↦ Ok report.total | d ∷ ds ↦ Err (ExampleDiffers d.number) ]
