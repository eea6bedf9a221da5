-- Worked examples: files of examples, and their reports.
use Rattle.std.specs.Prelude.{◌≡◌, ℕ, List, [], ◌∷◌, ◌++◌, codes, flat_map, Ok, Err}
use Rattle.cm_text.specs.Lines.{with_line_feed}
use Rattle.cm_text.specs.Rules.{profile, older_rules}
use Rattle.cm_tool.specs.declared.fault.Fault.TheVariants.{BadExampleFile, ExampleDiffers}
use Rattle.cm_tool.specs.ExampleFiles.{closing_line, examples_of, middle_line, opening_line, report_on, verdict_of}
use Rattle.cm_tool.specs.ExampleLaws.{example_lines}

-- a file of these lines
abbrev pub file : List (List ℕ) → List ℕ
file lines = flat_map with_line_feed lines

-- the arrow for a tab
abbrev pub arrow : List ℕ
arrow = 0xE2 ∷ 0x86 ∷ 0x92 ∷ []

pub record ReportExamples : Type 0 where
  pub no_examples : report_on profile (file (codes "a" ∷ middle_line ∷ closing_line ∷ [])) ≡ Ok (record { total = 0; agree = 0; differ = [] })
  pub agrees : report_on profile (file (codes "outside" ∷ example_lines (codes "a" ∷ []) (codes "<p>a</p>" ∷ []))) ≡ Ok (record { total = 1; agree = 1; differ = [] })
  pub empty_source : report_on profile (file (example_lines [] [])) ≡ Ok (record { total = 1; agree = 1; differ = [] })
  pub differs : report_on profile (file (example_lines (codes "a" ∷ []) (codes "<p>b</p>" ∷ []) ++ example_lines [] []))
      ≡ Ok (record { total = 2; agree = 1; differ = record { number = 1; expected = codes "<p>b</p>\n"; got = codes "<p>a</p>\n" } ∷ [] })
  pub by_the_older_rules : report_on older_rules (file (example_lines (codes "a" ∷ codes "<source>" ∷ []) (codes "<p>a</p>" ∷ codes "<source>" ∷ [])))
      ≡ Ok (record { total = 1; agree = 1; differ = [] })
  pub arrow_as_a_tab : examples_of (file (example_lines ((arrow ++ codes "a") ∷ []) (arrow ∷ [])))
      ≡ Ok (record { source = codes "\ta\n"; html = codes "\t\n" } ∷ [])
  pub opening_line_in_a_source : examples_of (file (example_lines (opening_line ∷ []) (middle_line ∷ opening_line ∷ [])))
      ≡ Ok (record { source = opening_line ++ codes "\n"; html = codes ".\n" ++ opening_line ++ codes "\n" } ∷ [])
  pub carriage_returns : examples_of (opening_line ++ codes "\r\na\r.\r\nb\n" ++ closing_line) ≡ Ok (record { source = codes "a\n"; html = codes "b\n" } ∷ [])
  pub more_after_the_word : examples_of (file ((opening_line ++ codes " ") ∷ [])) ≡ Ok []
  pub opening_line_alone : report_on profile opening_line ≡ Err (BadExampleFile 1)
  pub closed_before_the_middle : report_on profile (file (codes "a" ∷ opening_line ∷ codes "b" ∷ closing_line ∷ [])) ≡ Err (BadExampleFile 2)
  pub no_closing_line : report_on profile (file (example_lines [] [] ++ opening_line ∷ middle_line ∷ codes "b" ∷ [])) ≡ Err (BadExampleFile 4)
  pub all_agree : verdict_of (record { total = 3; agree = 3; differ = [] }) ≡ Ok 3
  pub first_that_differs : verdict_of (record { total = 3; agree = 2; differ = record { number = 2; expected = []; got = codes "\n" } ∷ [] }) ≡ Err (ExampleDiffers 2)
