-- Worked examples: the lines that faults are on.
use Rattle.std.specs.Prelude.{◌≡◌, [], ◌∷◌, ◌++◌, codes, Some, None}
use Rattle.cm_text.specs.Rules.{profile}
use Rattle.cm_tool.specs.declared.fault.Fault.TheVariants.{NotUtf8, TooLong, BlocksTooDeep, InlinesTooDeep, ReadFailed}
use Rattle.cm_tool.specs.FaultPlaces.{line_of_byte, line_of_fault, place_line}

pub record FaultPlaceExamples : Type 0 where
  pub first_byte : line_of_byte 0 (codes "a") ≡ 1
  pub line_feed : line_of_byte 1 (codes "a\nb") ≡ 1
  pub start_of_a_line : line_of_byte 2 (codes "a\nb") ≡ 2
  pub empty_line : line_of_byte 2 (codes "a\n\nb") ≡ 2
  pub carriage_return : line_of_byte 2 (codes "a\rb") ≡ 2
  pub between_both : line_of_byte 2 (codes "a\r\nb") ≡ 1
  pub after_both : line_of_byte 3 (codes "a\r\nb") ≡ 2
  pub nul : line_of_byte 2 (0 ∷ 10 ∷ 0 ∷ []) ≡ 2
  pub no_utf8 : line_of_fault profile (codes "a\nb\r\nc" ++ 0xFF ∷ []) (NotUtf8 6) ≡ Some 3
  pub too_long : line_of_fault profile (codes "a\r\nb") (TooLong 2) ≡ Some 1
  pub leaf : line_of_fault profile (codes "***\n\n> b\n> ***c***\n") (InlinesTooDeep 2) ≡ Some 3
  pub told_already : line_of_fault profile (codes "> > a\n") (BlocksTooDeep 1) ≡ None
  pub nowhere : line_of_fault profile [] ReadFailed ≡ None
  pub named : place_line (codes "a\nb.md") None ≡ codes "cmk: in a\\u{a}b.md\n"
  pub named_with_the_line : place_line (codes "b.md") (Some 12) ≡ codes "cmk: in b.md, line 12\n"
