-- Worked examples: texts as they are written to a terminal.
use Rattle.std.specs.Prelude.{◌≡◌, [], ◌∷◌, codes}
use Rattle.cm_tool.specs.Shown.{shown}

pub record ShownExamples : Type 0 where
  pub name : shown (codes "a b.md") ≡ codes "a b.md"
  pub letter_beyond_ascii : shown (0xC3 ∷ 0xA4 ∷ []) ≡ 0xC3 ∷ 0xA4 ∷ []
  pub backslash : shown (codes "\\u{a}") ≡ codes "\\u{a}"
  pub escape : shown (0x1B ∷ codes "[2J") ≡ codes "\\u{1b}[2J"
  pub line_feed : shown (codes "a\nb") ≡ codes "a\\u{a}b"
  pub delete : shown (0x7F ∷ []) ≡ codes "\\u{7f}"
  pub next_line : shown (0xC2 ∷ 0x85 ∷ []) ≡ codes "\\u{85}"
  pub line_separator : shown (0xE2 ∷ 0x80 ∷ 0xA8 ∷ []) ≡ codes "\\u{2028}"
  pub override_of_direction : shown (0xE2 ∷ 0x80 ∷ 0xAE ∷ codes "a") ≡ codes "\\u{202e}a"
  pub tag : shown (0xF3 ∷ 0xA0 ∷ 0x80 ∷ 0x81 ∷ []) ≡ codes "\\u{e0001}"
