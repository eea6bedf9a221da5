-- The rules of a reading, where readers of CommonMark differ. A definition that depends on them takes them as
-- its first argument. Of the block structure they decide only whether a line starts an HTML block, which
-- names start one of the sixth kind, and the info string of a code block.
use Rattle.std.specs.Prelude.{Bool, true, false}

-- Four independent marks.
pub record Rules : Type 0 where
  -- this project's older rules of Unicode punctuation, of comments and of the names that start an HTML block
  pub older : Bool
  -- strikethrough between double tildes, this project's own extension
  pub strike : Bool
  -- without it no line starts an HTML block, no `<` starts raw HTML, and the info of a code block is one line
  pub raw_html : Bool
  -- without it only addresses of the web are followed
  pub any_address : Bool

-- CommonMark 0.31.2 as this project reads it: raw HTML, addresses of any scheme, and neither strikethrough
-- nor the older rules
abbrev pub profile : Rules
profile = record { older = false; strike = false; raw_html = true; any_address = true }

-- the profile with the older rules
abbrev pub older_rules : Rules
older_rules = record { older = true; strike = false; raw_html = true; any_address = true }
