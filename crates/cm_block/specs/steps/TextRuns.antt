-- Lines of text that continue a run, one after another.
use Rattle.std.specs.Prelude.{ℕ, List, [], ◌∷◌, ◌++◌}
use Rattle.std.specs.List.{fold}
use Rattle.cm_text.specs.Lines.{LineView}
use Rattle.cm_scan.specs.blocks.Blocks.{add_text}

-- the source of a run after further lines
abbrev pub add_lines : List ℕ → List LineView → List ℕ
add_lines source lines = fold add_text source lines

-- a text with a new line, where it isn't empty
abbrev pub with_line : List ℕ → List ℕ
with_line [] = []
with_line (b ∷ bs) = (b ∷ bs) ++ 10 ∷ []
