use Rattle.cm_inline.proofs.reading.InlineReader.read_marks.Given as goal

abbrev pub ghosts-read_leaf : goal.ghosts-read_leaf
ghosts-read_leaf a = record { name = a.blank.name; parts = a.blank.parts }
