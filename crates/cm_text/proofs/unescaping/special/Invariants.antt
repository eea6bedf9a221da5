use Rattle.cm_text.proofs.unescaping.special.Given as goal

abbrev pub ghosts-reference : goal.ghosts-reference
ghosts-reference a = record { name = a.blank.name; parts = a.blank.parts }
