use Rattle.cm_text.proofs.addresses.is_followed.Given as goal

abbrev pub ghosts-follows : goal.ghosts-follows
ghosts-follows a = record { name = a.blank.name; parts = a.blank.parts }
