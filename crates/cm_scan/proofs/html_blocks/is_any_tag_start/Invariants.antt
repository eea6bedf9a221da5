use Rattle.cm_scan.proofs.html_blocks.is_any_tag_start.Given as goal

abbrev pub ghosts-closing_tag : goal.ghosts-closing_tag
ghosts-closing_tag a = record { name = a.blank.name; parts = a.blank.parts }

abbrev pub ghosts-open_tag : goal.ghosts-open_tag
ghosts-open_tag a = record { name = a.blank.name; parts = a.blank.parts }
