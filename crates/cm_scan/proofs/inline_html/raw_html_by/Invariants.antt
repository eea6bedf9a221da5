use Rattle.cm_scan.proofs.inline_html.raw_html_by.Given as goal

abbrev pub ghosts-after_raw_html : goal.ghosts-after_raw_html
ghosts-after_raw_html a = record { name = a.blank.name; parts = a.blank.parts }
