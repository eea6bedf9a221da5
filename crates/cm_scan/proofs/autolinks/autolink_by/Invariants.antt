use Rattle.cm_scan.proofs.autolinks.autolink_by.Given as goal

abbrev pub ghosts-autolink : goal.ghosts-autolink
ghosts-autolink a = record { name = a.blank.name; parts = a.blank.parts }
