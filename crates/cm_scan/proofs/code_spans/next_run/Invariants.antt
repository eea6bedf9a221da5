use Rattle.cm_scan.proofs.code_spans.next_run.Given as goal

abbrev pub ghosts-next_backticks : goal.ghosts-next_backticks
ghosts-next_backticks a = record { name = a.blank.name; parts = a.blank.parts }
