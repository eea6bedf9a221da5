use Rattle.cm_scan.proofs.html_blocks.is_block_tag_start.Given as goal

abbrev pub ghosts-tag_name : goal.ghosts-tag_name
ghosts-tag_name a = record { name = a.blank.name; parts = a.blank.parts }
