use Rattle.cm_text.proofs.lemmas.LinesLemmas.{lines_are_lines, lines_with_line_feeds}
use Rattle.cm_text.proofs.laws.lines_with_line_feeds.Goals as goal

pub returns-clause-line : goal.returns-clause-line
returns-clause-line c = lines_are_lines

pub returns-clause-whole : goal.returns-clause-whole
returns-clause-whole c = lines_with_line_feeds
