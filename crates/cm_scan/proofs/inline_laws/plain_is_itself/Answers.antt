use Rattle.cm_scan.proofs.lemmas.inlines.ReadingSteps.{unmarked_is_plain, plain_is_itself, plain_front_is_text, spaces_and_line_feed}
use Rattle.cm_scan.proofs.inline_laws.plain_is_itself.Goals as goal

pub returns-clause-unmarked : goal.returns-clause-unmarked
returns-clause-unmarked c = unmarked_is_plain

pub returns-clause-whole : goal.returns-clause-whole
returns-clause-whole c = plain_is_itself

pub returns-clause-front : goal.returns-clause-front
returns-clause-front c = plain_front_is_text

pub returns-clause-line_break : goal.returns-clause-line_break
returns-clause-line_break c = spaces_and_line_feed
