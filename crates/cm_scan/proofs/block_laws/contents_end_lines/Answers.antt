use Rattle.cm_scan.proofs.lemmas.blocks.ContentEnds.{content_ends_text, quoted_ends_line, staying_in_quote_ends_line, listed_ends_line, staying_in_item_ends_line}
use Rattle.cm_scan.proofs.block_laws.contents_end_lines.Goals as goal

pub returns-clause-text : goal.returns-clause-text
returns-clause-text c = content_ends_text

pub returns-clause-quote : goal.returns-clause-quote
returns-clause-quote c = quoted_ends_line

pub returns-clause-in_quote : goal.returns-clause-in_quote
returns-clause-in_quote c = staying_in_quote_ends_line

pub returns-clause-item : goal.returns-clause-item
returns-clause-item c = listed_ends_line

pub returns-clause-in_item : goal.returns-clause-in_item
returns-clause-in_item c = staying_in_item_ends_line
