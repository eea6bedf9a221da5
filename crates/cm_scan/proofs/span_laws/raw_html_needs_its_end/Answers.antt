use Rattle.cm_scan.proofs.lemmas.spans.RawHtmlNeedsItsEnd.{comment-needs, instruction-needs, section-needs, any-needs}
use Rattle.cm_scan.proofs.span_laws.raw_html_needs_its_end.Goals as goal

pub returns-clause-comment : goal.returns-clause-comment
returns-clause-comment c = comment-needs

pub returns-clause-instruction : goal.returns-clause-instruction
returns-clause-instruction c = instruction-needs

pub returns-clause-character_data : goal.returns-clause-character_data
returns-clause-character_data c = section-needs

pub returns-clause-any : goal.returns-clause-any
returns-clause-any c = any-needs
