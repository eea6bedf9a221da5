-- A content that isn't refused is what its spelling is read as.
use Rattle.std.proofs.Common.{◌≡◌, List, None}
use Rattle.cm_text.specs.Rules.{Rules}
use Rattle.cm_tree.specs.declared.tree.Inline.{Inline}
use Rattle.cm_scan.specs.inlines.Brackets.{Defined}
use Rattle.cm_scan.specs.inlines.Inlines.{inlines_of}
use Rattle.cm_source.specs.InlineRefusals.{paragraph_refusal, heading_refusal, of_paragraph, of_heading}
use Rattle.cm_source.specs.Inlines.{spelled_content}
use Rattle.cm_source.specs.ReadingBack.{ParagraphsReadBack, HeadingsReadBack}
use Rattle.cm_source.specs.steps.Utf8Inlines.{AreTexts}
use Rattle.cm_source.proofs.lemmas.inlines.ContentRead.{fitting_reads_back}
use Rattle.cm_source.proofs.lemmas.fitting.FittingLemmas.{paragraphs_fit, headings_fit}
use Rattle.cm_source.proofs.lemmas.fitting.TextsAreUtf8.{accepted-texts}

-- where its strings are UTF-8

pub paragraph-back : (rules : Rules) (defined : Defined) (content : List Inline) → paragraph_refusal rules content ≡ None → AreTexts content → inlines_of rules defined (spelled_content content) ≡ content
paragraph-back rules defined content e texts = fitting_reads_back rules defined content (paragraphs_fit rules content texts e)

pub heading-back : (rules : Rules) (defined : Defined) (content : List Inline) → heading_refusal rules content ≡ None → AreTexts content → inlines_of rules defined (spelled_content content) ≡ content
heading-back rules defined content e texts = fitting_reads_back rules defined content (headings_fit rules content texts e)

-- which they are where the spelling is

pub paragraphs_read_back : ParagraphsReadBack
paragraphs_read_back rules defined content e utf8 = paragraph-back rules defined content e (accepted-texts rules of_paragraph content e utf8)

pub headings_read_back : HeadingsReadBack
headings_read_back rules defined content e utf8 = heading-back rules defined content e (accepted-texts rules of_heading content e utf8)

pub ruleset contents_read_back = (paragraphs_read_back, headings_read_back)
