-- How the proof of cm_html goes. A page's insertions are at increasing places of its text, each at the start
-- of a character (`AreInOrder` in specs/steps/Pages.antt). That holds while text is added (PageLemmas). While
-- a page is written, a prefix of it has been written and the rest is left (`Left` in WritingLemmas). Each text
-- that is stored in a form is what the form makes of the text under which it is found (FormedLemmas).
pub mod Pushed
pub mod ListingLemmas
pub mod EscapeLemmas
pub mod Words
pub mod ItemLemmas
pub mod Destinations
pub mod MarkupSteps
pub mod MarkupTexts
pub mod WrittenSchemes
pub mod MarkupClasses
pub mod FollowedByProfile
pub mod MarkupInlines
pub mod MarkupBlocks
pub mod PageLemmas
pub mod FormedLemmas
pub mod WritingLemmas
