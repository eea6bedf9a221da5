-- How the proof of cm_tool goes. `HasTakenIn` says that a parser's line buffer stands for the bytes so far,
-- and that its `BlockParser` has been given the lines that have ended. The loop that asks a source for pieces
-- says the same of whatever accepts them (`TakesBytes`), with the source's own count of bytes and failures.
-- So one call comes to the outline of a source's bytes, from which `read`, `convert`, `list`, `write_json`
-- and `rewrite` make their results.
--
-- - While HTML is made, the HTML so far followed by that of the blocks that are left is that of the whole,
--   and so it is with the numbers of their leaves (LeafWalkLemmas). The blocks that are left are those of the
--   present chunk and of the chunks after it (`all_left` in specs/steps/LeafWalks.antt); `Unread::next_block`
--   takes the first, so one loop goes over a whole document. So it is with a listing. What a `JsonWriter`
--   will have written with the blocks that are left stays the same (`whole_with` in cm_json).
-- - While a text is rewritten, a speller stands for the blocks so far without their definitions. Together
--   with those that are left they are all that is to be spelled (specs/steps/PlainSources.antt,
--   PlainSourceLemmas).
-- - `read_text` asks a `LineBuffer` only for the faults of the bytes, and keeps the bytes.
-- - The lines of a file of examples are those of `lines_of`, taken one after another without a copy. Its
--   examples are read part by part (specs/steps/ExampleSteps.antt), which comes to the definition's one pass
--   over the lines.
pub mod DepthLemmas
pub mod EndedLemmas
pub mod ExampleLawLemmas
pub mod ExampleLemmas
pub mod JsonLemmas
pub mod LastingLemmas
pub mod LeafLemmas
pub mod LineLemmas
pub mod MarkupLemmas
pub mod OrderLemmas
pub mod OwnerLemmas
pub mod ConversionLemmas
pub mod ParserLemmas
pub mod SliceLemmas
pub mod ReadLemmas
pub mod ReportingLemmas
pub mod RewritingLemmas
pub mod SettledLemmas
pub mod ShownLemmas
pub mod PlainSourceLemmas
pub mod TellingLemmas
pub mod TextLemmas
pub mod WithinLemmas
pub mod PassedLemmas
pub mod PlaceLemmas
pub mod RawWalkLemmas
pub mod LeafWalkLemmas
