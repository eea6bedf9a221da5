-- How the proof goes that what is spelled reads back. It has four parts, which meet in DocumentsBack. The
-- first two are the law of blocks (BlocksBack), the other two that of contents (ContentsBack). Each part has
-- a folder; `refusals` and `spelling` have what the code itself is proved by. `shared` has what all parts
-- use: induction over nodes and those inside (InlineInduction, BlockInduction), how a byte of a text is
-- spelled (ByteSpellings, BytesOfSpellings), and what holds of an inline that isn't refused (AcceptedLemmas).
-- How each kind of node is judged and spelled are folds at a kind (InlineFolds, BlockFolds of cm_tree). A `Speller` has the
-- blocks one after another: each is judged after what is seen of the last one, and its lines follow theirs
-- (specs/Speller.antt, SpellerLemmas).
--
-- - Blocks. The lines of a tree, seen as a sequence (specs/steps/Sequences.antt), are read level by level,
--   with any blocks after each, as just its parts (SequenceParts, SequenceBack). ContinuationsBack and MarkersBack
--   have what stays in quotes and items, LeavesBack, FencesBack and HtmlBack the leaves. That a tree isn't
--   refused gives what this asks of the sequence (SpellableBlocks).
-- - Sources. No definition is at the start of a spelled content (ContentLabels), each of its lines starts
--   with what is nothing but text (LineFronts, ContentFronts), and it ends with neither a space nor a run of
--   `#` (ContentEnds).
-- - Inlines. A content that fits (`FitsAll` in specs/steps/ContentBack.antt: what each inline needs of the
--   bytes next to it) is read back, whatever is defined. Reading what an inline is spelled as, with anything
--   after it, leaves its items (BytesRead, CodesRead, TargetsRead, TagsRead, ContentRead), which are paired
--   to the inline again (InlineItems).
-- - Fitting. What isn't refused fits. The rules on the edges of emphasis are what a delimiter run sees of the
--   characters next to it, if these are UTF-8 (Neighbours, InlineEdges, FittingLemmas). The strings of a tree
--   are UTF-8 if its spelling is (TreesAreUtf8), as every string of a program is.
pub mod BlocksBack
pub mod ContentsBack
pub mod DocumentsBack
pub mod shared
pub mod blocks
pub mod sources
pub mod inlines
pub mod fitting
pub mod refusals
pub mod spelling
