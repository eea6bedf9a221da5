-- How the proof of cm_block goes, from the recursion on lines to the code:
--
-- 1. A machine that keeps the closed parts and one open block comes, line by line, to the parts of
--    the recursion (OnePass).
-- 2. The stack, which keeps tree, text and owners, follows that machine (Stacks).
-- 3. The code has the open containers in a row (specs/Frames.antt, specs/steps/FrameSteps.antt). Frames ties
--    one more line in that row to one more line on the stack; each small function of the parser is proved
--    against its part of that.
-- 4. The blocks of finished chunks precede those of the outermost level (specs/steps/FrontViews.antt). Nothing
--    that is done to a level looks at what precedes it (FrontLemmas), so a chunk may be finished wherever
--    nothing is open.
--
-- A line whose content starts as text goes to the end of an open run through every level (`TextGoesOn`), so
-- lines of text that are lent together have the same effect as one by one (TextStands); where nothing is
-- open, the first opens the run (TextOpens). How often a line is read is a clause of its own (`Tested`): the containers that it stays in and those that it opens are within
-- the limit, and each is one reading. TestLemmas adds these up; ContainerLemmas shows that the tree has no
-- more quotes and items than were opened.
pub mod RowLemmas
pub mod LevelViewLemmas
pub mod BeginCases
pub mod ContainerLemmas
pub mod TestLemmas
pub mod TextGoesOn
pub mod TextRunLemmas
pub mod TextOpens
pub mod TextStands
pub mod OpenEnd
pub mod OnePass
pub mod LevelLaws
pub mod Owners
pub mod Stacks
pub mod Frames
pub mod FrameStartLemmas
pub mod Matching
pub mod OpenedInTurn
pub mod ParserLemmas
pub mod EmptyLines
pub mod Lazy
pub mod Depths
pub mod TextStarts
pub mod StartLemmas
pub mod MarkerPlaces
pub mod PlainItems
pub mod ContinuationLemmas
pub mod RunLemmas
pub mod PutLemmas
pub mod QuoteLemmas
pub mod LineOwnerLemmas
pub mod LeafLemmas
pub mod FeedLemmas
pub mod FenceLemmas
pub mod NextLineLemmas
pub mod OwnerRunLemmas
pub mod FrontLemmas
pub mod InfoLemmas
pub mod ItemContinuations
pub mod TextSizes
pub mod ReadSizes
pub mod PartSizes
pub mod ResolvedSizes
pub mod DocumentSizes
