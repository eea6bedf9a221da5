-- How the proof of cm_inline goes:
--
-- - Reading. Reading on from a place after the items so far gives the items of the whole source, each text
--   in pieces of a byte (`ahead` in specs/steps/Reads.antt, WholeLemmas). Text up to the next atom is one
--   step of that; an atom is another, with a lemma for each byte that starts one (AtomLemmas, ReaderLemmas);
--   a `]` is a third (RightBracketLemmas, ClosedLinkLemmas).
-- - Segments. The code holds no items. Its marks and the text around them are parts (specs/steps/Marks.antt),
--   and its runs and pairs turn parts into events: texts, inlines, starts and ends
--   (specs/steps/pairing/Parts.antt, Events.antt). A segment is an item with the parts that stand for it:
--   wherever these events are, they make the same inlines as the item, write the same HTML and nest as deep
--   (`StandFor` in specs/steps/pairing/Readings.antt, EventLemmas, ReadingLemmas).
-- - Brackets. Open brackets are levels among the segments (`AreOpen` in specs/steps/Brackets.antt,
--   OpenLemmas). A `]` makes one segment of the last level, or leaves its bracket as text (BracketLemmas).
-- - Pairs. They are made in one pass over the runs that wait, which cm_scan proves to be repeated pairing. A
--   pair adds a start at its opener and an end at its closer, and moves nothing (PartLemmas, ClosingLemmas,
--   PassLoopLemmas); what is before it stays as it was (KeptLemmas). For each kind of closer
--   there is a number below which no entry opens for it (BottomLemmas, SearchLemmas). Looks are paid for by
--   what each run brings (ReserveLemmas, PaysLemmas).
-- - Depth. What is finished stays, so a leaf nests too deep as soon as something in it does (DeeperLemmas).
--   It nests at most one deeper than it has pairs and links (`IsNear`), so the whole is checked only if they
--   are as many as the limit (NestingLemmas).
-- - The end. All segments of a source that is read to its end stand for its items, with all pairs made
--   (SettledLemmas, OutcomeLemmas). The walks over the marks write (WriteLemmas, TextWaitLemmas) and build
--   (BuildLemmas, SettleLemmas) what their events do.
-- - Lines of text. Nothing pairs among them, and they write their own text (PlainLemmas).
-- Words passes on names of the crates below.
pub mod InlineDepthLemmas
pub mod NumberLemmas
pub mod BacktickAtoms
pub mod BottomLemmas
pub mod ReserveLemmas
pub mod SearchLemmas
pub mod StepLemmas
pub mod EmphasisLemmas
pub mod CloserLemmas
pub mod EventLemmas
pub mod ReadingLemmas
pub mod StackLemmas
pub mod PartLemmas
pub mod WaitLemmas
pub mod ClosingLemmas
pub mod SegmentLemmas
pub mod PassLemmas
pub mod SlotLemmas
pub mod StateLemmas
pub mod PairDepthLemmas
pub mod CloserLoopLemmas
pub mod KeptLemmas
pub mod ReachLemmas
pub mod PassLoopLemmas
pub mod CallerLemmas
pub mod DepthLemmas
pub mod TextLemmas
pub mod PlainLemmas
pub mod CodeLemmas
pub mod MissingEndsLemmas
pub mod MissingForms
pub mod FormStarts
pub mod LabelLemmas
pub mod LinkLemmas
pub mod DeeperLemmas
pub mod StandaloneLemmas
pub mod SliceLemmas
pub mod StandLemmas
pub mod AllowanceLemmas
pub mod AtomLemmas
pub mod BracketLemmas
pub mod JoinLemmas
pub mod OpenLemmas
pub mod KeepsLemmas
pub mod WholeLemmas
pub mod PaysLemmas
pub mod ReaderLemmas
pub mod ClosedLinkLemmas
pub mod ClosingBracketLemmas
pub mod SettledLemmas
pub mod RightBracketLemmas
pub mod HtmlLemmas
pub mod LaidLemmas
pub mod WriteLemmas
pub mod TagLemmas
pub mod RunLemmas
pub mod MarkLemmas
pub mod TextWaitLemmas
pub mod BuildLemmas
pub mod SettleLemmas
pub mod NestingLemmas
pub mod OutcomeLemmas
pub mod Words
