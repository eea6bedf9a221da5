-- How the proof of cm_text goes. A line buffer stands for bytes of whose lines some have been passed
-- (`StandsFor`), and so does a line feed. Each call's clause holds for all bytes that it stood for, so it
-- doesn't matter how the bytes were cut. The lines are those of the cut of the text that hasn't been passed
-- (`cut_of`); UnreadLemmas finds the first of them by its end. A `LineFeed` is a buffer whose finished lines
-- are moved after those that are ready (ReadyLemmas), which changes nothing that is seen.
pub mod PiecesLemmas
pub mod ReplacedLemmas
pub mod CutLemmas
pub mod UnreadLemmas
pub mod TextLemmas
pub mod LinesLemmas
pub mod Utf8Lemmas
pub mod FeedLemmas
pub mod ReadyLemmas
pub mod SettledLemmas
pub mod LabelLemmas
pub mod Computing
pub mod WriteLemmas
pub mod CharacterLemmas
pub mod IndentationLemmas
pub mod NameLemmas
pub mod ReferenceLemmas
pub mod ReferenceReach
pub mod UnescapingLemmas
pub mod SearchLemmas
pub mod StripLemmas
pub mod ViewLemmas
pub mod EndedLines
pub mod FoldLemmas
pub mod PlainLabels
pub mod AddressLemmas
pub mod TextLineLemmas
