pub mod FeedSteps
pub mod FirstLine
pub mod LabelSteps
pub mod NameTable
pub mod TextAhead
