pub mod ContentLabels
pub mod LineFronts
pub mod ContentFronts
pub mod ContentEnds
pub mod KeptBytes
pub mod SourceLemmas
