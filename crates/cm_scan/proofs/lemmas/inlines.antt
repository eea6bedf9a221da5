pub mod ReadingSteps
pub mod LeftByEachStep
pub mod DelimiterRuns
pub mod PairingLemmas
pub mod PairingInPieces
pub mod ReadingInPieces
pub mod OnePassLemmas
