pub mod WrittenLineLemmas
pub mod SpelledBlocks
pub mod SpelledTexts
pub mod NoLineFeeds
pub mod SpellerLemmas
pub mod SearchLemmas
pub mod WithoutDefinitions
