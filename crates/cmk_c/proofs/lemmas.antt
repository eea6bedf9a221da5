pub mod CallLemmas
pub mod JsonLemmas
pub mod PlaceLemmas
pub mod LineLemmas
