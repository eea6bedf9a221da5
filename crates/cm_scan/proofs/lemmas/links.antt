pub mod BareDestinations
pub mod BracketedParts
pub mod TitlesAndDestinations
pub mod DefinitionParts
pub mod LineFeedsLeft
