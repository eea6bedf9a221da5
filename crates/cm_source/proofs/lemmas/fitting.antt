pub mod Neighbours
pub mod InlineEdges
pub mod EdgesOfKinds
pub mod FittingLemmas
pub mod TreesAreUtf8
pub mod TextsAreUtf8
pub mod SpellingsAreUtf8
