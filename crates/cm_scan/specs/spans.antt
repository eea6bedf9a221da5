pub mod Tags
pub mod RawHtml
pub mod Autolinks
pub mod CodeSpans
pub mod Angles
pub mod Reach
