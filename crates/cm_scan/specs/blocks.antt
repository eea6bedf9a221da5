pub mod Lines
pub mod LineForms
pub mod HtmlBlocks
pub mod HtmlKinds
pub mod Starts
pub mod Parts
pub mod Blocks
