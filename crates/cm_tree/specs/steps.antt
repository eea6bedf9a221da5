pub mod ItemSteps
pub mod KeptTexts
pub mod LabelIndex
pub mod RawSteps
pub mod Entries
