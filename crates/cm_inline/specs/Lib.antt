pub mod Closers
pub mod Emphases
pub mod Reading
pub mod steps
pub mod WorkedExamples
