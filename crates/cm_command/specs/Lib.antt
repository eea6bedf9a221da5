pub mod CommandLine
pub mod WordExamples
pub mod steps
