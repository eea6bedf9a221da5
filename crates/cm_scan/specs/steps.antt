pub mod LineSteps
pub mod TagNames
pub mod LinkSteps
pub mod SpanSteps
