pub mod PartsRead
pub mod InlinesRead
pub mod TreesRead
