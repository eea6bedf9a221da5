pub mod BytesRead
pub mod CodesRead
pub mod TargetsRead
pub mod TagsRead
pub mod ContentRead
pub mod InlineItems
pub mod UnescapeBack
