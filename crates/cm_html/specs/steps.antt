pub mod AlternativeText
pub mod Bytes
pub mod FormedTexts
pub mod HtmlParts
pub mod Pages
