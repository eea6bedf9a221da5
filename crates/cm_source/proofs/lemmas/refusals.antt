pub mod RefusalLemmas
pub mod BlockRefusals
pub mod HtmlAlone
