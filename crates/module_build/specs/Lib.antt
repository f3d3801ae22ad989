pub mod Names
pub mod Limits
pub mod FileText
pub mod Inside
