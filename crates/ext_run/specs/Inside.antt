pub mod Adding
pub mod Images
