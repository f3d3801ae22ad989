pub mod Parts
pub mod BuildAnswers
