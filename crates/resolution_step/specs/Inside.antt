-- What the loop keeps as it goes.
pub mod Adding
