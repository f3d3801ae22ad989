mod Fronts
mod Kept
mod Made
mod Whole
mod Ends
mod Shapes
pub mod Crossing
