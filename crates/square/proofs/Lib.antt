mod RowWidths
pub mod Footings
pub mod Fitting
pub mod Places
pub mod ByDegree
pub mod Pushing
pub mod Growing
mod FirstParts
pub mod Kept
pub mod Puts
mod Rows
mod Looking
mod Matrices
pub mod Targets
pub mod Found
pub mod Crossing
pub mod Reducing
pub mod Retaining
