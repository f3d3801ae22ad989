pub mod Generators
pub mod MadeRows
pub mod Widths
pub mod Resolved
pub mod Preimages
mod MadeLifts
mod Images
pub mod Goals
pub mod Places
mod Squares
mod Growing
mod Finished
pub mod Classes
pub mod Applied
pub mod Canonical
