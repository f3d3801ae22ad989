pub mod Degrees
pub mod TextSteps
pub mod Elements
pub mod Values
pub mod AboveSpan
pub mod Widths
pub mod Derived
pub mod Derivation
mod Plain
mod PlainModule
pub mod SampleFile
mod OneGenerator
mod GradedModules
pub mod Crossing
