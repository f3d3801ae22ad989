pub mod Actions
pub mod Checks
pub mod ModuleFile
pub mod Parts
pub mod Spaces
pub mod Inside
