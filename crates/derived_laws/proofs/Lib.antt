mod Before
mod Steps
pub mod UniqueDerived
pub mod Refused
